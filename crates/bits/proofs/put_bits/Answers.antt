-- `bits::put_bits` meets its contract. Assumes nothing.
use Prim.Native.Nat.{◌+◌, ◌*◌}
use mathlib.Core.Path.{◌≡◌, refl, sym, ◌∙◌}
use native.Mathlib.Nat.{mod-lt}
use lib.Pow.{pow_pos}
use lib.ListN.{length, length-set}
use Rattle.bits.proofs.Laws.{take_bits_n, write_next, splice_none}
use native.Mathlib.Omega.{arith}
use Rattle.bits.proofs.put_bits.Goals as goal

pub loop-i-init : goal.loop-i-init
loop-i-init c = (omega arith, omega arith, omega arith, refl, sym (splice_none _ _))

pub nonzero_rem-w : goal.nonzero_rem-w
nonzero_rem-w c = rw c.pow2.ensures (pow_pos _)

pub patched-requires : goal.patched-requires
patched-requires c = (omega arith, rw c.pow2.ensures (mod-lt _ (pow_pos _)))

pub loop-i-preserved : goal.loop-i-preserved
loop-i-preserved c = let a = c.args in
    let e : length c.loop-i.out ≡ length a.out.now = c.loop-i.invariant.3 in (
      omega arith,
      omega arith,
      omega arith,
      simp length-set e,
      write_next a.out.now c.loop-i.out (8 * a.q + a.r) a.n a.v c.loop-i.i c.loop-i.b c.loop-i.p c.step-c.result _ c.patched.result
          c.loop-i.invariant.4 e c.loop-i.invariant.1 (omega arith) (omega arith) (omega arith) (omega arith) (rw c.pow2.ensures) c.patched.ensures,
    )

pub returns : goal.returns
returns c = let e : c.loop-i.i ≡ c.args.n = omega arith in
    c.loop-i.invariant.4 ∙ rw (e, take_bits_n)
