-- `bits::from_four` meets its contract. Assumes nothing.
use Prim.Native.Nat.{◌*◌}
use lib.Pow.{pow_pos}
use Rattle.bits.specs.Bits.{bits_of}
use Rattle.bits.proofs.Laws.{number_short}
use native.Mathlib.Omega.{arith}
use Rattle.bits.proofs.from_four.Goals as goal

pub nonzero_rem-result : goal.nonzero_rem-result
nonzero_rem-result c = rw c.pow2.ensures (pow_pos _)

pub returns : goal.returns
returns c = let f = c.four_bytes in
    let a = c.args in
    rw c.pow2.ensures (number_short (bits_of a.src.now) (8 * a.q) a.r a.n f.result (omega arith) f.ensures.src_value)
