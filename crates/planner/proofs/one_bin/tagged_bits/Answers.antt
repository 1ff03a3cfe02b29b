-- `planner::one_bin::tagged_bits` meets its contract. Assumes nothing.
use Prim.Native.Nat.{ℕ, ◌+◌, ◌*◌}
use mathlib.Core.Path.{◌≡◌, refl, sym, ap}
use mathlib.Core.Bool.{Bool, true, false, cond}
use mir.Val.{bool_byte}
use native.Mathlib.Omega.{arith}
use Rattle.channel.proofs.Over.{sum_none, sum_turn}
use Rattle.planner.specs.Work.{tag_at, tagged_bits}
use Rattle.planner.proofs.one_bin.tagged_bits.Goals as goal

one_is : (b : Bool) → bool_byte b ≡ cond {A = ℕ} b 1 0
one_is true = refl
one_is false = refl

pub loop-component-init : goal.loop-component-init
loop-component-init c = sym (sum_none (tag_at c.args.limit c.args.x.now) 0 0 (omega arith))

pub loop-component-preserved : goal.loop-component-preserved
loop-component-preserved c = let s = c.args in let i = c.loop-component.component-index in
    rw (c.from-n.ensures, one_is, c.size.ensures)
    (sum_turn (tag_at s.limit s.x.now) 0 i c.loop-component.n _ (omega arith) c.loop-component.invariant refl)

pub returns : goal.returns
unfolding tagged_bits
returns c =
    let s = c.args in
    let i : c.loop-component.component-index ≡ 6 = omega (arith, c.requires.six) in
    ap (λ n. 6 * s.small + n * s.large) (rw i at c.loop-component.invariant)
