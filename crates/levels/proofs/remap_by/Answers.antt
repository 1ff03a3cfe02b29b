-- `levels::remap_by` meets its contract. Assumes nothing.
use mathlib.Core.Path.{◌≡◌, ap}
use mathlib.Core.Bool.{cond}
use mathlib.Core.Logic.{inl, inr}
use lib.Ieee.{binary32, add, mul, le}
use Rattle.levels.specs.Value.{f0}
use Rattle.levels.specs.Work.{remap_by}
use Rattle.levels.proofs.Common.{chosen}
use Rattle.levels.proofs.remap_by.Goals as goal
use Rattle.levels.proofs.remap_by.Goals.{else-x, then-x}

pub returns : goal.returns
unfolding remap_by
returns c = let x = c.args in
    let b : c.if-x.b ≡ cond (le f0 x.x) x.r.up x.r.below =
    chosen (λ t. cond t x.r.up x.r.below) (le f0 x.x) c.if-x.b
    (elim c.if-x.branch [
      | then-x h ↦ inl (h.if-x.true, h.b-is)
      | else-x h ↦ inr (h.if-x.false, h.b-is)
    ]) in
    ap (add binary32 (add binary32 x.x (mul binary32 x.r.a x.x))) b
