-- `levels::scale_at` meets its contract. Assumes nothing.
use Prim.Native.Nat.{◌^◌, ◌<◌}
use mathlib.Core.Path.{◌≡◌, refl, ◌∙◌}
use mathlib.Core.List.{[]}
use lib.IntN.{pos}
use lib.ListN.{get_or}
use mir.Syntax.{w32}
use mir.Val.{to_z, of_z}
use mir.ValLaws.{to_z-of_z}
use Rattle.levels.specs.Work.{scale_of, scale_at}
use Rattle.levels.proofs.Signed.{back}
use Rattle.levels.proofs.ScaleRows.{small_unit_fits, large_unit_fits, up_fits, below_fits, neg_is, neg_fits, row_is_scale}
use Rattle.levels.proofs.scale_at.Goals as goal
use Rattle.levels.proofs.scale_at.Goals.{After-row_of, After-whole-4}

-- the row is the scale of the hebap and the gain
is : (c : After-row_of) → scale_at (get_or c.scales.result.now c.row_of.result []) ≡ scale_of c.args.hebap c.args.gk
is c = rw c.row_of.ensures (c.scales.ensures.each c.args.hebap c.args.gk c.requires.0 c.requires.1)

pub whole-requires-clause-k_value : goal.whole-requires-clause-k_value
whole-requires-clause-k_value c = small_unit_fits c.args.hebap c.args.gk c.requires.0 c.requires.1 _ (is (goal.at.whole-requires-clause-k_value c).After-row_of)

pub whole-requires-2-clause-k_value : goal.whole-requires-2-clause-k_value
whole-requires-2-clause-k_value c = large_unit_fits c.args.hebap c.args.gk c.requires.0 c.requires.1 _ (is (goal.at.whole-requires-2-clause-k_value c).After-row_of)

pub whole-requires-3-clause-k_value : goal.whole-requires-3-clause-k_value
whole-requires-3-clause-k_value c = up_fits c.args.hebap c.args.gk c.requires.0 c.requires.1 _ (is (goal.at.whole-requires-3-clause-k_value c).After-row_of)

pub whole-requires-4-clause-k_value : goal.whole-requires-4-clause-k_value
whole-requires-4-clause-k_value c = below_fits c.args.hebap c.args.gk c.requires.0 c.requires.1 _ (is (goal.at.whole-requires-4-clause-k_value c).After-row_of)

-- b for numbers below 0, as its size is read back
below_is : (c : After-whole-4) → to_z w32 (of_z w32 c.whole-4.result) ≡ pos (get_or (get_or c.scales.result.now c.row_of.result []) 10 0)
below_is c = back w32 c.whole-4.result c.whole-4.type_inv c.whole-4.ensures

below_under : (c : After-whole-4) → get_or (get_or c.scales.result.now c.row_of.result []) 10 0 < 2 ^ 31
below_under c = below_fits c.args.hebap c.args.gk c.requires.0 c.requires.1 _ (is (goal.at.overflow_sub-result c).After-row_of)

pub overflow_sub-result : goal.overflow_sub-result
overflow_sub-result c = rw (below_is c) (neg_fits _ (below_under c))

pub invariant_of-result-clause-is : goal.invariant_of-result-clause-is
invariant_of-result-clause-is c = row_is_scale c.args.hebap c.args.gk c.requires.0 c.requires.1 _ (is (goal.at.invariant_of-result-clause-is c).After-row_of) _ _ _ _ _ _ _ _ _ _ _
    c.fraction.ensures c.fraction-2.ensures c.fraction-3.ensures refl refl c.fraction-4.ensures c.fraction-5.ensures
    (back w32 c.whole.result c.whole.type_inv c.whole.ensures) (back w32 c.whole-2.result c.whole-2.type_inv c.whole-2.ensures) (back w32 c.whole-3.result c.whole-3.type_inv c.whole-3.ensures)
    (to_z-of_z w32 _ (overflow_sub-result c) ∙ rw (below_is c) (neg_is (get_or (get_or c.scales.result.now c.row_of.result []) 10 0)))
