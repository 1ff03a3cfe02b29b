-- `planner::tally::tally_bin` meets its contract. Assumes nothing.
use Prim.Native.Nat.{ℕ, ◌≤◌}
use mathlib.Core.Path.{◌≡◌}
use mathlib.Core.Bool.{cond}
use lib.Dec.{ltb}
use lib.ListN.{length}
use Rattle.planner.specs.Work.{tally_at, with_bin}
use Rattle.planner.proofs.tally.tally_bin.Given as goal

abbrev pub invariant-loop-mode : goal.invariant-loop-mode
invariant-loop-mode l = (length l.tallies ≡ 4) × ((m : ℕ) → m ≤ 3 → tally_at l.tallies m ≡ cond (ltb m l.mode) (with_bin m l.hebap l.c (tally_at l.initial.tallies m)) (tally_at l.initial.tallies m))
