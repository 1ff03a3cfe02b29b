-- `planner::tally::best_mode` meets its contract. Assumes nothing.
use Prim.Native.Nat.{◌<◌, ◌-◌}
use mathlib.Core.Path.{◌≡◌}
use Rattle.planner.specs.Choice.{least_up_to}
use Rattle.planner.specs.Work.{payload_at}
use Rattle.planner.proofs.tally.best_mode.Given as goal

abbrev pub invariant-loop-mode : goal.invariant-loop-mode
invariant-loop-mode l = (l.best < l.mode) × (l.best ≡ least_up_to (payload_at l.plain l.tallies) (l.mode - 1))
