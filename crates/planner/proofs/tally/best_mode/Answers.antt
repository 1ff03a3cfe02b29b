-- `planner::tally::best_mode` meets its contract. Assumes nothing.
use mathlib.Core.Path.{refl}
use native.Mathlib.Omega.{arith}
use Rattle.planner.specs.Choice.{least_up_to}
use Rattle.planner.specs.Work.{payload_at}
use Rattle.planner.proofs.Steps.{least_taken, least_kept}
use Rattle.planner.proofs.tally.best_mode.Goals as goal
use Rattle.planner.proofs.tally.best_mode.Goals.{then-next-least, else-next-least}

pub loop-mode-init : goal.loop-mode-init
unfolding least_up_to
loop-mode-init c = (omega arith, refl)

pub loop-mode-preserved : goal.loop-mode-preserved
loop-mode-preserved c =
    let cost = payload_at c.args.plain c.args.tallies.now in
    let v = c.loop-mode.invariant in
    elim c.if-next-least.branch [
      | then-next-least w ↦ rw w.best-is (least_taken cost c.loop-mode.mode c.loop-mode.best c.payload-next.result c.payload-least.result v.0 v.1 c.payload-next.ensures c.payload-least.ensures w.if-next-least.true)
      | else-next-least w ↦ rw w.best-is (least_kept cost c.loop-mode.mode c.loop-mode.best c.payload-next.result c.payload-least.result v.0 v.1 c.payload-next.ensures c.payload-least.ensures w.if-next-least.false)
    ]
