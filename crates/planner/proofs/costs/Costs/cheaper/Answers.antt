-- `planner::costs::Costs::cheaper` meets its contract. Assumes nothing.
use Rattle.planner.specs.Work.{cost_in}
use Rattle.planner.proofs.Steps.{take_next, keep_first}
use Rattle.planner.proofs.costs.Costs.cheaper.Goals as goal

pub returns-then-at : goal.returns-then-at
returns-then-at c = let s = c.args in take_next (cost_in s.self) s.gain s.next c.at.result c.at-2.result c.at.ensures c.at-2.ensures c.if-at.true

pub returns-else-at : goal.returns-else-at
returns-else-at c = let s = c.args in keep_first (cost_in s.self) s.gain s.next c.at.result c.at-2.result c.at.ensures c.at-2.ensures c.if-at.false
