-- `planner::costs::Costs::best_gain` meets its contract. Assumes nothing.
use native.Mathlib.Omega.{arith}
use Rattle.planner.proofs.Steps.{gain_1, gain_2, gain_3, gain_none}
use Rattle.planner.proofs.costs.Costs.best_gain.Goals as goal

pub returns-in-1 : goal.returns-in-1
returns-in-1 c = let s = c.args in gain_1 s.mode c.cheaper.result s.self c.in-1.is c.cheaper.ensures

pub returns-in-2 : goal.returns-in-2
returns-in-2 c = let s = c.args in gain_2 s.mode c.cheaper-in-2.result s.self c.in-2.is c.cheaper-in-2.ensures

pub returns-in-3 : goal.returns-in-3
returns-in-3 c = let s = c.args in gain_3 s.mode c.cheaper-in-3.result c.cheaper-in-3-2.result s.self c.in-3.is c.cheaper-in-3.ensures c.cheaper-in-3-2.ensures

pub returns-in_default : goal.returns-in_default
returns-in_default c = gain_none c.args.mode c.args.self (omega arith) (omega arith) (omega arith)
