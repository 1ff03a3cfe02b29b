-- `planner::costs::Costs::at` meets its contract. Assumes nothing.
use borrow.Author.Tests.{ne_eqb}
use native.Mathlib.Omega.{arith}
use Rattle.planner.specs.Work.{cost_in}
use Rattle.planner.proofs.costs.Costs.at.Goals as goal

pub returns-in-1 : goal.returns-in-1
unfolding cost_in
returns-in-1 c = simp c.in-1.is

pub returns-in-2 : goal.returns-in-2
unfolding cost_in
returns-in-2 c = simp c.in-2.is

pub returns-in_default : goal.returns-in_default
unfolding cost_in
returns-in_default c = let k = c.args.gain in simp (ne_eqb k 1 (omega arith), ne_eqb k 2 (omega arith))
