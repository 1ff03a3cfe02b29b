-- `planner::one_bin::size` meets its contract. Assumes nothing.
use Rattle.planner.specs.Work.{size_of}
use Rattle.planner.proofs.one_bin.size.Goals as goal

pub returns-then-x : goal.returns-then-x
unfolding size_of
returns-then-x c = rw c.if-x.true

pub returns-else-x : goal.returns-else-x
unfolding size_of
returns-else-x c = rw c.if-x.false
