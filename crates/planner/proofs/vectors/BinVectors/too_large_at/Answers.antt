-- `planner::vectors::BinVectors::too_large_at` meets its contract. Assumes nothing.
use Rattle.planner.proofs.Answer.{too_large_none, too_large_some}
use Rattle.planner.proofs.vectors.BinVectors.too_large_at.Goals as goal

pub returns-then-self-bin-eq0 : goal.returns-then-self-bin-eq0
returns-then-self-bin-eq0 c = let s = c.args in too_large_none s.self.bins.row.now s.self.x.now s.bin c.if-self-bin-eq0.true

pub returns : goal.returns
returns c = let s = c.args in too_large_some s.self.bins.row.now s.self.x.now s.bin c.any_too_large.result c.if-self-bin-eq0.false (rw c.six.ensures at c.any_too_large.ensures)
