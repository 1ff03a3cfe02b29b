-- `planner::vectors::BinVectors::any_too_large` meets its contract. Assumes nothing.
use Rattle.std.proofs.Common.{rules}
use Rattle.std.proofs.iter.runs.Sources.{ranges}
use Rattle.channel.proofs.Over.{some_is}
use Rattle.planner.specs.Planning.{beyond_at, too_large_at}
use Rattle.planner.proofs.vectors.BinVectors.any_too_large.Goals as goal

pub returns : goal.returns
unfolding beyond_at
returns c = some_is (too_large_at c.args.self.bins.row.now c.args.self.x.now) c.args.self.bins.start c.args.self.bins.end c.any.result (search (rules, ranges))
