-- `planner::fit::any_wrong` meets its contract. Assumes nothing.
use Rattle.std.proofs.Common.{rules}
use Rattle.std.proofs.iter.runs.Sources.{ranges}
use Rattle.channel.proofs.Over.{some_is}
use Rattle.planner.specs.Fit.{wrong_gain}
use Rattle.planner.proofs.fit.any_wrong.Goals as goal

pub returns : goal.returns
unfolding wrong_gain
returns c = some_is (wrong_gain c.args.mode c.args.gains.now) 0 c.args.count c.any.result (search (rules, ranges))
