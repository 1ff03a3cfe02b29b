-- `planner::tally::tally_bins` meets its contract. Assumes nothing.
use Rattle.planner.specs.Work.{TalliesOf}
use Rattle.planner.proofs.tally.tally_bins.Given as goal

abbrev pub invariant-loop-bin : goal.invariant-loop-bin
invariant-loop-bin l = TalliesOf l.v.bins.row.now l.v.x.now l.v.bins.start l.bin l.plain l.tallies
