-- `planner::fit::chosen_bits` meets its contract. Assumes nothing.
use mathlib.Core.Path.{◌≡◌}
use Rattle.channel.specs.Bins.{sum_over}
use Rattle.channel.specs.Row.{active_count}
use Rattle.planner.specs.Choice.{chosen_at}
use Rattle.planner.proofs.fit.chosen_bits.Given as goal

abbrev pub invariant-loop-bin : goal.invariant-loop-bin
invariant-loop-bin l = (l.n ≡ active_count l.mode l.v.bins.row.now l.v.bins.start l.bin) × (l.bits ≡ sum_over (chosen_at l.mode l.gains l.v.bins.row.now l.v.x.now l.v.bins.start) l.v.bins.start l.bin)
