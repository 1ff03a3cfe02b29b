-- `planner::one_bin::tagged_bits` meets its contract. Assumes nothing.
use mathlib.Core.Path.{◌≡◌}
use Rattle.channel.specs.Bins.{sum_over}
use Rattle.planner.specs.Work.{tag_at}
use Rattle.planner.proofs.one_bin.tagged_bits.Given as goal

abbrev pub invariant-loop-component : goal.invariant-loop-component
invariant-loop-component l = l.n ≡ sum_over (tag_at l.limit l.x) 0 l.component-index
