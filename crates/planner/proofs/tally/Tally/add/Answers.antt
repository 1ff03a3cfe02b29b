-- `planner::tally::Tally::add` meets its contract. Assumes nothing.
use Prim.Native.Nat.{◌+◌}
use mathlib.Core.Path.{◌≡◌, sym, ◌∙◌}
use native.Mathlib.Omega.{arith}
use Rattle.planner.specs.Work.{cost_in, with_bin}
use Rattle.planner.proofs.tally.Tally.add.Goals as goal

pub returns-then-is_active : goal.returns-then-is_active
unfolding with_bin
returns-then-is_active c = rw (sym c.is_active.ensures ∙ c.if-is_active.true, c.at.ensures, c.best_gain-gain.ensures)

pub returns-else-is_active : goal.returns-else-is_active
unfolding with_bin cost_in
returns-else-is_active c = let z : c.args.self.now.count + 0 ≡ c.args.self.now.count = omega arith in rw (sym c.is_active.ensures ∙ c.if-is_active.false, z)
