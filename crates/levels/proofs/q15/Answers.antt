-- `levels::q15` meets its contract. Assumes nothing.
use mathlib.Core.Path.{ap}
use mir.Syntax.{w16}
use mir.ValLaws.{to_z-of_z}
use Rattle.levels.specs.Value.{q15}
use Rattle.levels.proofs.q15.Goals as goal

pub returns : goal.returns
unfolding q15
returns c = ap q15 (to_z-of_z w16 c.args.v c.ranges.v)
