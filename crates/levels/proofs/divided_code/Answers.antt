-- `levels::divided_code` meets its contract. Assumes nothing.
use mir.Syntax.{w32}
use mir.ValLaws.{to_z-of_z}
use Rattle.levels.specs.Value.{divided}
use Rattle.levels.proofs.Signed.{in_float_lem}
use Rattle.levels.proofs.divided_code.Goals as goal

pub int_to_float-result : goal.int_to_float-result
int_to_float-result c = rw (to_z-of_z w32 c.args.k c.ranges.k) (in_float_lem c.args.k c.requires.k_bound)

pub returns : goal.returns
unfolding divided
returns c = rw (to_z-of_z w32 c.args.k c.ranges.k, c.scale.ensures)
