-- `levels::times` meets its contract. Assumes nothing.
use mathlib.Core.Path.{◌∙◌}
use native.Mathlib.Omega.{arith}
use lib.IntN.{◌*ℤ◌}
use mir.Syntax.{w32}
use mir.ValLaws.{to_z-of_z}
use Rattle.levels.proofs.Sizes.{mag_abs, abs_mul}
use Rattle.levels.proofs.times.Goals as goal

pub overflow_mul-result : goal.overflow_mul-result
overflow_mul-result c = rw (to_z-of_z w32 c.args.x c.ranges.x, to_z-of_z w32 c.args.y c.ranges.y) (record { sfits = omega (arith, mag_abs (c.args.x *ℤ c.args.y), abs_mul c.args.x c.args.y) })

pub returns : goal.returns
returns c = to_z-of_z w32 _ (overflow_mul-result c) ∙ rw (to_z-of_z w32 c.args.x c.ranges.x, to_z-of_z w32 c.args.y c.ranges.y)
