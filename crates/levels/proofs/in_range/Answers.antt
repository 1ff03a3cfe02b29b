-- `levels::in_range` meets its contract. Assumes nothing.
use mathlib.Core.Path.{◌∙◌}
use lib.Ieee.{of_bits, neg}
use Rattle.levels.proofs.Range.{range_low, range_out}
use Rattle.levels.proofs.in_range.Goals as goal

pub returns-then-x : goal.returns-then-x
unfolding of_bits neg
returns-then-x c = range_low c.args.x c.if-x.true

pub returns-else-x : goal.returns-else-x
unfolding of_bits neg
returns-else-x c = c.if-x.false ∙ range_out c.args.x c.if-x.false
