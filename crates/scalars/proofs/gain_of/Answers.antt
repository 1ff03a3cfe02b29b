-- `scalars::gain_of` meets its contract. Assumes nothing.
use mathlib.Core.Path.{◌∙◌}
use Rattle.scalars.proofs.Laws.{gain_none, gain_there}
use Rattle.scalars.proofs.gain_of.Goals as goal

pub returns-then-gaqbin-eq1 : goal.returns-then-gaqbin-eq1
returns-then-gaqbin-eq1 c = c.gain_value.ensures ∙ gain_there c.args.gaqbin _ _ c.ranges.gaqbin c.if-gaqbin-eq1.true

pub returns : goal.returns
returns c = gain_none c.args.gaqbin _ _ c.ranges.gaqbin c.if-gaqbin-eq1.false
