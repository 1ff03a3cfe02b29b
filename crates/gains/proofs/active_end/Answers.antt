-- `gains::active_end` meets its contract. Assumes nothing.
use mathlib.Core.Path.{◌∙◌}
use borrow.Author.Tests.{ne_eqb}
use Rattle.gains.proofs.active_end.Goals as goal

pub returns-then-gaqmod-eq0 : goal.returns-then-gaqmod-eq0
returns-then-gaqmod-eq0 c = simp c.if-gaqmod-eq0.true

pub returns-else-gaqmod-eq0 : goal.returns-else-gaqmod-eq0
returns-else-gaqmod-eq0 c = c.end_of.ensures ∙ simp (ne_eqb _ _ c.if-gaqmod-eq0.false)
