-- `gains::words_read` meets its contract. Assumes nothing.
use borrow.Author.Tests.{eq-eqb, ne_eqb}
use Rattle.gains.specs.Gains.{words_read}
use Rattle.gains.proofs.words_read.Goals as goal

pub returns-then-gaqmod-eq0 : goal.returns-then-gaqmod-eq0
unfolding words_read
returns-then-gaqmod-eq0 c = simp (eq-eqb _ _ c.if-gaqmod-eq0.true)

pub returns-then-gaqmod-eq3 : goal.returns-then-gaqmod-eq3
unfolding words_read
returns-then-gaqmod-eq3 c = simp (ne_eqb _ _ c.if-gaqmod-eq0.false, eq-eqb _ _ c.if-gaqmod-eq3.true)

pub returns : goal.returns
unfolding words_read
returns c = simp (ne_eqb _ _ c.if-gaqmod-eq0.false, ne_eqb _ _ c.if-gaqmod-eq3.false, c.min.ensures)
