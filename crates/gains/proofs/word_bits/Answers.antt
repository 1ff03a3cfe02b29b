-- `gains::word_bits` meets its contract. Assumes nothing.
use borrow.Author.Tests.{eq-eqb, ne_eqb}
use Rattle.gains.specs.Gains.{word_bits}
use Rattle.gains.proofs.word_bits.Goals as goal

pub returns-then-gaqmod-eq3 : goal.returns-then-gaqmod-eq3
unfolding word_bits
returns-then-gaqmod-eq3 c = simp (eq-eqb _ _ c.if-gaqmod-eq3.true)

pub returns-else-gaqmod-eq3 : goal.returns-else-gaqmod-eq3
unfolding word_bits
returns-else-gaqmod-eq3 c = simp (ne_eqb _ _ c.if-gaqmod-eq3.false)
