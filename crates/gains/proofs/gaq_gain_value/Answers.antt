-- `gains::gaq_gain_value` meets its contract. Assumes nothing.
use borrow.Author.Tests.{le-leb, lt-leb}
use Rattle.gains.specs.Gains.{gaq_gain_value}
use Rattle.gains.proofs.gaq_gain_value.Goals as goal

pub returns-then-gaqmod-gt3 : goal.returns-then-gaqmod-gt3
unfolding gaq_gain_value
returns-then-gaqmod-gt3 c = simp (lt-leb _ _ c.if-gaqmod-gt3.true)

pub returns : goal.returns
unfolding gaq_gain_value
returns c = simp (le-leb _ _ c.if-gaqmod-gt3.false, c.gain_value.ensures)
