-- `gains::endbap_for_gaqmod` meets its contract. Assumes nothing.
use borrow.Author.Tests.{le-leb, lt-leb}
use Rattle.gains.specs.Gains.{endbap_for_gaqmod}
use Rattle.gains.proofs.endbap_for_gaqmod.Goals as goal

pub returns-then-gaqmod-gt3 : goal.returns-then-gaqmod-gt3
unfolding endbap_for_gaqmod
returns-then-gaqmod-gt3 c = simp (lt-leb _ _ c.if-gaqmod-gt3.true)

pub returns : goal.returns
unfolding endbap_for_gaqmod
returns c = simp (le-leb _ _ c.if-gaqmod-gt3.false, c.end_of.ensures)
