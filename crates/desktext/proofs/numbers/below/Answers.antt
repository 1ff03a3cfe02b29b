-- `desktext::numbers::below` meets its contract. Assumes nothing.
use Rattle.desktext.proofs.Signed.{below_found}
use Rattle.desktext.proofs.numbers.below.Goals as goal

pub returns : goal.returns
returns c = below_found _ _ _ _ c.in_ok-m.ensures.counts c.in_ok-m.ensures.shorter c.if-m-eq0.false
