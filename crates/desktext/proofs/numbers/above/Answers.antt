-- `desktext::numbers::above` meets its contract. Assumes nothing.
use Rattle.desktext.proofs.Signed.{above_found}
use Rattle.desktext.proofs.numbers.above.Goals as goal

pub returns : goal.returns
returns c = above_found _ _ _ _ c.in_ok-m.ensures.counts c.in_ok-m.ensures.shorter
