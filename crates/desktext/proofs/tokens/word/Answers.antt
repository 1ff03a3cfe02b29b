-- `desktext::tokens::word` meets its contract. Assumes nothing.
use Rattle.desktext.proofs.Laws.{word_other, word_found}
use Rattle.desktext.proofs.tokens.word.Goals as goal

pub returns-in_err-rest : goal.returns-in_err-rest
returns-in_err-rest c = rw c.from_residual.ensures (word_other _ _ _ c.in_err-rest.ensures.cases)

pub returns : goal.returns
returns c = let e = c.in_ok-rest.ensures.cases in word_found _ _ _ _ c.requires e.0 e.1 e.2
