-- `levels::large_bits` meets its contract. Assumes nothing.
use borrow.Author.Tests.{eq-eqb, ne_eqb}
use Rattle.levels.proofs.large_bits.Goals as goal

pub returns-then-gk-eq2 : goal.returns-then-gk-eq2
returns-then-gk-eq2 c = simp (eq-eqb _ _ c.if-gk-eq2.true)

pub returns-else-gk-eq2 : goal.returns-else-gk-eq2
returns-else-gk-eq2 c = simp (ne_eqb _ _ c.if-gk-eq2.false)
