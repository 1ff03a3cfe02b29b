-- `levels::row_of` meets its contract. Assumes nothing.
use borrow.Author.Tests.{eq-eqb, ne_eqb}
use native.Mathlib.Omega.{arith}
use Rattle.levels.proofs.row_of.Goals as goal

pub returns-then-gk-eq1 : goal.returns-then-gk-eq1
returns-then-gk-eq1 c = rw (eq-eqb _ _ c.if-gk-eq1.true) (omega arith)

pub returns-then-gk-eq2 : goal.returns-then-gk-eq2
returns-then-gk-eq2 c = rw (ne_eqb _ _ c.if-gk-eq1.false, eq-eqb _ _ c.if-gk-eq2.true)

pub returns : goal.returns
returns c = rw (ne_eqb _ _ c.if-gk-eq1.false, ne_eqb _ _ c.if-gk-eq2.false)
