-- `levels::slope_at` meets its contract. Assumes nothing.
use borrow.Author.Tests.{eq-eqb, ne_eqb}
use mir.Syntax.{w16}
use Rattle.levels.proofs.Signed.{back}
use Rattle.levels.proofs.slope_at.Goals as goal

pub returns-then-gk-eq1 : goal.returns-then-gk-eq1
returns-then-gk-eq1 c = back w16 c.gaq_remap_at.result c.gaq_remap_at.type_inv (simp (eq-eqb _ _ c.if-gk-eq1.true) c.gaq_remap_at.ensures)

pub returns-then-gk-eq2 : goal.returns-then-gk-eq2
returns-then-gk-eq2 c = back w16 c.gaq_remap_at-then-gk-eq2.result c.gaq_remap_at-then-gk-eq2.type_inv (simp (ne_eqb _ _ c.if-gk-eq1.false, eq-eqb _ _ c.if-gk-eq2.true) c.gaq_remap_at-then-gk-eq2.ensures)

pub returns : goal.returns
returns c = back w16 c.gaq_remap_at-2.result c.gaq_remap_at-2.type_inv (simp (ne_eqb _ _ c.if-gk-eq1.false, ne_eqb _ _ c.if-gk-eq2.false) c.gaq_remap_at-2.ensures)
