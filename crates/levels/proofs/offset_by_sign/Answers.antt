-- `levels::offset_by_sign` meets its contract. Assumes nothing.
use mathlib.Core.Path.{◌≡◌, refl}
use lib.IntN.{ℤ, pos}
use borrow.Author.Tests.{eq-eqb, ne_eqb}
use mir.Syntax.{w16}
use Rattle.levels.proofs.Signed.{by_test, back}
use Rattle.levels.proofs.offset_by_sign.Goals as goal

pub returns-then-gk-eq1 : goal.returns-then-gk-eq1
returns-then-gk-eq1 c = simp (eq-eqb _ _ c.if-gk-eq1.true) (by_test (λ (z : ℤ). pos 0 ≡ z) c.args.below (pos 0) (pos 0) refl refl)

pub returns-then-below : goal.returns-then-below
returns-then-below c = back w16 c.gaq_remap_at.result c.gaq_remap_at.type_inv (simp (ne_eqb _ _ c.if-gk-eq1.false, eq-eqb _ _ c.if-gk-eq2.true, c.if-below.true) c.gaq_remap_at.ensures)

pub returns-then-gk-eq2 : goal.returns-then-gk-eq2
returns-then-gk-eq2 c = back w16 c.gaq_remap_at-then-gk-eq2.result c.gaq_remap_at-then-gk-eq2.type_inv (simp (ne_eqb _ _ c.if-gk-eq1.false, eq-eqb _ _ c.if-gk-eq2.true, c.if-below.false) c.gaq_remap_at-then-gk-eq2.ensures)

pub returns-then-below-2 : goal.returns-then-below-2
returns-then-below-2 c = back w16 c.gaq_remap_at-then-below-2.result c.gaq_remap_at-then-below-2.type_inv (simp (ne_eqb _ _ c.if-gk-eq1.false, ne_eqb _ _ c.if-gk-eq2.false, c.if-below-2.true) c.gaq_remap_at-then-below-2.ensures)

pub returns : goal.returns
returns c = back w16 c.gaq_remap_at-2.result c.gaq_remap_at-2.type_inv (simp (ne_eqb _ _ c.if-gk-eq1.false, ne_eqb _ _ c.if-gk-eq2.false, c.if-below-2.false) c.gaq_remap_at-2.ensures)
