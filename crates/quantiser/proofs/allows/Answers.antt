-- `quantiser::allows` meets its contract. Assumes nothing.
use Rattle.std.proofs.Common.{◌≡◌, ℕ, ◌≤◌, eqb, eq-eqb, ne_eqb, le-leb}
use borrow.Author.Tests.{lt-leb}
use Rattle.quantiser.specs.Quantise.{allowed}
use Rattle.quantiser.proofs.allows.Goals as goal

last : (h g : ℕ) → 8 ≤ h → h ≤ 19 → (g ≡ 1 → ⊥) → h ≤ 16 → (g ≡ 2 → ⊥) → eqb g 4 ≡ allowed h g
last h g a b p q r = simp (le-leb _ _ a, le-leb _ _ b, ne_eqb _ _ p, le-leb _ _ q, ne_eqb _ _ r)

pub returns-then-hebap-lt8 : goal.returns-then-hebap-lt8
returns-then-hebap-lt8 c = simp (lt-leb _ _ c.if-hebap-lt8.true)

pub returns-then-hebap-gt19 : goal.returns-then-hebap-gt19
returns-then-hebap-gt19 c = simp (le-leb _ _ c.if-hebap-lt8.false, lt-leb _ _ c.if-hebap-gt19.true)

pub returns-then-gk-eq1 : goal.returns-then-gk-eq1
returns-then-gk-eq1 c = simp (le-leb _ _ c.if-hebap-lt8.false, le-leb _ _ c.if-hebap-gt19.false, eq-eqb _ _ c.if-gk-eq1.true)

pub returns-then-hebap-gt16 : goal.returns-then-hebap-gt16
returns-then-hebap-gt16 c = simp (le-leb _ _ c.if-hebap-lt8.false, le-leb _ _ c.if-hebap-gt19.false, ne_eqb _ _ c.if-gk-eq1.false, lt-leb _ _ c.if-hebap-gt16.true)

pub returns-then-gk-eq2 : goal.returns-then-gk-eq2
returns-then-gk-eq2 c = simp (le-leb _ _ c.if-hebap-lt8.false, le-leb _ _ c.if-hebap-gt19.false, ne_eqb _ _ c.if-gk-eq1.false, le-leb _ _ c.if-hebap-gt16.false, eq-eqb _ _ c.if-gk-eq2.true)

pub returns : goal.returns
returns c = last c.args.hebap c.args.gk c.if-hebap-lt8.false c.if-hebap-gt19.false c.if-gk-eq1.false c.if-hebap-gt16.false c.if-gk-eq2.false
