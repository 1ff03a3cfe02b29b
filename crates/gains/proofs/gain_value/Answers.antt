-- `gains::gain_value` meets its contract: at each `return` the tests that led there say which case of the definition
-- holds. Assumes nothing.
use borrow.Author.Tests.{eq-eqb, ne_eqb}
use Rattle.gains.specs.Gains.{gain_value}
use native.Mathlib.Omega.{arith}
use Rattle.gains.proofs.gain_value.Goals as goal

pub returns-then-code-eq0 : goal.returns-then-code-eq0
unfolding gain_value
returns-then-code-eq0 c = simp (eq-eqb _ _ c.if-code-eq0.true)

pub returns-in-1 : goal.returns-in-1
unfolding gain_value
returns-in-1 c = simp (c.in-1.is, ne_eqb _ _ c.if-code-eq0.false)

pub returns-in-2 : goal.returns-in-2
unfolding gain_value
returns-in-2 c = simp (c.in-2.is, ne_eqb _ _ c.if-code-eq0.false)

pub returns-then-code-eq1 : goal.returns-then-code-eq1
unfolding gain_value
returns-then-code-eq1 c = simp (c.in-3.is, ne_eqb _ _ c.if-code-eq0.false, eq-eqb _ _ c.if-code-eq1.true)

pub returns-else-code-eq1 : goal.returns-else-code-eq1
unfolding gain_value
returns-else-code-eq1 c = simp (c.in-3.is, ne_eqb _ _ c.if-code-eq0.false, ne_eqb _ _ c.if-code-eq1.false)

pub returns-in_default : goal.returns-in_default
unfolding gain_value
returns-in_default c = let m = c.args.gaqmod in simp (ne_eqb _ _ c.if-code-eq0.false, ne_eqb m 1 (omega arith), ne_eqb m 2 (omega arith), ne_eqb m 3 (omega arith))
