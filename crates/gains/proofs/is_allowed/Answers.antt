-- `gains::is_allowed` meets its contract. Assumes nothing.
use Rattle.gains.proofs.Cases.{allowed_one, allowed_1, allowed_2, allowed_3_two, allowed_3_four, allowed_none}
use native.Mathlib.Omega.{arith}
use Rattle.gains.proofs.is_allowed.Goals as goal

pub returns-then-gain-eq1 : goal.returns-then-gain-eq1
returns-then-gain-eq1 c = let a = c.args in allowed_one a.gaqmod a.gain c.if-gain-eq1.true

pub returns-then-gain-eq2 : goal.returns-then-gain-eq2
returns-then-gain-eq2 c = let a = c.args in allowed_3_two a.gaqmod a.gain c.if-gain-eq1.false c.in-3.is c.if-gain-eq2.true

pub returns-in-1 : goal.returns-in-1
returns-in-1 c = let a = c.args in allowed_1 a.gaqmod a.gain c.if-gain-eq1.false c.in-1.is

pub returns-in-2 : goal.returns-in-2
returns-in-2 c = let a = c.args in allowed_2 a.gaqmod a.gain c.if-gain-eq1.false c.in-2.is

pub returns-else-gain-eq2 : goal.returns-else-gain-eq2
returns-else-gain-eq2 c = let a = c.args in allowed_3_four a.gaqmod a.gain c.if-gain-eq1.false c.in-3.is c.if-gain-eq2.false

pub returns-in_default : goal.returns-in_default
returns-in_default c = let a = c.args in allowed_none a.gaqmod a.gain c.if-gain-eq1.false (omega arith) (omega arith) (omega arith)
