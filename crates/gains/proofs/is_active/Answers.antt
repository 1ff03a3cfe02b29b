-- `gains::is_active` meets its contract. Assumes nothing.
use native.Mathlib.Omega.{arith}
use Rattle.gains.proofs.Cases.{active_low, active_by_end}
use Rattle.gains.proofs.is_active.Goals as goal

pub returns-then-hebap-lt8 : goal.returns-then-hebap-lt8
returns-then-hebap-lt8 c = let a = c.args in active_low a.gaqmod a.hebap (omega arith)

pub returns : goal.returns
returns c = let a = c.args in rw c.active_end.ensures (active_by_end a.gaqmod a.hebap (omega arith))
