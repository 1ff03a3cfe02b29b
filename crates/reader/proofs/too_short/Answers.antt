-- `reader::too_short` meets its contract. Assumes nothing.
use Prim.Native.Nat.{◌*◌}
use mathlib.Core.Path.{sym}
use native.Mathlib.Omega.{arith}
use borrow.Author.Tests.{lt-ltb, le-ltb}
use Rattle.reader.proofs.too_short.Goals as goal

pub returns-then-values-end : goal.returns-then-values-end
returns-then-values-end c = let a = c.args in sym (rw (lt-ltb a.values (6 * a.end) (omega arith)))

pub returns-then-exact-end : goal.returns-then-exact-end
returns-then-exact-end c = let a = c.args in sym (rw (le-ltb a.values (6 * a.end) (omega arith), lt-ltb a.exact (6 * a.end) (omega arith)))

pub returns : goal.returns
returns c = let a = c.args in sym (rw (le-ltb a.values (6 * a.end) (omega arith), le-ltb a.exact (6 * a.end) (omega arith)))
