-- `scalars::read_here` meets its contract. Assumes nothing.
use native.Mathlib.Omega.{arith}
use Rattle.scalars.proofs.Six.{six_left}
use Rattle.scalars.proofs.read_here.Goals as goal

pub returns-then-not-has_bytes-clause-reads : goal.returns-then-not-has_bytes-clause-reads
returns-then-not-has_bytes-clause-reads c = let a = c.args in let e = c.read_each.ensures in
    six_left a.s.hebap a.s.gk a.values.now _ a.exact.now _ a.reader.now _ _ (omega arith) (omega arith) e.values_after e.exact_after e.reads

pub returns-then-s-eq1-clause-reads : goal.returns-then-s-eq1-clause-reads
returns-then-s-eq1-clause-reads c = let a = c.args in let e = c.read_fixed.ensures in
    six_left a.s.hebap a.s.gk a.values.now _ a.exact.now _ a.reader.now _ _ (omega arith) (omega arith) e.values_after e.exact_after e.reads

pub returns-else-s-eq1-clause-reads : goal.returns-else-s-eq1-clause-reads
returns-else-s-eq1-clause-reads c = let a = c.args in let e = c.read_small_or_large.ensures in
    six_left a.s.hebap a.s.gk a.values.now _ a.exact.now _ a.reader.now _ _ (omega arith) (omega arith) e.values_after e.exact_after e.reads
