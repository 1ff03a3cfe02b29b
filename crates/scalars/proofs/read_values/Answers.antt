-- `scalars::read_values` meets its contract. Assumes nothing.
use native.Mathlib.Omega.{arith}
use Rattle.scalars.proofs.Six.{values_all}
use Rattle.scalars.proofs.read_values.Goals as goal

pub returns-clause-out_after : goal.returns-clause-out_after
returns-clause-out_after c =
    let a = c.args in
    let n = c.scale_at.ensures in
    let d = rw (n.0, n.1) at c.in_ok-read_each.ensures in
    values_all a.hebap a.gk a.out.now _ _ a.reader.now _ d.values_after (omega arith) d.reads
