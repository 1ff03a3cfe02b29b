-- `scalars::read_fixed` meets its contract. The invariant is Ahead.Near: the codes read so far. Assumes nothing.
use Rattle.scalars.proofs.Ahead.{Near}
use Rattle.scalars.proofs.read_fixed.Given as goal

abbrev pub invariant-loop-j : goal.invariant-loop-j
invariant-loop-j l = Near l.s.hebap l.s.gk l.initial.local l.initial.values l.initial.exact l.local l.j l.values l.exact
