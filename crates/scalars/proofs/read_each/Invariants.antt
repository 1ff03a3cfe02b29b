-- `scalars::read_each` meets its contract. The invariant is Six.SoFar: the codes read so far, of the same bytes. Assumes nothing.
use mathlib.Core.Path.{◌≡◌}
use Rattle.bits.specs.Takes.{ahead}
use Rattle.scalars.proofs.Six.{SoFar}
use Rattle.scalars.proofs.read_each.Given as goal

abbrev pub invariant-loop-j : goal.invariant-loop-j
invariant-loop-j l =
    SoFar l.s.hebap l.s.gk (ahead l.initial.local) l.initial.values l.initial.exact (ahead l.local) l.j l.values l.exact
    × (l.local.src.now ≡ l.initial.local.src.now)
