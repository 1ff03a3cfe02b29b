-- `quantiser::Steps::fill` meets its contract. Assumes nothing.
use Rattle.quantiser.proofs.Bins.{Done}
use Rattle.quantiser.proofs.Steps.fill.Given as goal

abbrev pub invariant-loop-j : goal.invariant-loop-j
invariant-loop-j l = Done l.self.hebap l.self.gk l.x l.values l.bits l.err l.j
