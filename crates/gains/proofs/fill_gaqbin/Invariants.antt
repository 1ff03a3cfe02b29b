-- `gains::fill_gaqbin` meets its contract. Assumes nothing.
use Rattle.gains.proofs.Laws.{Marked}
use Rattle.gains.proofs.fill_gaqbin.Given as goal

abbrev pub invariant-loop-i : goal.invariant-loop-i
invariant-loop-i l = Marked l.gaqmod l.hebap l.initial.gaqbin l.i l.gaqbin l.active
