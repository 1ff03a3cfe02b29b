-- `writer::FieldWriter::write_six` meets its contract. Assumes nothing.
use lib.ListN.{drop}
use Rattle.writer.proofs.Turns.{Left}
use Rattle.writer.proofs.Words.{codes_for}
use Rattle.writer.proofs.FieldWriter.write_six.Given as goal

abbrev pub invariant-loop-component : goal.invariant-loop-component
invariant-loop-component l = Left l.initial.self l.self (codes_for l.steps.hebap l.steps.gk (drop l.component-index l.x)) (codes_for l.steps.hebap l.steps.gk l.x)
