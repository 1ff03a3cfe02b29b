-- `writer::FieldWriter::write_gain_bits` meets its contract. Assumes nothing.
use lib.ListN.{drop}
use Rattle.writer.specs.Work.{gains_enc}
use Rattle.writer.proofs.Turns.{Left}
use Rattle.writer.proofs.FieldWriter.write_gain_bits.Given as goal

abbrev pub invariant-loop-gk : goal.invariant-loop-gk
invariant-loop-gk l = Left l.initial.self l.self (gains_enc l.mode (drop l.gk-index l.gains)) (gains_enc l.mode l.gains)
