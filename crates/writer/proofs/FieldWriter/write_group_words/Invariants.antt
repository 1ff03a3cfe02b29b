-- `writer::FieldWriter::write_group_words` meets its contract. Assumes nothing.
use Rattle.std.specs.Slice.Iter.{chunks_rest, chunks_size}
use mathlib.Core.Path.{◌≡◌}
use Rattle.writer.specs.Work.{gains_enc}
use Rattle.writer.proofs.Turns.{Left}
use Rattle.writer.proofs.FieldWriter.write_group_words.Given as goal

abbrev pub invariant-loop-group : goal.invariant-loop-group
invariant-loop-group l = (chunks_size l.group-iterator ≡ 3) × Left l.initial.self l.self (gains_enc 3 (chunks_rest l.group-iterator)) (gains_enc 3 l.gains)
