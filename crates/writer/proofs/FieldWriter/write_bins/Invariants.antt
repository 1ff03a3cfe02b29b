-- `writer::FieldWriter::write_bins` meets its contract. Assumes nothing.
use mathlib.Core.Path.{◌≡◌}
use Rattle.channel.specs.Row.{active_count}
use Rattle.writer.specs.Work.{bins_enc}
use Rattle.writer.proofs.Turns.{Left}
use Rattle.writer.proofs.FieldWriter.write_bins.Given as goal

abbrev pub invariant-loop-bin : goal.invariant-loop-bin
invariant-loop-bin l = (l.n ≡ active_count l.mode l.v.bins.row.now l.v.bins.start l.bin) × Left l.initial.self l.self (bins_enc l.mode l.gains l.v.bins l.v.x.now l.bin) (bins_enc l.mode l.gains l.v.bins l.v.x.now l.v.bins.start)
