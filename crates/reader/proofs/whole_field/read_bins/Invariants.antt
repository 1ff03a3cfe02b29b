-- `reader::whole_field::read_bins` meets its contract. The invariant is Bins.SoFar, what was read. Assumes nothing.
use mathlib.Core.Path.{◌≡◌}
use Rattle.bits.specs.Takes.{ahead}
use Rattle.channel.specs.Row.{active_count}
use Rattle.reader.proofs.Bins.{SoFar}
use Rattle.reader.proofs.whole_field.read_bins.Given as goal

abbrev pub invariant-loop-bin : goal.invariant-loop-bin
invariant-loop-bin l = let b = l.bins in
    SoFar l.mode b.row.now l.gains b.start b.end (ahead l.initial.reader) l.initial.scratch (ahead l.reader) l.bin l.scratch
    × (l.n ≡ active_count l.mode b.row.now b.start l.bin) × (l.reader.src.now ≡ l.initial.reader.src.now)
