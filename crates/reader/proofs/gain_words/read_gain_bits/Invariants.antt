-- `reader::gain_words::read_gain_bits` meets its contract. The invariant is GainWords.SoFar. Assumes nothing.
use mathlib.Core.Path.{◌≡◌}
use lib.ListN.{length}
use Rattle.bits.specs.Takes.{ahead}
use Rattle.channel.specs.Field.{gain_words}
use Rattle.reader.proofs.GainWords.{SoFar}
use Rattle.reader.proofs.gain_words.read_gain_bits.Given as goal

abbrev pub invariant-loop-gain : goal.invariant-loop-gain
invariant-loop-gain l = SoFar (gain_words l.mode) (length l.initial.gain-items) (ahead l.initial.reader) l.initial.gain-items (ahead l.reader) l.gain-index l.gain-items × (l.reader.src.now ≡ l.initial.reader.src.now)
