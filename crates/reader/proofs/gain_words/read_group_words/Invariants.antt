-- `reader::gain_words::read_group_words` meets its contract. The invariant is GainWords.SoFar. Assumes nothing.
use mathlib.Core.Path.{◌≡◌}
use lib.ListN.{length}
use Rattle.bits.specs.Takes.{ahead}
use Rattle.channel.specs.Field.{group_words}
use Rattle.reader.proofs.GainWords.{SoFar}
use Rattle.reader.proofs.gain_words.read_group_words.Given as goal

abbrev pub invariant-loop-i : goal.invariant-loop-i
invariant-loop-i l = SoFar group_words (length l.initial.gains) (ahead l.initial.reader) l.initial.gains (ahead l.reader) l.i l.gains × (l.reader.src.now ≡ l.initial.reader.src.now)
