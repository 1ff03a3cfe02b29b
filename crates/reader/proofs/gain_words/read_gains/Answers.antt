-- `reader::gain_words::read_gains` meets its contract. Assumes nothing.
use mathlib.Core.Path.{refl}
use lib.ListN.{length}
use native.Mathlib.Omega.{arith}
use Rattle.bits.specs.Takes.{ahead}
use Rattle.bits.proofs.Taking.{takes_got}
use Rattle.reader.proofs.GainWords.{words_zero, words_three}
use Rattle.reader.proofs.gain_words.read_gains.Goals as goal

pub returns-in-0 : goal.returns-in-0
returns-in-0 c = let a = c.args in takes_got _ _ _ _ _ _ (words_zero a.mode (length a.gains.now) (ahead a.reader.now) (omega arith)) refl refl

pub returns-in-3 : goal.returns-in-3
returns-in-3 c = let a = c.args in rw (words_three a.mode (length a.gains.now) (omega arith)) c.read_group_words.ensures
