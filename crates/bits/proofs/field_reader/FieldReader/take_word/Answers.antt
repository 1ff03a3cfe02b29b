-- `bits::field_reader::FieldReader::take_word` meets its contract. Assumes nothing.
use mathlib.Core.Path.{refl}
use native.Mathlib.Omega.{arith}
use Rattle.bits.proofs.Taking.{word_got}
use Rattle.bits.proofs.field_reader.FieldReader.take_word.Goals as goal

pub returns-clause-reads : goal.returns-clause-reads
returns-clause-reads c = let s = c.args.self.now in
    word_got s _ c.args.n (omega arith) _ (omega arith) c.peek_word-v.ensures refl c.advance_bits-self.ensures
