-- `writer::FieldWriter::write_gains` meets its contract. Assumes nothing.
use native.Mathlib.Omega.{arith}
use mathlib.Core.Path.{◌≡◌, subst, sym}
use Rattle.writer.specs.Work.{gains_enc}
use Rattle.writer.specs.Puts.{Room, Puts}
use Rattle.writer.proofs.Turns.{puts_none}
use Rattle.writer.proofs.Words.{words_zero}
use Rattle.writer.proofs.FieldWriter.write_gains.Goals as goal

pub write_group_words-requires : goal.write_group_words-requires
write_group_words-requires c = let a = c.args in
    let e : a.mode ≡ 3 = omega arith in
    subst (λ m. Room (gains_enc m a.gains.now) a.self.now) e c.requires.room

pub returns-in-0 : goal.returns-in-0
returns-in-0 c = let a = c.args in
    rw (words_zero a.mode a.gains.now (omega arith)) (puts_none a.self.now)

pub returns-in-3 : goal.returns-in-3
returns-in-3 c = let a = c.args in
    let e : a.mode ≡ 3 = omega arith in
    subst (λ m. Puts (gains_enc m a.gains.now) a.self.now c.write_group_words.new.self) (sym e) c.write_group_words.ensures
