-- `bits::field_reader::FieldReader::read_u32` meets its contract. Assumes nothing.
use mathlib.Core.Path.{refl, sym, ◌∙◌}
use Rattle.answers.proofs.Numbers.{passed_on}
use Rattle.bits.specs.Bits.{bit_at}
use Rattle.bits.proofs.Reading.{next_inside}
use Rattle.bits.proofs.Taking.{number_got, number_refused}
use Rattle.bits.proofs.field_reader.FieldReader.read_u32.Goals as goal

pub returns-in_err-v-clause-reads : goal.returns-in_err-v-clause-reads
returns-in_err-v-clause-reads c = let a = c.args in
    rw (passed_on c.from_residual.ensures) (number_refused a.self.now _ a.n c.requires _ _ c.read_u32.ensures c.in_err-v.was)

pub invariant_of-self : goal.invariant_of-self
invariant_of-self c = let a = c.args in
    record { inside = next_inside a.self.now.src.now (bit_at a.self.now.pos) a.n c.requires _ _ (sym c.read_u32.ensures ∙ c.in_ok-v.was) }

pub returns-clause-reads : goal.returns-clause-reads
returns-clause-reads c = let a = c.args in number_got a.self.now _ a.n c.requires _ _ _ c.read_u32.ensures c.in_ok-v.was refl refl
