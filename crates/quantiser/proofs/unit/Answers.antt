-- `quantiser::unit` meets its contract. Assumes nothing.
use Rattle.std.proofs.Common.{◌∙◌, lit<, eq-eqb, ne_eqb}
use Rattle.quantiser.proofs.unit.Goals as goal

pub returns-then-gk-eq1 : goal.returns-then-gk-eq1
returns-then-gk-eq1 c = c.remap_by.ensures ∙ rw (eq-eqb _ _ c.if-gk-eq1.true)

pub value-requires : goal.value-requires
value-requires c = lit< tt

pub value-requires-2 : goal.value-requires-2
value-requires-2 c = lit< tt

pub returns : goal.returns
returns c = c.at_least.ensures ∙ rw (ne_eqb _ _ c.if-gk-eq1.false, c.value.ensures, c.value-2.ensures)
