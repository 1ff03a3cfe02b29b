-- `scalars::read_small_or_large` meets its contract. The invariant is Ahead.Near: the codes read so far. Assumes nothing.
use mathlib.Core.Path.{ap, ◌∙◌}
use native.Mathlib.Omega.{arith}
use mir.Syntax.{w32}
use mir.ValLaws.{to_z-of_z}
use Rattle.levels.specs.Value.{value_in}
use Rattle.scalars.proofs.Ahead.{at_first, code_accepted, turn, taken_all}
use Rattle.scalars.proofs.read_small_or_large.Goals as goal

pub loop-j-init : goal.loop-j-init
loop-j-init c = let a = c.args in at_first a.s.hebap a.s.gk a.reader.now a.values.now a.exact.now

pub level_of-requires : goal.level_of-requires
level_of-requires c = record { accepted = code_accepted c.args.s _ _ _ c.take_code-code.ensures.reads }

pub exact_value-requires : goal.exact_value-requires
exact_value-requires c = record { accepted = code_accepted c.args.s _ _ _ c.take_code-code.ensures.reads }

pub loop-j-preserved : goal.loop-j-preserved
loop-j-preserved c =
    let y = c.value_of.ensures ∙ ap value_in c.level_of.ensures in
    let z = to_z-of_z w32 c.exact_value.result (record { sfits = c.exact_value.type_inv }) ∙ c.exact_value.ensures in
    turn c.loop-j.invariant (omega arith) (omega arith) (omega arith) _ _ c.take_code-code.ensures.reads c.take_code-code.ensures.near _ _ y z

pub returns : goal.returns
returns c = let i = c.loop-j.invariant in
    let k = taken_all i.codes i.bytes (omega arith) in
    record { reads = k.0; values_after = k.1.0; exact_after = k.1.1 }
