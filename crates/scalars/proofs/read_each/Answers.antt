-- `scalars::read_each` meets its contract. The invariant is Six.SoFar: the codes read so far, of the same bytes. Assumes nothing.
use mathlib.Core.Path.{refl, ap, ◌∙◌}
use native.Mathlib.Omega.{arith}
use mir.Syntax.{w32}
use mir.ValLaws.{to_z-of_z}
use Rattle.answers.proofs.Numbers.{passed_on}
use Rattle.bits.specs.Takes.{ahead}
use Rattle.levels.specs.Value.{value_in}
use Rattle.bits.proofs.Taking.{is_got}
use Rattle.scalars.proofs.Six.{none_yet, one_more_lem}
use Rattle.scalars.proofs.Ahead.{code_accepted, taken_cut, taken_all}
use Rattle.scalars.proofs.read_each.Goals as goal

pub loop-j-init : goal.loop-j-init
loop-j-init c = let a = c.args in (none_yet a.s.hebap a.s.gk (ahead a.reader.now) a.values.now a.exact.now, refl)

pub returns-in_err-code : goal.returns-in_err-code
returns-in_err-code c =
    let k = taken_cut c.loop-j.invariant.0 (omega arith) _ _ _ c.in_err-code.ensures.reads in
    rw (passed_on c.from_residual.ensures) record { reads = k.0; values_after = k.1.0; exact_after = k.1.1; kept = refl }

pub level_of-requires : goal.level_of-requires
level_of-requires c = record { accepted = code_accepted c.args.s _ _ _ c.in_ok-code.ensures.reads }

pub exact_value-requires : goal.exact_value-requires
exact_value-requires c = record { accepted = code_accepted c.args.s _ _ _ c.in_ok-code.ensures.reads }

pub loop-j-preserved : goal.loop-j-preserved
loop-j-preserved c =
    let y = c.value_of.ensures ∙ ap value_in c.level_of.ensures in
    let z = to_z-of_z w32 c.exact_value.result (record { sfits = c.exact_value.type_inv }) ∙ c.exact_value.ensures in
    let k = is_got _ _ _ _ _ c.in_ok-code.ensures.reads in
    (one_more_lem c.loop-j.invariant.0 (omega arith) _ _ _ _ (omega arith) (omega arith) k.0 y z, k.1 ∙ c.loop-j.invariant.1)

pub returns : goal.returns
returns c = let i = c.loop-j.invariant in
    let k = taken_all i.0 i.1 (omega arith) in
    record { reads = k.0; values_after = k.1.0; exact_after = k.1.1; kept = tt }
