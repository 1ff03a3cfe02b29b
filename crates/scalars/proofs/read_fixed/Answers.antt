-- `scalars::read_fixed` meets its contract. The invariant is Ahead.Near: the codes read so far. Assumes nothing.
use mathlib.Core.Path.{◌∙◌}
use native.Mathlib.Omega.{arith}
use mir.Syntax.{w32}
use mir.ValLaws.{to_z-of_z}
use Rattle.std.specs.Prelude.{Ok}
use Rattle.tables.specs.Tables.{mant_bits}
use Rattle.levels.specs.declared.Code.{Code}
use Rattle.levels.specs.Codes.{coded}
use Rattle.scalars.proofs.Ahead.{Coded, at_first, fixed_takes, fixed_of, both_widths, code_accepted, turn, taken_all}
use Rattle.scalars.proofs.read_fixed.Goals as goal
use Rattle.scalars.proofs.read_fixed.Goals.{After-take_word-u}

code_is : (c : After-take_word-u) → Coded (coded (mant_bits c.args.s.hebap) c.args.s.gk) c.loop-j.local (Ok (Code.Large c.take_word-u.result)) c.take_word-u.new.self
code_is c = rw (fixed_of c.args.s c.requires.gk_value) (fixed_takes c.args.s.large _ _ _ c.take_word-u.ensures.reads)

pub loop-j-init : goal.loop-j-init
loop-j-init c = let a = c.args in at_first a.s.hebap a.s.gk a.reader.now a.values.now a.exact.now

pub take_word-u-requires-clause-few : goal.take_word-u-requires-clause-few
take_word-u-requires-clause-few c = let b = both_widths c.args.s in (omega arith, omega arith)

pub fixed_value-requires-clause-accepted : goal.fixed_value-requires-clause-accepted
fixed_value-requires-clause-accepted c = code_accepted c.args.s _ _ (Code.Large c.take_word-u.result) (code_is c)

pub fixed_exact-requires-clause-accepted : goal.fixed_exact-requires-clause-accepted
fixed_exact-requires-clause-accepted c = fixed_value-requires-clause-accepted (goal.at.fixed_exact-requires-clause-accepted c).After-take_word-u

pub loop-j-preserved : goal.loop-j-preserved
loop-j-preserved c =
    let b = both_widths c.args.s in
    let z = to_z-of_z w32 c.fixed_exact.result (record { sfits = c.fixed_exact.type_inv }) ∙ c.fixed_exact.ensures in
    turn c.loop-j.invariant (omega arith) (omega arith) (omega arith) _ _ (code_is (goal.at.loop-j-preserved c).After-take_word-u)
    (rw c.take_word-u.ensures.place (omega arith)) _ _ c.fixed_value.ensures z

pub returns : goal.returns
returns c = let i = c.loop-j.invariant in
    let k = taken_all i.codes i.bytes (omega arith) in
    record { reads = k.0; values_after = k.1.0; exact_after = k.1.1 }
