-- `levels::fixed_exact` meets its contract. Assumes nothing.
use mathlib.Core.Path.{◌≡◌, ◌∙◌}
use mir.Syntax.{w32}
use mir.Val.{to_z, of_z}
use Rattle.tables.specs.Tables.{mant_bits}
use Rattle.levels.specs.Codes.{signed, large_bits}
use Rattle.levels.proofs.Signed.{back}
use Rattle.levels.proofs.Sizes.{large_steps}
use Rattle.levels.proofs.Common.{large_is, large_asked, large_unit_back, fixed_exact_by}
use Rattle.levels.proofs.fixed_exact.Goals as goal

pub signed_code-requires : goal.signed_code-requires
signed_code-requires c = large_asked c.args.s c.args.u c.requires.accepted

pub times-requires : goal.times-requires
times-requires c = let l_is : (let a = c.args in to_z w32 (of_z w32 c.signed_code.result) ≡ signed (large_bits (mant_bits a.s.hebap) a.s.gk) a.u) = (let k = c.signed_code in back w32 k.result k.type_inv (k.ensures ∙ rw (large_is c.args.s))) in
    rw (l_is, large_unit_back c.args.s) (large_steps c.args.s.hebap c.args.s.gk c.args.s.known.0 c.args.s.known.1 c.args.u c.requires.accepted).product

pub returns : goal.returns
returns c = let l_is : (let a = c.args in to_z w32 (of_z w32 c.signed_code.result) ≡ signed (large_bits (mant_bits a.s.hebap) a.s.gk) a.u) = (let k = c.signed_code in back w32 k.result k.type_inv (k.ensures ∙ rw (large_is c.args.s))) in
    back w32 c.times.result c.times.type_inv
    (c.times.ensures ∙ rw (l_is, large_unit_back c.args.s) (fixed_exact_by c.args.s c.requires.gk_value c.args.u))
