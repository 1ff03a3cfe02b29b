-- `levels::fixed_value` meets its contract. Assumes nothing.
use mir.Syntax.{w32}
use mir.Val.{to_z, of_z}
use Rattle.levels.proofs.Signed.{back, in_float_lem, passed_small}
use Rattle.levels.proofs.Common.{large_asked, fixed_value_by}
use Rattle.levels.proofs.fixed_value.Goals as goal
use Rattle.levels.proofs.fixed_value.Goals.{Start}

pub signed_code-requires : goal.signed_code-requires
signed_code-requires c = large_asked c.args.s c.args.u c.requires.accepted

pub int_to_float-x : goal.int_to_float-x
int_to_float-x c = let k = c.signed_code in
    in_float_lem (to_z w32 (of_z w32 k.result)) (passed_small c.args.s.large c.args.u k.result (signed_code-requires (goal.at.int_to_float-x c).Start) k.type_inv k.ensures)

pub returns : goal.returns
returns c = let k = c.signed_code in
    fixed_value_by c.args.s c.requires.gk_value c.args.u (to_z w32 (of_z w32 k.result)) (back w32 k.result k.type_inv k.ensures)
