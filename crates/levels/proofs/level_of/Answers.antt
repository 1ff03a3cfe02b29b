-- `levels::level_of` meets its contract. Assumes nothing.
use mathlib.Core.Path.{ap, ◌∙◌}
use mir.Syntax.{w32}
use mir.Val.{to_z, of_z}
use Rattle.levels.specs.declared.Level.{Level}
use Rattle.levels.specs.Value.{level_of}
use Rattle.levels.proofs.Signed.{back, in_float_lem, passed_small, small_fits}
use Rattle.levels.proofs.Common.{small_asked, large_asked, small_value_by, large_value_by}
use Rattle.levels.proofs.level_of.Goals as goal
use Rattle.levels.proofs.level_of.Goals.{After-remap_by-arg-1, In-Small}

pub signed_code-requires : goal.signed_code-requires
signed_code-requires c = small_asked c.args.s c.in-Small.u (small_fits c.args.s.hebap c.args.s.gk _ _ c.requires.accepted c.in-Small.is)

pub int_to_float-result : goal.int_to_float-result
int_to_float-result c = let k = c.signed_code in
    in_float_lem (to_z w32 (of_z w32 k.result)) (passed_small c.args.s.small c.in-Small.u k.result (signed_code-requires (goal.at.int_to_float-result c).In-Small) k.type_inv k.ensures)

pub signed_code-requires-in-Large : goal.signed_code-requires-in-Large
signed_code-requires-in-Large c = large_asked c.args.s c.in-Large.u (rw c.in-Large.is at c.requires.accepted)

pub int_to_float-signed_code : goal.int_to_float-signed_code
int_to_float-signed_code c = let k = c.signed_code-in-Large in
    in_float_lem (to_z w32 (of_z w32 k.result)) (passed_small c.args.s.large c.in-Large.u k.result (signed_code-requires-in-Large (goal.at.int_to_float-signed_code c).After-remap_by-arg-1) k.type_inv k.ensures)

pub returns-in-Small : goal.returns-in-Small
unfolding level_of
returns-in-Small c = let k = c.signed_code in
    rw c.in-Small.is (ap Level.Small (small_value_by c.args.s c.in-Small.u (to_z w32 (of_z w32 k.result)) (back w32 k.result k.type_inv k.ensures)))

pub returns-in-Large : goal.returns-in-Large
unfolding level_of
returns-in-Large c = let k = c.signed_code-in-Large in
    rw c.in-Large.is
    (ap Level.Large
    (c.remap_by.ensures ∙ large_value_by c.args.s c.in-Large.u (to_z w32 (of_z w32 k.result)) (back w32 k.result k.type_inv k.ensures)))
