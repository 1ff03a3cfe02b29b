-- `desktext::channels::value` meets its contract. Assumes nothing.
use native.Mathlib.Omega.{arith}
use mathlib.Core.Path.{◌≡◌}
use Rattle.std.proofs.Common.{rules, w32, to_z, of_z}
use Rattle.desktext.proofs.Signed.{size_small, minus_value, plain_value, bracket_large}
use Rattle.desktext.proofs.channels.value.Goals as goal

pub int_to_float-size : goal.int_to_float-size
int_to_float-size c =
    let k : to_z w32 (of_z w32 c.in-Number.k) ≡ c.in-Number.k = search rules in
    size_small _ _ _ c.in-Number.is c.requires (rw k at c.unsigned_abs.ensures.value)

pub returns-then-k-lt0 : goal.returns-then-k-lt0
returns-then-k-lt0 c =
    let k : to_z w32 (of_z w32 c.in-Number.k) ≡ c.in-Number.k = search rules in
    minus_value _ _ _ c.in-Number.is c.requires (rw k at c.unsigned_abs.ensures.value) (rw k at c.if-k-lt0.true)

pub returns-else-k-lt0 : goal.returns-else-k-lt0
returns-else-k-lt0 c =
    let k : to_z w32 (of_z w32 c.in-Number.k) ≡ c.in-Number.k = search rules in
    plain_value _ _ _ c.in-Number.is c.requires (rw k at c.unsigned_abs.ensures.value) (rw k at c.if-k-lt0.false)

pub returns-in_default : goal.returns-in_default
returns-in_default c = let h = c.requires in let l = bracket_large _ c.in_default.not-Number in absurd (omega arith)
