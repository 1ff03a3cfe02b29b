-- `desktext::channels::size` meets its contract. Assumes nothing.
use native.Mathlib.Omega.{arith}
use mathlib.Core.Path.{◌≡◌}
use Rattle.std.proofs.Common.{rules, w32, to_z, of_z}
use Rattle.desktext.proofs.Signed.{size_is, size_fits, bracket_large}
use Rattle.desktext.proofs.channels.size.Goals as goal

pub overflow_cast-result : goal.overflow_cast-result
overflow_cast-result c =
    let k : to_z w32 (of_z w32 c.in-Number.k) ≡ c.in-Number.k = search rules in
    rw k (size_fits _ _ c.in-Number.is c.requires.0 c.requires.1)

pub returns-in-Number : goal.returns-in-Number
returns-in-Number c =
    let k : to_z w32 (of_z w32 c.in-Number.k) ≡ c.in-Number.k = search rules in
    rw k (size_is _ _ c.in-Number.is c.requires.0 c.requires.1)

pub returns-in_default : goal.returns-in_default
returns-in_default c = let h = c.requires.1 in let l = bracket_large _ c.in_default.not-Number in absurd (omega arith)
