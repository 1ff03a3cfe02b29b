-- `desktext::channels::is_within` meets its contract. Assumes nothing.
use mathlib.Core.Path.{◌≡◌, refl, sym, ◌∙◌}
use Rattle.std.proofs.Common.{rules, w32, to_z, of_z}
use Rattle.desktext.proofs.Signed.{within_is, within_other}
use Rattle.desktext.proofs.channels.is_within.Goals as goal

pub returns-then-low-k : goal.returns-then-low-k
returns-then-low-k c =
    let a = c.args in
    let k : to_z w32 (of_z w32 c.in-Number.k) ≡ c.in-Number.k = search rules in
    let l : to_z w32 (of_z w32 a.low) ≡ a.low = search rules in
    let h : to_z w32 (of_z w32 a.high) ≡ a.high = search rules in
    let e = rw (k, l) at c.if-low-k.true in
    rw (c.in-Number.is, k, h) (sym (within_is a.low a.high c.in-Number.k c.requires ∙ rw e refl))

pub returns-else-low-k : goal.returns-else-low-k
returns-else-low-k c =
    let a = c.args in
    let k : to_z w32 (of_z w32 c.in-Number.k) ≡ c.in-Number.k = search rules in
    let l : to_z w32 (of_z w32 a.low) ≡ a.low = search rules in
    let e = rw (k, l) at c.if-low-k.false in
    rw (c.in-Number.is, k, l) (sym (within_is a.low a.high c.in-Number.k c.requires ∙ rw e refl))

pub returns-in_default : goal.returns-in_default
returns-in_default c = sym (within_other _ _ _ c.requires c.in_default.not-Number)
