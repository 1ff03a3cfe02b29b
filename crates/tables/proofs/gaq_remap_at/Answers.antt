-- `tables::gaq_remap_at` meets its contract. Assumes nothing.
use Prim.Native.Nat.{ℕ, ◌+◌, ◌*◌, ◌-◌, ◌≤◌}
use mathlib.Core.Path.{◌≡◌, sym}
use native.Mathlib.Omega.{arith}
use lib.IntN.{pos}
use lib.ListN.{get_or-eq_default}
use mir.Syntax.{w16}
use mir.ValLaws.{to_z-of_z}
use Rattle.tables.specs.Numbers.{gaq_remap_table}
use Rattle.tables.specs.Tables.{gaq_remap_at}
use Rattle.tables.proofs.Rules.{remap_fits}
use Rattle.tables.proofs.gaq_remap_at.Goals as goal

pub returns-then-i-lt84 : goal.returns-then-i-lt84
unfolding gaq_remap_at gaq_remap_table
returns-then-i-lt84 c = let a = c.args in
    rw c.remap_row.ensures (to_z-of_z w16 (gaq_remap_at a.hebap a.column) (record { sfits = remap_fits a.hebap a.column }))

-- past the table's end
past : (h column : ℕ) → 84 ≤ (h - 8) * 7 + column → gaq_remap_at h column ≡ pos 0
unfolding gaq_remap_at gaq_remap_table
past h column k = get_or-eq_default gaq_remap_table (pos 0) k

pub returns-else-i-lt84 : goal.returns-else-i-lt84
returns-else-i-lt84 c = let a = c.args in
    let e = c.remap_row.ensures in
    sym (past a.hebap a.column (omega arith))

pub overflow_mul-i : goal.overflow_mul-i
overflow_mul-i c = let e = c.remap_row.ensures in omega arith

pub overflow_add-i : goal.overflow_add-i
overflow_add-i c = let e = c.remap_row.ensures in omega arith
