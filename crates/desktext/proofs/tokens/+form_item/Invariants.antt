-- A form calls item with its levels, and an item calls form with one level less.
use Prim.Native.Nat.{ℕ, ◌+◌, ◌-◌, ◌*◌, ◌≤◌}
use mathlib.Core.Path.{◌≡◌}
use mathlib.Core.List.{List}
use lib.ListN.{length}
use Rattle.desktext.specs.Work.{Reading}
use Rattle.desktext.proofs.tokens.+form_item.Given as goal

abbrev pub decreases-form : goal.decreases-form
decreases-form l = l.levels + l.levels + 1

abbrev pub decreases-item : goal.decreases-item
decreases-item l = l.levels + l.levels

abbrev pub invariant-form-loop-t : goal.invariant-form-loop-t
invariant-form-loop-t l = ((s : List ℕ) → Reading s l.fn.text l.fn.n (4 - l.levels) l.fn.out → Reading s l.rest l.m (4 - l.levels) l.out) × (length l.rest ≤ length l.fn.text) × (2 * l.m + length l.rest ≤ 2 * l.fn.n + length l.fn.text) × (length l.out ≡ length l.fn.out)

abbrev pub decreases-form-loop-t : goal.decreases-form-loop-t
decreases-form-loop-t l = length l.rest
