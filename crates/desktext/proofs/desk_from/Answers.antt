-- `desktext::desk_from` meets its contract. Assumes nothing.
use Prim.Native.Nat.{ℕ, ◌≤◌}
use mathlib.Core.Path.{◌≡◌, refl, sym}
use mathlib.Core.List.{List}
use native.Mathlib.Nat.{le_trans, le_of_eq}
use borrow.Author.Rules.{rules}
use lib.ListN.{length, take}
use lib.Seq.{length-take-le, take_all}
use Rattle.bits.specs.Bits.{splice}
use Rattle.desktext.specs.Desk.{desk_answer}
use Rattle.desktext.specs.declared.View.{View}
use Rattle.desktext.proofs.DeskPrints.{printed_fits}
use Rattle.desktext.proofs.desk_from.Goals as goal

-- what `desk` says of a text, said of the first n bytes that are this text
of_first : (v : View) (s out after input : List ℕ) (n r : ℕ) → take n input ≡ s → (r ≡ length (desk_answer v s)) × (after ≡ splice out 0 (desk_answer v s))
    → (r ≡ length (desk_answer v (take n input))) × ((after ≡ splice out 0 (desk_answer v (take n input))) × (r ≤ 32768))
of_first v s out after input n r e u = rw e (u.0, (u.1, le_trans (le_of_eq u.0) (printed_fits v s)))

pub returns-then-n-input : goal.returns-then-n-input
returns-then-n-input c = let a = c.args in let both = of_first a.view (take a.n a.input.now) _ _ a.input.now a.n _ refl (c.desk.ensures.value, c.desk.ensures.out_after) in record { value = both.0; out_after = both.1.0; upper_bound = both.1.1 }

pub returns : goal.returns
returns c = let a = c.args in let both = of_first a.view a.input.now _ _ a.input.now a.n _ (take_all a.n a.input.now c.if-n-input.false) (c.desk-2.ensures.value, c.desk-2.ensures.out_after) in record { value = both.0; out_after = both.1.0; upper_bound = both.1.1 }

pub slice_bounds-desk-end : goal.slice_bounds-desk-end
slice_bounds-desk-end c = sym (length-take-le _ _ (search rules))
