-- `desktext::numbers::digits` meets its contract. Assumes nothing.
use native.Mathlib.Omega.{arith}
use Prim.Native.Nat.{ℕ, ◌-◌, ◌≤◌}
use mathlib.Core.Path.{◌≡◌, refl, sym, ap, ◌∙◌}
use mathlib.Core.List.{List}
use mathlib.Core.Logic.{inl, inr}
use lib.ListN.{length, take, drop, length-drop}
use Rattle.std.proofs.Common.{Some}
use Rattle.std.specs.Borrow.{Bor}
use Rattle.desktext.specs.Spelling.{largest}
use Rattle.desktext.specs.Text.{Seen, seen, digits}
use Rattle.desktext.specs.Work.{Counts}
use Rattle.desktext.proofs.Laws.{rest_is, digits_end, digits_other, digits_large, digits_more}
use Rattle.desktext.proofs.numbers.digits.Goals as goal
use Rattle.desktext.proofs.numbers.digits.Goals.{then-b-lt48-via-then-b-lt48, then-b-lt48-via-else-b-lt48+then-b-gt57}

-- v is counted, and the text behind the first n bytes is left
counted : (s : List ℕ) (there : Seen) (v n : ℕ) (r : Bor (List ℕ)) → v ≤ largest → there ≡ seen v (drop n s) → r.now ≡ take (length s - n) (drop n s) → Counts s there (Some (v, r))
counted s there v n r h e f =
    let k : r.now ≡ drop n s = f ∙ rest_is s n in
    record { shown = ap (seen v) k ∙ sym e; onward = (rw k (omega (arith, length-drop n s)), h) }

pub returns-then-b-lt48 : goal.returns-then-b-lt48
returns-then-b-lt48 c =
    counted _ _ _ _ _ c.loop-n.invariant.0 (c.loop-n.invariant.1 ∙ digits_other c.args.text.now c.loop-n.n c.loop-n.value c.loop-n-test.true (elim c.then-b-lt48.branch [
      | then-b-lt48-via-then-b-lt48 w ↦ inl w.if-b-lt48.true
      | then-b-lt48-via-else-b-lt48+then-b-gt57 w ↦ inr (w.if-b-lt48.false, w.if-b-gt57.true)
    ])) refl

pub returns-then-next-gt-LARGEST : goal.returns-then-next-gt-LARGEST
returns-then-next-gt-LARGEST c =
    let w = c.from.ensures in
    record { shown = sym (c.loop-n.invariant.1 ∙ digits_large c.args.text.now c.loop-n.n c.loop-n.value c.loop-n-test.true (omega arith) (omega arith) (omega (arith, w))); onward = tt }

pub loop-n-preserved : goal.loop-n-preserved
loop-n-preserved c =
    let w = c.from.ensures in
    (omega arith, rw w (c.loop-n.invariant.1 ∙ digits_more c.args.text.now c.loop-n.n c.loop-n.value c.loop-n-test.true (omega arith) (omega arith) (omega (arith, w))))

pub returns : goal.returns
returns c =
    let n = length c.args.text.now in
    let all : c.loop-n.n ≡ n = omega arith in
    counted _ _ _ n _ c.loop-n.invariant.0 (c.loop-n.invariant.1 ∙ ap (λ (k : ℕ). digits c.loop-n.value (drop k c.args.text.now)) all ∙ digits_end c.args.text.now n c.loop-n.value (omega arith)) refl
