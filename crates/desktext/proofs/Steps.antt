-- Laws of the text's tokens, by the cases that the readers meet. Assumes nothing.
use Prim.Native.Nat.{ℕ, suc, ◌+◌, ◌-◌, ◌*◌, ◌≤◌, ◌<◌}
use mathlib.Core.Path.{◌≡◌, refl, sym, ap, ◌∙◌}
use mathlib.Core.List.{List, [], ◌∷◌, ◌++◌, append_assoc, append-nil, map-append}
use native.Mathlib.Numerals.{add-one}
use native.Mathlib.Omega.{arith}
use lib.ListN.{length, take, set}
use lib.Seq.{take-suc-set}
use borrow.Author.Tests.{le-leb, lt-leb}
use Rattle.desktext.specs.Spelling.{last_number}
use Rattle.desktext.specs.Text.{seen, unseen, named, item_head, closing, ReadText, got, malformed, after, ending, step, rest, tokens}
use Rattle.std.proofs.Common.{Option, Some, None}
use Rattle.std.specs.Borrow.{Bor}
use Rattle.desktext.specs.Work.{number_of, numbers_of, Goes, Reading}
use Rattle.desktext.specs.declared.Token.{Token}

-- tokens before others
after_after : (xs ys : List ℕ) (g : ReadText) → after xs (after ys g) ≡ after (xs ++ ys) g
after_after xs ys (got us) = ap got (sym (append_assoc xs ys us))
after_after xs ys malformed = refl

put : (out : List Token) (n : ℕ) (t : Token) (g : ReadText) → n < length out
    → after (numbers_of (take n out)) (after (number_of t ∷ []) g) ≡ after (numbers_of (take (n + 1) (set out n t))) g
put out n t g h =
    let e : take (n + 1) (set out n t) ≡ take n out ++ (t ∷ []) = rw add-one (take-suc-set out n t h) in
    after_after (numbers_of (take n out)) (number_of t ∷ []) g ∙ ap (λ (l : List ℕ). after l g) (sym (ap numbers_of e ∙ map-append number_of (take n out) (t ∷ [])))

-- the rest by its cases
module _ (n d : ℕ) (s : List ℕ) where
  pub rest_close : (t : ℕ) (r : List ℕ) → closing s ≡ seen t r → rest (suc n) (suc d) s ≡ after (t ∷ []) (rest n d r)
  unfolding rest step
  rest_close t r e = rw e

  pub rest_number : (t : ℕ) (r : List ℕ) → closing s ≡ unseen → item_head s ≡ seen t r → t ≤ last_number → rest (suc n) (suc d) s ≡ after (t ∷ []) (rest n (suc d) r)
  unfolding rest step
  rest_number t r e f h = rw (e, f, le-leb t last_number h)

  pub rest_form : (t : ℕ) (r : List ℕ) → closing s ≡ unseen → item_head s ≡ seen t r → last_number < t → suc d < 4
      → rest (suc n) (suc d) s ≡ after (t ∷ []) (rest n (suc (suc d)) r)
  unfolding rest step
  rest_form t r e f h k = rw (e, f, lt-leb t last_number h, lt-leb 4 (suc d) k)

  rest_deep : (t : ℕ) (r : List ℕ) → closing s ≡ unseen → item_head s ≡ seen t r → last_number < t → 4 ≤ suc d → rest (suc n) (suc d) s ≡ malformed
  unfolding rest step
  rest_deep t r e f h k = rw (e, f, lt-leb t last_number h, le-leb 4 (suc d) k)

  rest_none : closing s ≡ unseen → item_head s ≡ unseen → rest (suc n) (suc d) s ≡ malformed
  unfolding rest step
  rest_none e f = rw (e, f)

-- what the reader knows, one token on
module _ (s r : List ℕ) (levels n : ℕ) (out : List Token) (few : levels ≤ 3) (here : Reading s r n (4 - levels) out) where
  this : rest (suc (length s) - n) (4 - levels) r ≡ rest (suc (suc (length s) - (n + 1))) (suc (3 - levels)) r
  this =
      let p = here.fewer in
      let e : suc (length s) - n ≡ suc (suc (length s) - (n + 1)) = omega arith in
      let f : 4 - levels ≡ suc (3 - levels) = omega arith in
      rw (e, f)

  whole_is : (g : ReadText) → rest (suc (suc (length s) - (n + 1))) (suc (3 - levels)) r ≡ g → tokens s ≡ after (numbers_of (take n out)) g
  whole_is g e = here.whole ∙ ap (after (numbers_of (take n out))) (this ∙ e)

  module _ (t : Token) (q : List ℕ) (past : length q < length r) (room : n < length out) where
    put_here : (d : ℕ) → rest (suc (suc (length s) - (n + 1))) (suc (3 - levels)) r ≡ after (number_of t ∷ []) (rest (suc (length s) - (n + 1)) d q)
        → Reading s q (n + 1) d (set out n t)
    put_here d e =
        let p = here.fewer in
        record { whole = whole_is _ e ∙ put out n t (rest (suc (length s) - (n + 1)) d q) room; fewer = omega arith }

    pub on_close_lem : seen (number_of t) q ≡ closing r → Reading s q (n + 1) (3 - levels) (set out n t)
    on_close_lem e = put_here (3 - levels) (rest_close _ _ _ _ _ (sym e))

    pub on_number : closing r ≡ unseen → seen (number_of t) q ≡ item_head r → number_of t ≤ last_number → Reading s q (n + 1) (4 - levels) (set out n t)
    on_number u e h =
        let f : 4 - levels ≡ suc (3 - levels) = omega arith in
        rw f (put_here (suc (3 - levels)) (rest_number _ _ _ _ _ u (sym e) h))

    pub on_form : closing r ≡ unseen → seen (number_of t) q ≡ item_head r → last_number < number_of t → 0 < levels → Reading s q (n + 1) (4 - (levels - 1)) (set out n t)
    on_form u e h k =
        let f : 4 - (levels - 1) ≡ suc (suc (3 - levels)) = omega arith in
        rw f (put_here (suc (suc (3 - levels))) (rest_form _ _ _ _ _ u (sym e) h (omega arith)))

  pub on_deep : (t : Token) (q : List ℕ) → closing r ≡ unseen → seen (number_of t) q ≡ item_head r → last_number < number_of t → levels ≡ 0 → tokens s ≡ malformed
  on_deep t q u e h k = whole_is malformed (rest_deep _ _ _ _ _ u (sym e) h (omega arith))

  pub on_none : closing r ≡ unseen → unseen ≡ item_head r → tokens s ≡ malformed
  on_none u e = whole_is malformed (rest_none _ _ _ u (sym e))

-- the first form
pub begin_none : (s : List ℕ) → unseen ≡ named s → tokens s ≡ malformed
unfolding tokens
begin_none s e = rw (← e)

name_is : (s : List ℕ) (t : ℕ) (r : List ℕ) → seen t r ≡ named s → tokens s ≡ after (t ∷ []) (rest (length s) 1 r)
unfolding tokens
name_is s t r e = rw (← e)

pub begin_form : (s : List ℕ) (t : Token) (q : List ℕ) (out : List Token) → seen (number_of t) q ≡ named s → length q < length s → length s ≤ 2 * length out → Reading s q 1 1 (set out 0 t)
begin_form s t q out e a room =
    let z : suc (length s) - 1 ≡ length s = omega arith in
    let w : tokens s ≡ after (number_of t ∷ []) (rest (length s) 1 q) = name_is s (number_of t) q e in
    let k : take 1 (set out 0 t) ≡ t ∷ [] = take-suc-set out 0 t (omega arith) in
    record { whole = rw (k, z) w; fewer = omega arith }

-- after the last bracket
module _ (s r : List ℕ) (n : ℕ) (out : List Token) (now : Reading s r n 0 out) where
  last_is : tokens s ≡ after (numbers_of (take n out)) (ending r)
  unfolding rest step
  last_is =
      let a = now.fewer in
      let z : suc (length s) - n ≡ suc (length s - n) = omega arith in
      rw z at now.whole

  pub all_read : ending r ≡ got [] → tokens s ≡ got (numbers_of (take n out))
  all_read e = last_is ∙ ap (after (numbers_of (take n out))) e ∙ ap got (append-nil (numbers_of (take n out)))

  pub end_line_lem : r ≡ 10 ∷ [] → tokens s ≡ got (numbers_of (take n out))
  unfolding ending
  end_line_lem e = all_read (ap ending e)

  pub none_read : ending r ≡ malformed → tokens s ≡ malformed
  none_read e = last_is ∙ ap (after (numbers_of (take n out))) e

-- what a form reads behind its head is what the item reads: the head's bytes make up for its token, which is two, and for
-- what k is above j
pub form_goes : (s q : List ℕ) (n k j : ℕ) (r : Option (Bor (List ℕ) × ℕ)) → length q < length s → length q + k + 2 ≤ length s + j → Goes q (n + 1) k r → Goes s n j r
form_goes s q n k j (Some p) h f g = let a = g.0 in let b = g.1 in (omega arith, omega arith)
form_goes s q n k j None h f g = tt
