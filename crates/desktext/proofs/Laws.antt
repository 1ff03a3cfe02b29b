-- Laws of a place's bytes, by the cases that the readers meet. Assumes nothing.
use Prim.Native.Nat.{ℕ, ◌+◌, ◌-◌, ◌*◌, ◌≤◌, ◌<◌}
use mathlib.Core.Path.{◌≡◌, refl, sym, ap, ◌∙◌}
use mathlib.Core.List.{List, [], ◌∷◌}
use mathlib.Core.Bool.{true≢false, Bool, true, false, cond, ◌&&◌}
use native.Mathlib.Numerals.{add-one}
use Rattle.std.proofs.Common.{Some, None}
use native.Mathlib.Omega.{arith}
use lib.ListN.{length, take, drop, get_or, length-drop, drop_of_length-le}
use lib.Pointwise.{pointwise}
use lib.Seq.{take_all, drop-cons, length-take-le, get_or-take, get_or-drop}
use mathlib.Core.Logic.{◌⊎◌, inl, inr}
use lib.Dec.{eqb}
use borrow.Author.Tests.{le-leb, lt-leb, eq-eqb, ne_eqb, eqb-true, eqb-false}
use Rattle.desktext.specs.Spelling.{largest, close_token}
use Rattle.desktext.specs.Text.{Seen, seen, unseen, leads, digits, natural, above, below, number_seen, bracket}
use Rattle.desktext.specs.Work.{opening, number_of, word_seen, Finds}
use Rattle.desktext.specs.declared.Name.{Name}
use Rattle.desktext.specs.declared.Name.TheVariants as name
use Rattle.desktext.specs.declared.Token.TheVariants as token
use Rattle.std.specs.Borrow.{Bor}

pub no_true : {A : Type 0} → false ≡ true → A
no_true e = absurd (true≢false (sym e))

pub none_at : (s : List ℕ) (at : ℕ) → length s ≤ at → drop at s ≡ []
none_at s at e = drop_of_length-le s e

pub one_at : (s : List ℕ) (at : ℕ) → at < length s → drop at s ≡ get_or s at 0 ∷ drop (at + 1) s
one_at s at h = rw (add-one, drop-cons s at 0)

-- n elements from a place on
pub part_long : (ts : List ℕ) (at n : ℕ) → at + n ≤ length ts → length (take n (drop at ts)) ≡ n
part_long ts at n h = length-take-le n (drop at ts) (omega (arith, length-drop at ts))

pub part_at : (ts : List ℕ) (at n i : ℕ) → i < n → get_or (take n (drop at ts)) i 0 ≡ get_or ts (at + i) 0
part_at ts at n i h = get_or-take n (drop at ts) i 0 h ∙ get_or-drop at ts i 0

-- words
eqb_sym : (x y : ℕ) → eqb x y ≡ eqb y x
eqb_sym x y = go (eqb y x) refl
  where
    go : (b : Bool) → eqb y x ≡ b → eqb x y ≡ b
    go true e = eq-eqb x y (sym (eqb-true y x e))
    go false e = ne_eqb x y (λ f. eqb-false y x e (sym f))

pub leads_is : (w s : List ℕ) → leads w s ≡ pointwise eqb (take (length w) s) w
unfolding leads
leads_is [] s = refl
leads_is (x ∷ w) [] = refl
leads_is (x ∷ w) (y ∷ s) = rw (eqb_sym y x) (go (eqb x y) (leads_is w s))
  where
    go : (b : Bool) → leads w s ≡ pointwise eqb (take (length w) s) w → cond b (leads w s) false ≡ (b && pointwise eqb (take (length w) s) w)
    go true e = e
    go false e = refl

-- the bytes from a place on, to the end
pub rest_is : {A : Type 0} (s : List A) (at : ℕ) → take (length s - at) (drop at s) ≡ drop at s
rest_is s at = take_all (length s - at) (drop at s) (omega (arith, length-drop at s))

opening_most : (n : Name) → opening n ≤ close_token
unfolding opening
opening_most name.Channel = omega arith
opening_most name.Bins = omega arith
opening_most name.Row = omega arith
opening_most name.Vector = omega arith

module _ (s w : List ℕ) (n : Name) where
  pub word_other : pointwise eqb (take (length w) s) w ≡ false → Finds s (word_seen s w n) None
  word_other e = record { shown = sym (rw (leads_is w s, e)); onward = tt }

  pub word_found : (q : Bor (List ℕ)) → 0 < length w → pointwise eqb (take (length w) s) w ≡ true → q.now ≡ drop (length w) s → length q.now + length w ≡ length s
      → Finds s (word_seen s w n) (Some (token.Open n, q))
  unfolding number_of
  word_found q h e d l = record { shown = sym (rw (leads_is w s, e, d)); onward = (omega arith, opening_most n) }

-- one word or another
pub else_seen : (a : Bool) (t u : ℕ) (r q : List ℕ) (y : Seen) → seen u q ≡ cond a (seen t r) unseen → seen u q ≡ cond a (seen t r) y
else_seen true t u r q y e = e
else_seen false t u r q y e = absurd (let z : ◌≡◌ {A = ℕ} 0 1 = cc in omega arith)

pub else_other : (a : Bool) (t : ℕ) (r : List ℕ) (y : Seen) → unseen ≡ cond a (seen t r) unseen → y ≡ cond a (seen t r) y
else_other true t r y e = absurd (let z : ◌≡◌ {A = ℕ} 0 1 = cc in omega arith)
else_other false t r y e = refl

-- a place's byte by cases
module _ (s : List ℕ) (at : ℕ) where
  pub bracket_other : at < length s → (get_or s at 0 ≡ 41 → ⊥) → bracket (drop at s) ≡ unseen
  unfolding bracket
  bracket_other h n = rw (one_at s at h, ne_eqb (get_or s at 0) 41 n)

  pub digits_end : (v : ℕ) → length s ≤ at → digits v (drop at s) ≡ seen v (drop at s)
  unfolding digits
  digits_end v e = rw (none_at s at e)

  pub digits_other : (v : ℕ) → at < length s → (get_or s at 0 < 48) ⊎ ((48 ≤ get_or s at 0) × (57 < get_or s at 0)) → digits v (drop at s) ≡ seen v (drop at s)
  unfolding digits
  digits_other v h (inl e) = rw (one_at s at h, lt-leb 48 (get_or s at 0) e)
  digits_other v h (inr e) = rw (one_at s at h, le-leb 48 (get_or s at 0) e.0, lt-leb (get_or s at 0) 57 e.1)

  pub digits_large : (v : ℕ) → at < length s → 48 ≤ get_or s at 0 → get_or s at 0 ≤ 57 → largest < v * 10 + (get_or s at 0 - 48) → digits v (drop at s) ≡ unseen
  unfolding digits
  digits_large v h e f g = rw (one_at s at h, le-leb 48 (get_or s at 0) e, le-leb (get_or s at 0) 57 f, lt-leb (v * 10 + (get_or s at 0 - 48)) largest g)

  pub digits_more : (v : ℕ) → at < length s → 48 ≤ get_or s at 0 → get_or s at 0 ≤ 57 → v * 10 + (get_or s at 0 - 48) ≤ largest
      → digits v (drop at s) ≡ digits (v * 10 + (get_or s at 0 - 48)) (drop (at + 1) s)
  unfolding digits
  digits_more v h e f g = rw (one_at s at h, le-leb 48 (get_or s at 0) e, le-leb (get_or s at 0) 57 f, le-leb (v * 10 + (get_or s at 0 - 48)) largest g)

  pub number_minus : at < length s → get_or s at 0 ≡ 45 → number_seen (drop at s) ≡ below (natural (drop (at + 1) s))
  unfolding number_seen
  number_minus h e = rw (one_at s at h, eq-eqb (get_or s at 0) 45 e)

  pub number_plain : at < length s → (get_or s at 0 ≡ 45 → ⊥) → number_seen (drop at s) ≡ above (natural (drop at s))
  unfolding number_seen
  number_plain h n = rw (one_at s at h, ne_eqb (get_or s at 0) 45 n)

  pub number_less : at < length s → get_or s at 0 ≡ 45 → (m : ℕ) (r : List ℕ) → seen m r ≡ natural (drop (at + 1) s) → (m ≡ 0 → ⊥) → number_seen (drop at s) ≡ seen (largest - m) r
  number_less h e m r f z = number_minus h e ∙ ap below (sym f) ∙ rw (ne_eqb m 0 z)
