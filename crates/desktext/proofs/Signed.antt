-- Laws of tokens and their numbers. Assumes nothing.
use Prim.Native.Nat.{ℕ, zero, suc, ◌+◌, ◌-◌, ◌^◌, ◌≤◌, ◌<◌}
use mathlib.Core.Path.{◌≡◌, refl, sym, ap, ◌∙◌, subst}
use mathlib.Core.Bool.{Bool, true, false, cond, true≢false}
use mathlib.Core.List.{List}
use native.Mathlib.Omega.{arith}
use lib.Dec.{leb, eqb}
use lib.ListN.{length}
use mathlib.Core.Logic.{◌⊎◌, inl, inr}
use lib.Ieee.{binary32, of_int, div, neg, in_float}
use lib.Dec.{T, le→leb}
use lib.IntN.{nat_abs}
use Rattle.std.specs.Prelude.{unsigned_abs}
use Rattle.std.specs.Int.Signed.{le_z, lt_z, non_neg}
use Rattle.levels.specs.Value.{f32768}
use Rattle.desktext.specs.Printed.{component_of}
use borrow.Author.Tests.{le-leb, lt-leb, ne_eqb, leb-true, leb-false}
use Rattle.std.proofs.Common.{ℤ, pos, ◌-ℤ◌, w32, to_z, of_z, Fits, Some}
use Rattle.std.proofs.lemmas.Int.{to_z_pos, to_z-of_z, fits_signed_from_abs}
use Rattle.std.specs.Prelude.{negsuc}
use Rattle.std.specs.Borrow.{Bor}
use Rattle.desktext.specs.Spelling.{largest, last_number, close_token}
use Rattle.desktext.specs.Text.{Seen, seen, above, below}
use Rattle.desktext.specs.Work.{beyond, number_of, opening, is_within, InBounds, Finds, Counts}
use Rattle.desktext.specs.declared.Name.{Name}
use Rattle.desktext.specs.declared.Name.TheVariants as name
use Rattle.desktext.specs.declared.Token.{Token}
use Rattle.desktext.specs.declared.Token.TheVariants as token

cast_plain : (m : ℕ) → m ≤ largest → to_z w32 m ≡ pos m
cast_plain m h = to_z_pos w32 m (omega arith)

plain_number : (m : ℕ) → m ≤ largest → number_of (token.Number (to_z w32 m)) ≡ largest + m
unfolding number_of
plain_number m h = rw (cast_plain m h, le-leb m largest h)

nought_less : (m : ℕ) → pos 0 -ℤ pos (suc m) ≡ negsuc m
nought_less m = let e : suc m - 1 ≡ m = omega arith in rw (le-leb 1 (suc m) (omega arith)) (ap negsuc e)

minus_number : (m : ℕ) → m ≤ largest → (m ≡ 0 → ⊥) → number_of (token.Number (to_z w32 (of_z w32 (pos 0 -ℤ to_z w32 m)))) ≡ largest - m
unfolding number_of
minus_number zero h n = absurd (n refl)
minus_number (suc m) h n =
    let z : pos 0 -ℤ to_z w32 (suc m) ≡ negsuc m = ap (λ (x : ℤ). pos 0 -ℤ x) (cast_plain (suc m) h) ∙ nought_less m in
    let e : to_z w32 (of_z w32 (negsuc m)) ≡ negsuc m = to_z-of_z w32 (negsuc m) (fits_signed_from_abs w32 (negsuc m) (omega arith)) in
    ap (λ (x : ℤ). number_of (token.Number (to_z w32 (of_z w32 x)))) z ∙ ap (λ (x : ℤ). number_of (token.Number x)) e ∙ rw (le-leb (suc m) largest h)

module _ (s : List ℕ) (there : Seen) (m : ℕ) (q : Bor (List ℕ)) (counted : Counts s there (Some (m, q))) (past : length q.now < length s) where
  most : m ≤ largest
  most = counted.onward.1

  pub above_found : Finds s (above there) (Some (token.Number (to_z w32 m), q))
  above_found =
      let h = most in
      let e = plain_number m most in
      record { shown = ap (λ (t : ℕ). seen t q.now) e ∙ ap above counted.shown; onward = (past, rw e (omega arith)) }

  pub below_found : (m ≡ 0 → ⊥) → Finds s (below there) (Some (token.Number (to_z w32 (of_z w32 (pos 0 -ℤ to_z w32 m))), q))
  below_found n =
      let h = most in
      let e = minus_number m most n in
      let below_is : seen (largest - m) q.now ≡ below (seen m q.now) = rw (ne_eqb m 0 n) in
      record { shown = ap (λ (t : ℕ). seen t q.now) e ∙ below_is ∙ ap below counted.shown; onward = (past, rw e (omega arith)) }

-- ---- the order of numbers
plain_small : (m : ℕ) → number_of (token.Number (pos m)) ≤ last_number → (m ≤ largest) × (number_of (token.Number (pos m)) ≡ largest + m)
unfolding number_of
plain_small m h = go (leb m largest) refl h
  where
    go : (b : Bool) → leb m largest ≡ b → cond b (largest + m) beyond ≤ last_number → (m ≤ largest) × (cond b (largest + m) beyond ≡ largest + m)
    go true e k = (leb-true _ _ e, refl)
    go false e k = absurd (omega arith)

minus_small : (m : ℕ) → number_of (token.Number (negsuc m)) ≤ last_number → (suc m ≤ largest) × (number_of (token.Number (negsuc m)) ≡ largest - suc m)
unfolding number_of
minus_small m h = go (leb (suc m) largest) refl h
  where
    go : (b : Bool) → leb (suc m) largest ≡ b → cond b (largest - suc m) beyond ≤ last_number → (suc m ≤ largest) × (cond b (largest - suc m) beyond ≡ largest - suc m)
    go true e k = (leb-true _ _ e, refl)
    go false e k = absurd (omega arith)

leb_same : (a b c d : ℕ) → (a ≤ b → c ≤ d) → (b < a → d < c) → leb a b ≡ leb c d
leb_same a b c d f g = go (leb a b) refl
  where
    go : (x : Bool) → leb a b ≡ x → x ≡ leb c d
    go true e = sym (le-leb c d (f (leb-true _ _ e)))
    go false e = sym (lt-leb c d (g (leb-false _ _ e)))

pub order : (a b : ℤ) → number_of (token.Number a) ≤ last_number → number_of (token.Number b) ≤ last_number → le_z a b ≡ leb (number_of (token.Number a)) (number_of (token.Number b))
order (pos a) (pos b) h k =
    let x = plain_small a h in
    let y = plain_small b k in
    rw (x.1, y.1) (leb_same a b (largest + a) (largest + b) (λ l. omega arith) (λ l. omega arith))
order (pos a) (negsuc b) h k =
    let x = plain_small a h in
    let y = minus_small b k in
    let i = y.0 in
    rw (x.1, y.1) (sym (lt-leb (largest + a) (largest - suc b) (omega arith)))
order (negsuc a) (pos b) h k =
    let x = minus_small a h in
    let y = plain_small b k in
    rw (x.1, y.1) (sym (le-leb (largest - suc a) (largest + b) (omega arith)))
order (negsuc a) (negsuc b) h k =
    let x = minus_small a h in
    let y = minus_small b k in
    let i = x.0 in
    let j = y.0 in
    rw (x.1, y.1) (leb_same b a (largest - suc a) (largest - suc b) (λ l. omega arith) (λ l. omega arith))

plain_large : (m : ℕ) → last_number < number_of (token.Number (pos m)) → (largest < m) × (number_of (token.Number (pos m)) ≡ beyond)
unfolding number_of
plain_large m h = go (leb m largest) refl h
  where
    go : (b : Bool) → leb m largest ≡ b → last_number < cond b (largest + m) beyond → (largest < m) × (cond b (largest + m) beyond ≡ beyond)
    go true e k = let l = leb-true m largest e in absurd (omega arith)
    go false e k = (leb-false _ _ e, refl)

minus_large : (m : ℕ) → last_number < number_of (token.Number (negsuc m)) → (largest < suc m) × (number_of (token.Number (negsuc m)) ≡ beyond)
unfolding number_of
minus_large m h = go (leb (suc m) largest) refl h
  where
    go : (b : Bool) → leb (suc m) largest ≡ b → last_number < cond b (largest - suc m) beyond → (largest < suc m) × (cond b (largest - suc m) beyond ≡ beyond)
    go true e k = let l = leb-true (suc m) largest e in absurd (omega arith)
    go false e k = (leb-false _ _ e, refl)

too_high : (m : ℕ) (high : ℤ) → largest < m → number_of (token.Number high) ≤ last_number → le_z (pos m) high ≡ false
too_high m (pos a) h k = let x = plain_small a k in let l = x.0 in lt-leb m a (omega arith)
too_high m (negsuc a) h k = refl

too_low : (m : ℕ) (low : ℤ) → largest < suc m → number_of (token.Number low) ≤ last_number → le_z low (negsuc m) ≡ false
too_low m (pos a) h k = refl
too_low m (negsuc a) h k = let x = minus_small a k in let l = x.0 in lt-leb m a (omega arith)

-- none is between where the token is above all numbers
none_between : (low high : ℤ) (t : Token) → InBounds low high → last_number < number_of t → is_within low high t ≡ false
none_between low high t b h =
    let l = b.0 in
    let u = b.1 in
    rw (le-leb (number_of (token.Number low)) (number_of t) (omega arith), lt-leb (number_of t) (number_of (token.Number high)) (omega arith))

wide : (low high k : ℤ) → InBounds low high → last_number < number_of (token.Number k) → cond (le_z low k) (le_z k high) false ≡ false
wide low high (pos m) b h = rw (too_high m high (plain_large m h).0 b.1) (go (le_z low (pos m)))
  where
    go : (c : Bool) → cond c false false ≡ false
    go true = refl
    go false = refl
wide low high (negsuc m) b h = rw (too_low m low (minus_large m h).0 b.0)

pub within_is : (low high k : ℤ) → InBounds low high → is_within low high (token.Number k) ≡ cond (le_z low k) (le_z k high) false
within_is low high k b = go (leb (number_of (token.Number k)) last_number) refl
  where
    go : (c : Bool) → leb (number_of (token.Number k)) last_number ≡ c → is_within low high (token.Number k) ≡ cond (le_z low k) (le_z k high) false
    go true e = let l = leb-true _ _ e in rw (order low k b.0 l, order k high l b.1)
    go false e = let l = leb-false _ _ e in none_between low high (token.Number k) b l ∙ sym (wide low high k b l)

opening_least : (n : Name) → last_number < opening n
unfolding opening
opening_least name.Channel = omega arith
opening_least name.Bins = omega arith
opening_least name.Row = omega arith
opening_least name.Vector = omega arith

-- a token that is no number is above them
pub bracket_large : (t : Token) → ((k : ℤ) → t ≡ token.Number k → ⊥) → last_number < number_of t
unfolding number_of
bracket_large (token.Number k) n = absurd (n k refl)
bracket_large (token.Open o) n = opening_least o
bracket_large token.Close n = omega arith

pub within_other : (low high : ℤ) (t : Token) → InBounds low high → ((k : ℤ) → t ≡ token.Number k → ⊥) → is_within low high t ≡ false
within_other low high t b n = none_between low high t b (bracket_large t n)

pub number_small : (t : Token) (k : ℤ) → t ≡ token.Number k → number_of t ≤ close_token → number_of t ≤ last_number
number_small t k e h = go (leb (number_of t) last_number) refl
  where
    large : (j : ℤ) → last_number < number_of (token.Number j) → number_of (token.Number j) ≡ beyond
    large (pos m) l = (plain_large m l).1
    large (negsuc m) l = (minus_large m l).1

    go : (b : Bool) → leb (number_of t) last_number ≡ b → number_of t ≤ last_number
    go true f = leb-true _ _ f
    go false f =
        let z = ap number_of e in
        let l : last_number < number_of (token.Number k) = omega (arith, leb-false _ _ f) in
        let w = large k l in
        absurd (omega arith)

eqb_other : (m k : ℕ) → (m < k) ⊎ (k < m) → false ≡ eqb m k
eqb_other m k (inl h) = sym (ne_eqb m k (λ e. omega arith))
eqb_other m k (inr h) = sym (ne_eqb m k (λ e. omega arith))

opening_less : (n : Name) → opening n < close_token
unfolding opening
opening_less name.Channel = omega arith
opening_less name.Bins = omega arith
opening_less name.Row = omega arith
opening_less name.Vector = omega arith

number_is : (k : ℤ) → (number_of (token.Number k) ≤ last_number) ⊎ (number_of (token.Number k) ≡ beyond)
number_is k = go (leb (number_of (token.Number k)) last_number) refl
  where
    large : (j : ℤ) → last_number < number_of (token.Number j) → number_of (token.Number j) ≡ beyond
    large (pos m) l = (plain_large m l).1
    large (negsuc m) l = (minus_large m l).1

    go : (b : Bool) → leb (number_of (token.Number k)) last_number ≡ b → (number_of (token.Number k) ≤ last_number) ⊎ (number_of (token.Number k) ≡ beyond)
    go true f = inl (leb-true _ _ f)
    go false f = inr (large k (leb-false _ _ f))

-- what opens no form has no name's number
pub opens_other : (t : Token) (n : Name) → ((m : Name) → t ≡ token.Open m → ⊥) → false ≡ eqb (number_of t) (opening n)
unfolding number_of
opens_other (token.Open m) n f = absurd (f m refl)
opens_other token.Close n f = let l = opening_less n in eqb_other close_token (opening n) (inr l)
opens_other (token.Number k) n f =
    let l = opening_least n in
    let u = opening_less n in
    elim (number_is k) [
      | inl h ↦ eqb_other (number_of (token.Number k)) (opening n) (inl (omega arith))
      | inr h ↦ eqb_other (number_of (token.Number k)) (opening n) (inr (omega arith))
    ]

-- nor has what is no closing bracket that bracket's
pub closes_other : (t : Token) → (t ≡ token.Close → ⊥) → eqb (number_of t) close_token ≡ false
unfolding number_of
closes_other token.Close f = absurd (f refl)
closes_other (token.Open m) f = let l = opening_less m in sym (eqb_other (opening m) close_token (inl l))
closes_other (token.Number k) f =
    elim (number_is k) [
      | inl h ↦ sym (eqb_other (number_of (token.Number k)) close_token (inl (omega arith)))
      | inr h ↦ sym (eqb_other (number_of (token.Number k)) close_token (inr (omega arith)))
    ]

-- ---- values
pub in_bounds : InBounds (negsuc 16777215) (pos 16777216)
unfolding number_of
in_bounds = (omega arith, omega arith)

pub in_row : InBounds (pos 0) (pos 255)
unfolding number_of
in_row = (omega arith, omega arith)

pub in_bins : InBounds (pos 0) (pos 16777216)
unfolding number_of
in_bins = (omega arith, omega arith)

small_part : (t : Token) (k : ℤ) → t ≡ token.Number k → number_of t ≤ last_number → number_of (token.Number k) ≤ last_number
small_part t k e h = subst (λ (x : Token). number_of x ≤ last_number) e h

-- the number k over 32768, by its size
pub size_small : (t : Token) (k : ℤ) (u : ℕ) → t ≡ token.Number k → number_of t ≤ last_number → u ≡ unsigned_abs k → T (in_float binary32 (pos u))
unfolding in_float
size_small t (pos m) u e h w = let i = (plain_small m (small_part t _ e h)).0 in let v : u ≡ m = w in let j : u ≤ 2 ^ 24 = omega arith in le→leb _ _ j
size_small t (negsuc m) u e h w = let i = (minus_small m (small_part t _ e h)).0 in let v : u ≡ suc m = w in let j : u ≤ 2 ^ 24 = omega arith in le→leb _ _ j

pub minus_value : (t : Token) (k : ℤ) (u : ℕ) → t ≡ token.Number k → number_of t ≤ last_number → u ≡ unsigned_abs k → lt_z k (pos 0) ≡ true
    → neg (div binary32 (of_int binary32 (pos u)) f32768) ≡ component_of (number_of t)
unfolding component_of
minus_value t (pos m) u e h w l = absurd (true≢false (sym l ∙ lt-leb (suc m) 0 (omega arith)))
minus_value t (negsuc m) u e h w l =
    let x = minus_small m (small_part t _ e h) in
    let j = x.0 in
    let v : u ≡ suc m = w in
    let z : largest - (largest - suc m) ≡ suc m = omega arith in
    rw (e, x.1, lt-leb largest (largest - suc m) (omega arith), z, v) refl

pub plain_value : (t : Token) (k : ℤ) (u : ℕ) → t ≡ token.Number k → number_of t ≤ last_number → u ≡ unsigned_abs k → lt_z k (pos 0) ≡ false
    → div binary32 (of_int binary32 (pos u)) f32768 ≡ component_of (number_of t)
unfolding component_of
plain_value t (negsuc m) u e h w l = absurd (true≢false l)
plain_value t (pos m) u e h w l =
    let x = plain_small m (small_part t _ e h) in
    let v : u ≡ m = w in
    let z : largest + m - largest ≡ m = omega arith in
    rw (e, x.1, le-leb largest (largest + m) (omega arith), z, v) refl

-- a number from 0 on
pub plain_is : (t : Token) (k : ℤ) → t ≡ token.Number k → largest ≤ number_of t → number_of t ≤ last_number → (m : ℕ) × (k ≡ pos m) × (number_of t ≡ largest + m)
plain_is t (pos m) e h l =
    let i : number_of (token.Number (pos m)) ≤ last_number = subst (λ (x : Token). number_of x ≤ last_number) e l in
    (m, refl, ap number_of e ∙ (plain_small m i).1)
plain_is t (negsuc m) e h l =
    let i : number_of (token.Number (negsuc m)) ≤ last_number = subst (λ (x : Token). number_of x ≤ last_number) e l in
    let x = minus_small m i in
    let y = ap number_of e in
    absurd (omega (arith, x.0, x.1))

pub size_is : (t : Token) (k : ℤ) → t ≡ token.Number k → largest ≤ number_of t → number_of t ≤ last_number → nat_abs k ≡ number_of t - largest
size_is t k e l h = let p = plain_is t k e l h in let m = p.0 in let z : largest + m - largest ≡ m = omega arith in rw (p.1, p.2) (sym z)

pub size_fits : (t : Token) (k : ℤ) → t ≡ token.Number k → largest ≤ number_of t → number_of t ≤ last_number → T (non_neg k) × Fits w32 (nat_abs k)
size_fits t k e l h = let p = plain_is t k e l h in let m = p.0 in let i : largest + m ≤ last_number = subst (λ (x : ℕ). x ≤ last_number) p.2 h in rw p.1 (tt, record { fits = omega arith })
