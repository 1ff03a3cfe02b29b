-- The table of scales: one computed test of its rows, and what its numbers are bounded by. Assumes nothing.
use Prim.Native.Nat.{ℕ, zero, suc, ◌+◌, ◌-◌, ◌*◌, ◌^◌, ◌≤◌, ◌<◌}
use mathlib.Core.Path.{◌≡◌, refl, sym, ap, ◌∙◌, subst}
use mathlib.Core.Bool.{Bool, true, false, cond, not}
use mathlib.Core.List.{List, [], ◌∷◌}
use mathlib.Core.Logic.{inl, inr}
use native.Mathlib.Nat.{eq-or-lt_of_le}
use native.Mathlib.Omega.{arith}
use borrow.Author.Tests.{eqb-true}
use lib.Dec.{T, eqb}
use lib.IntN.{ℤ, pos, nat_abs, neg_ℤ, ◌+ℤ◌, ◌-ℤ◌, ◌*ℤ◌, +ℤ_idl}
use lib.Ieee.{Float, binary32, of_bits, nan_bits}
use lib.ListN.{length, get_or}
use lib.Pow.{pow-lt}
use lib.Signed.{mag}
use Rattle.std.proofs.Math.Facts.{eqb_yes}
use mir.Syntax.{w32}
use mir.Val.{SFits}
use Rattle.tables.specs.Tables.{mant_bits}
use Rattle.tables.proofs.Tests.{each, each_at, every, every_at}
use Rattle.tables.proofs.Rules.{mant_bits_lem}
use Rattle.levels.specs.Exact.{slope, offset_by_sign}
use Rattle.levels.specs.Work.{Scale, remap_of, scale_of, IsScale, row_of, scale_at, AreScales}
use Rattle.levels.proofs.Sizes.{abs_mul, abs_neg, unit_size, offset_size}

-- ---- an equation for each number of a range, as one equation of lists
abbrev pub listed : {A : Type 0} → (ℕ → A) → ℕ → ℕ → List A
listed f zero k = []
listed f (suc n) k = f k ∷ listed f n (suc k)

listed_at : {A : Type 0} (f f' : ℕ → A) (n k j : ℕ) → listed f n k ≡ listed f' n k → k ≤ j → j < k + n → f j ≡ f' j
listed_at f f' zero k j e l u = absurd (let z : j < k + 0 = u in omega arith)
listed_at f f' (suc n) k j e l u =
    let p : f k ≡ f' k = cc in
    let q : listed f n (suc k) ≡ listed f' n (suc k) = cc in
    elim (eq-or-lt_of_le l) [
      | inl d ↦ subst (λ (i : ℕ). f i ≡ f' i) d p
      | inr g ↦ listed_at f f' n (suc k) j q g (omega arith)
    ]

-- ---- the rows
abbrev row : List (List ℕ) → ℕ → List ℕ
row t i = get_or t i []

abbrev pub rows : List (List ℕ) → ℕ → Scale × (Scale × Scale)
rows t h = (scale_at (row t (3 * (h - 8) + 0)), (scale_at (row t (3 * (h - 8) + 1)), scale_at (row t (3 * (h - 8) + 2))))

abbrev pub scales : ℕ → Scale × (Scale × Scale)
scales h = (scale_of h 1, (scale_of h 2, scale_of h 4))

-- a gain other than 1 and 2 has what Gk 4 has
other_gain : (h g : ℕ) → eqb g 1 ≡ false → eqb g 2 ≡ false → scale_of h 4 ≡ scale_of h g
unfolding scale_of remap_of
other_gain h g e e' = rw (e, e')

row_is : (t : List (List ℕ)) → listed (rows t) 12 8 ≡ listed scales 12 8 → (h g : ℕ) → 8 ≤ h → h ≤ 19 → scale_at (row t (row_of h g)) ≡ scale_of h g
row_is t e h g l u = go (eqb g 1) refl (eqb g 2) refl
  where
    at_h : rows t h ≡ scales h
    at_h = listed_at (rows t) scales 12 8 h e l (omega arith)

    go : (a : Bool) → eqb g 1 ≡ a → (b : Bool) → eqb g 2 ≡ b → scale_at (row t (3 * (h - 8) + cond a 0 (cond b 1 2))) ≡ scale_of h g
    go true p b q = rw (eqb-true g 1 p) (ap (λ r. r.0) at_h)
    go false p true q = rw (eqb-true g 2 q) (ap (λ r. r.1.0) at_h)
    go false p false q = ap (λ r. r.1.1) at_h ∙ other_gain h g p q

abbrev pub number : ℕ → Bool
number n = not (nan_bits binary32 n)

no_nan : (b : Bool) → T (not b) → b ≡ false
no_nan true t = absurd t
no_nan false t = refl

pub are_scales : (t : List (List ℕ)) → length t ≡ 36 → T (every (λ i. eqb (length (row t i)) 11) 36 0) → T (each (each number) t) → T (number 0) → listed (rows t) 12 8 ≡ listed scales 12 8 → AreScales t
are_scales t w l n z e = record {
  whole = w;
  wide = λ i u. eqb_yes (every_at (λ j. eqb (length (row t j)) 11) 36 0 i l (omega arith) (omega arith));
  numbers = λ i k. no_nan _ (each_at number (row t i) (each_at (each number) t n [] tt i) 0 z k);
  each = row_is t e;
}

-- ---- a number's negative
pub neg_is : (n : ℕ) → pos 0 -ℤ pos n ≡ neg_ℤ (pos n)
neg_is n = +ℤ_idl (neg_ℤ (pos n))

pub neg_fits : (n : ℕ) → n < 2 ^ 31 → SFits w32 (pos 0 -ℤ pos n)
neg_fits n l = rw (neg_is n) (record { sfits = go n l })
  where
    go : (k : ℕ) → k < 2 ^ 31 → mag (neg_ℤ (pos k)) < 2 ^ 31
    go zero u = omega arith
    go (suc k) u = omega arith

-- ---- what a row's numbers are bounded by
module _ (h g : ℕ) (low : 8 ≤ h) (high : h ≤ 19) (r : List ℕ) (is : scale_at r ≡ scale_of h g) where
  pub small_unit_fits : get_or r 7 0 < 2 ^ 31
  unfolding scale_at scale_of
  small_unit_fits =
      let m = mant_bits_lem h low high in
      let e : get_or r 7 0 ≡ 2 ^ (31 - mant_bits h) = ap (λ (s : Scale). nat_abs s.small_unit) is in
      rw e (pow-lt {j = 31} (omega arith))

  pub large_unit_fits : get_or r 8 0 < 2 ^ 31
  unfolding scale_at scale_of
  large_unit_fits =
      let z = pos 32768 +ℤ slope h g in
      let p = 2 ^ (cond (eqb g 2) 17 16 - mant_bits h) in
      let e : get_or r 8 0 ≡ nat_abs (z *ℤ pos p) = ap (λ (s : Scale). nat_abs s.large_unit) is in
      rw (e, abs_mul z (pos p)) (unit_size h g low high)

  pub up_fits : get_or r 9 0 < 2 ^ 31
  unfolding scale_at scale_of
  up_fits =
      let b = offset_by_sign h g false in
      let e : get_or r 9 0 ≡ nat_abs (b *ℤ pos (2 ^ 15)) = ap (λ (s : Scale). nat_abs s.up) is in
      rw (e, abs_mul b (pos (2 ^ 15))) (offset_size h g low high false)

  pub below_fits : get_or r 10 0 < 2 ^ 31
  unfolding scale_at scale_of
  below_fits =
      let b = offset_by_sign h g true in
      let e : get_or r 10 0 ≡ nat_abs (b *ℤ pos (2 ^ 15)) = sym (abs_neg (get_or r 10 0)) ∙ ap (λ (s : Scale). nat_abs s.below) is in
      rw (e, abs_mul b (pos (2 ^ 15))) (offset_size h g low high true)

  -- the whole from its fields
  pub row_is_scale : (a u b x y : Float) (m n : ℕ) (j k p q : ℤ) → a ≡ of_bits binary32 (get_or r 0 0) → u ≡ of_bits binary32 (get_or r 1 0)
      → b ≡ of_bits binary32 (get_or r 2 0) → m ≡ get_or r 5 0 → n ≡ get_or r 6 0 → x ≡ of_bits binary32 (get_or r 3 0)
      → y ≡ of_bits binary32 (get_or r 4 0) → j ≡ pos (get_or r 7 0) → k ≡ pos (get_or r 8 0) → p ≡ pos (get_or r 9 0) → q ≡ neg_ℤ (pos (get_or r 10 0))
      → IsScale h g (record { a = a; up = u; below = b }) m n x y j k p q
  unfolding scale_at
  row_is_scale a u b x y m n j k p q ea eu eb em en ex ey ej ek ep eq = rw (ea, eu, eb, em, en, ex, ey, ej, ek, ep, eq) is
