-- What is picked: a code that is read, with the level that the reader gives it, and its bits. Assumes nothing.
use Rattle.std.proofs.Common.{◌≡◌, ℕ, ◌+◌, ◌-◌, ◌^◌, ◌<◌, ◌≤◌, Bool, true, false, cond, eqb, ℤ, refl, ◌∙◌, arith, pow_pos, eq-eqb, ne_eqb, eqb-true}
use borrow.Author.Tests.{eqb-false}
use lib.Ieee.{Float}
use lib.Signed.{mag}
use Rattle.tables.proofs.Rules.{mant_bits_lem}
use Rattle.tables.specs.Tables.{mant_bits}
use Rattle.levels.specs.Codes.{small_bits, large_bits, code_bits, Accepted}
use Rattle.levels.specs.Value.{divided, level_of}
use Rattle.levels.specs.declared.Code.{Code}
use Rattle.levels.specs.declared.Level.{Level}
use Rattle.levels.proofs.Scaling.{small_value_lem, large_value_lem}
use Rattle.levels.proofs.Signed.{small_width, large_width}
use Rattle.levels.proofs.Sizes.{mag_abs}
use Rattle.quantiser.specs.Quantise.{to_bits, value_at, best_one, best_large, small_of, is_small, one_code, large_code, tagged_code, picked, scalar_bits}
use Rattle.quantiser.proofs.Bounds.{best_one_abs, best_one_small, best_large_small}
use Rattle.quantiser.proofs.Ints.{bits_under, signed_bits, bits_not_lowest, small_abs}

-- a large code in the reader's hands
level_large : (h g : ℕ) → 8 ≤ h → h ≤ 19 → (k : ℤ) → let w = large_bits (mant_bits h) g in mag k < 2 ^ (w - 1) → Level.Large (value_at h g (w - 1) k) ≡ level_of h g (Code.Large (to_bits w k))
unfolding level_of value_at
level_large h g low high k l =
    let m = mant_bits h in
    let b = mant_bits_lem h low high in
    rw (signed_bits (large_bits m g) k (large_width m g b.0 b.1).0 l, large_value_lem h low high g k)

module _ (h g : ℕ) (x : Float) where
  abbrev m : ℕ
  m = mant_bits h

  abbrev s : ℤ
  s = small_of (m - 1) x

  -- ---- by the gain, and by the kind
  abbrev one : Code × Level
  one = (Code.Large (to_bits m (best_one h (m - 1) x)), Level.Large (value_at h 1 (m - 1) (best_one h (m - 1) x)))

  abbrev small : Code × Level
  small = (Code.Small (to_bits (small_bits m g) s), Level.Small (divided (m - 1) s))

  abbrev large : Code × Level
  large =
      let k = best_large h g (large_bits m g - 1) x in
      (Code.Large (to_bits (large_bits m g) k), Level.Large (value_at h g (large_bits m g - 1) k))

  pub by_kind : (P : Code × Level → Type 0) → (g ≡ 1 → P one) → ((g ≡ 1 → ⊥) → is_small (small_bits m g) s ≡ true → P small)
      → ((g ≡ 1 → ⊥) → is_small (small_bits m g) s ≡ false → P large) → P (picked h g x)
  unfolding picked one_code tagged_code large_code
  by_kind P a b c = go (eqb g 1) refl (is_small (small_bits m g) s) refl
    where
      go : (t : Bool) → eqb g 1 ≡ t → (u : Bool) → is_small (small_bits m g) s ≡ u → P (cond t one (cond u small large))
      go true e u f = a (eqb-true g 1 e)
      go false e true f = b (eqb-false g 1 e) f
      go false e false f = c (eqb-false g 1 e) f

  pub picked_one : g ≡ 1 → picked h g x ≡ one
  unfolding picked one_code
  picked_one e = rw (eq-eqb g 1 e)

  pub picked_small : (g ≡ 1 → ⊥) → is_small (small_bits m g) s ≡ true → picked h g x ≡ small
  unfolding picked tagged_code
  picked_small n t = rw (ne_eqb g 1 n, t)

  pub picked_large_lem : (g ≡ 1 → ⊥) → is_small (small_bits m g) s ≡ false → picked h g x ≡ large
  unfolding picked tagged_code large_code
  picked_large_lem n t = rw (ne_eqb g 1 n, t)

  -- ---- how many bits: what scalar_bits of the Rust says
  pub picked_bits : code_bits m g (picked h g x).0 ≡ scalar_bits h g x
  unfolding scalar_bits
  picked_bits =
      by_kind (λ p. code_bits m g p.0 ≡ cond (eqb g 1) m (cond (is_small (small_bits m g) s) (small_bits m g) (small_bits m g + large_bits m g)))
      (λ e. rw e) (λ n t. rw (ne_eqb g 1 n, t)) (λ n t. rw (ne_eqb g 1 n, t))

  module _ (low : 8 ≤ h) (high : h ≤ 19) where
    width : 1 ≤ small_bits m g
    width = let b = mant_bits_lem h low high in (small_width m g b.0 b.1).0

    -- ---- the code that is picked is one that is read
    pub picked_accepted : Accepted h g (picked h g x).0
    picked_accepted =
        by_kind (λ p. Accepted h g p.0) (λ e. rw e (bits_under m (best_one h (m - 1) x)))
        (λ n t. (n, bits_under (small_bits m g) s, bits_not_lowest (small_bits m g) s width (small_abs (small_bits m g) s t)))
        (λ n t. bits_under (large_bits m g) (best_large h g (large_bits m g - 1) x))

    -- ---- and the reader gives it the same level
    level_small : is_small (small_bits m g) s ≡ true → Level.Small (divided (m - 1) s) ≡ level_of h g (Code.Small (to_bits (small_bits m g) s))
    unfolding level_of
    level_small t =
        let a = small_abs (small_bits m g) s t in
        let b = mag_abs s in
        rw (signed_bits (small_bits m g) s width (omega arith), small_value_lem h low high s)

    pub picked_level : (picked h g x).1 ≡ level_of h g (picked h g x).0
    picked_level =
        by_kind (λ p. p.1 ≡ level_of h g p.0)
        (λ e. rw e (level_large h 1 low high (best_one h (m - 1) x) (best_one_small h (m - 1) x)))
        (λ n t. level_small t)
        (λ n t. level_large h g low high (best_large h g (large_bits m g - 1) x) (best_large_small h g (large_bits m g - 1) x))

-- ---- the lowest code of Gk 1 is never picked
pub picked_never_lowest : (h : ℕ) → 8 ≤ h → h ≤ 19 → (x : Float) (l : ℕ) → (picked h 1 x).0 ≡ Code.Large l → l ≡ 2 ^ (mant_bits h - 1) → ⊥
unfolding picked one_code
picked_never_lowest h low high x l e f =
    let m = mant_bits h in
    let k = best_one h (m - 1) x in
    let b = mant_bits_lem h low high in
    let a = best_one_abs h (m - 1) x in
    let p = pow_pos (m - 1) in
    let q : to_bits m k ≡ l = cc in
    bits_not_lowest m k (omega arith) (omega arith) (q ∙ f)
