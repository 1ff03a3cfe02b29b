-- The levels that are found: how large they are, their codes, and a code as one number. Assumes nothing.
use Rattle.std.proofs.Common.{◌≡◌, ℕ, ◌+◌, ◌-◌, ◌*◌, ◌^◌, ◌<◌, ◌≤◌, Bool, true, false, ℤ, sym, ◌∙◌, lt_of_lt_of_le, mul-le-mul, arith, pow_mono, ne_eqb}
use lib.Ieee.{Float}
use lib.Signed.{mag}
use Rattle.tables.specs.Tables.{mant_bits}
use Rattle.levels.specs.Codes.{small_bits, code_bits}
use Rattle.levels.specs.Work.{word_of}
use Rattle.levels.proofs.Signed.{pow2_cap}
use Rattle.quantiser.specs.Quantise.{to_bits, best_one, best_large, small_of, is_small, large_level, picked}
use Rattle.quantiser.specs.declared.Steps.{Steps}
use Rattle.quantiser.proofs.Facts.{picked_one, picked_small, picked_large_lem}
use Rattle.quantiser.proofs.Fixed.{fixed}
use Rattle.quantiser.proofs.Ints.{held, held_is, held_under, small_mag}

-- ---- z is the large level k
pub large_under : (st : Steps) (z : ℤ) {k : ℤ} → mag z < 2 ^ 63 → z ≡ k → mag k < 2 ^ st.n → mag (held z) < 2 ^ st.large
large_under st z ok e small = let l = (fixed st).n_is in held_under z (2 ^ st.large) ok e (lt_of_lt_of_le small (pow_mono {i = st.n} {j = st.large} (omega arith)))

-- ---- z is the small level, and t says whether it is one
pub record Small (st : Steps) (x : Float) (z : ℤ) (t : Bool) : Type 0 where
  pub kind : is_small (small_bits (mant_bits st.hebap) st.gk) (small_of (mant_bits st.hebap - 1) x) ≡ t
  pub under : t ≡ true → mag (held z) < 2 ^ st.small
  pub under_24 : t ≡ true → mag (held z) < 2 ^ 24
  pub bits : (u : ℕ) → u ≡ to_bits st.small (held z) → u ≡ to_bits (small_bits (mant_bits st.hebap) st.gk) (small_of (mant_bits st.hebap - 1) x)

pub found_small : (st : Steps) (x : Float) (z : ℤ) → mag z < 2 ^ 63 → z ≡ small_of (mant_bits st.hebap - 1) x → (t : Bool) → t ≡ is_small st.small (held z) → Small st x z t
found_small st x z ok e t i =
    record {
      kind = sym (simp (st.small_is, held_is z ok e) at i);
      under = under;
      under_24 = λ j. let a = under j in let b = pow2_cap st.small (fixed st).small_range.1 in omega arith;
      bits = λ u j. simp (st.small_is, held_is z ok e) at j;
    }
  where
    under : t ≡ true → mag (held z) < 2 ^ st.small
    under j = small_mag st.small (held z) (sym i ∙ j)

-- ---- the code that is picked, by its level
module _ (st : Steps) (x : Float) where
  abbrev h : ℕ
  h = st.hebap

  abbrev g : ℕ
  g = st.gk

  abbrev m : ℕ
  m = mant_bits h

  pub one_picked : g ≡ 1 → large_level h g st.large (best_one h st.n x) ≡ picked h g x
  one_picked i = rw (picked_one h g x i) (simp (st.n_is, st.large_is, i))

  pub large_picked : (g ≡ 1 → ⊥) → is_small (small_bits m g) (small_of (m - 1) x) ≡ false → large_level h g st.large (best_large h g st.n x) ≡ picked h g x
  large_picked i t = simp (picked_large_lem h g x i t, st.n_is, st.large_is)

  -- as one number: u, of w bits
  module _ (u w : ℕ) where
    abbrev Worded : Type 0
    Worded = (u ≡ word_of m g (picked h g x).0) × (w ≡ code_bits m g (picked h g x).0)

    pub word_one : g ≡ 1 → u ≡ to_bits st.large (best_one h st.n x) → w ≡ st.large → Worded
    word_one i a b = rw (picked_one h g x i) (simp i (simp (st.n_is, st.large_is, i) at a, simp (st.large_is, i) at b))

    pub word_small : (g ≡ 1 → ⊥) → is_small (small_bits m g) (small_of (m - 1) x) ≡ true → u ≡ to_bits (small_bits m g) (small_of (m - 1) x) → w ≡ st.small → Worded
    word_small i t a b = rw (picked_small h g x i t) (a, b ∙ st.small_is)

    pub word_large : (g ≡ 1 → ⊥) → is_small (small_bits m g) (small_of (m - 1) x) ≡ false
        → u ≡ 2 ^ (st.small - 1) * 2 ^ st.large + to_bits st.large (best_large h g st.n x) → w ≡ st.small + st.large → Worded
    word_large i t a b = rw (picked_large_lem h g x i t, ne_eqb g 1 i) (simp (st.n_is, st.small_is, st.large_is) at a, simp (st.small_is, st.large_is) at b)

-- the tag before l fits 32 bits
pub word_fits : (s l : ℕ) → s ≤ 16 → l ≤ 16 → 2 ^ (s - 1) * 2 ^ l ≤ 2 ^ 31
word_fits s l a b = mul-le-mul (pow_mono {i = s - 1} {j = 15} (omega arith)) (pow2_cap l b)
