-- What the codes of a hebap and a gain have in common, field by field, and the value of a code by it. Assumes nothing.
use Prim.Native.Nat.{ℕ, zero, suc, ◌-◌, ◌*◌, ◌^◌, ◌≤◌, ◌<◌}
use mathlib.Core.Path.{◌≡◌, refl, sym, ap, ◌∙◌}
use mathlib.Core.Bool.{Bool, true, false, cond}
use mathlib.Core.Logic.{◌⊎◌, inl, inr}
use native.Mathlib.Nat.{mul_assoc, mul-zero}
use native.Mathlib.Omega.{arith}
use lib.Dec.{eqb}
use lib.IntN.{ℤ, pos, negsuc, neg_ℤ, ◌+ℤ◌, ◌*ℤ◌, +ℤ_idr}
use lib.Ieee.{binary32, of_int, add, mul, div, le}
use lib.Pow.{pow-lt}
use mir.Syntax.{w32}
use mir.Val.{to_z, of_z}
use Rattle.tables.specs.Tables.{mant_bits}
use Rattle.tables.proofs.Rules.{mant_bits_lem}
use Rattle.levels.specs.declared.Code.{Code}
use Rattle.levels.specs.declared.CodeScale.{CodeScale}
use Rattle.levels.specs.Codes.{signed, small_bits, large_bits}
use Rattle.levels.specs.Exact.{slope, offset_by_sign, is_negative, exact_of}
use Rattle.levels.specs.Value.{f0, f1, power, scaled, divided, small_value, level_of, value_of}
use Rattle.levels.specs.Work.{Scale, remap_of, remap_by, scale_of}
use Rattle.levels.proofs.Signed.{by_test, back, small_width, large_width}
use Rattle.levels.proofs.Sizes.{mag_abs, abs_mul, unit_size, offset_size}
use Rattle.levels.proofs.Scaling.{scaled_divided, large_value_lem}
use Rattle.levels.proofs.Remapping.{remap_by_lem}
use Rattle.levels.proofs.Distinct.{neg_times}

-- what a branch has chosen, by its test
pub chosen : {A : Type 0} (f : Bool → A) (t : Bool) (b : A) → ((t ≡ true) × (b ≡ f true)) ⊎ ((t ≡ false) × (b ≡ f false)) → b ≡ f t
chosen f t b (inl h) = h.1 ∙ ap f (sym h.0)
chosen f t b (inr h) = h.1 ∙ ap f (sym h.0)

-- ---- a product of three, the last a number without sign
times_neg : (x y : ℕ) → pos x *ℤ neg_ℤ (pos y) ≡ neg_ℤ (pos (x * y))
times_neg x zero = rw (mul-zero x)
times_neg x (suc y) = refl

neg_times_neg : (x y : ℕ) → negsuc x *ℤ neg_ℤ (pos y) ≡ pos (suc x * y)
neg_times_neg x zero = rw (mul-zero (suc x))
neg_times_neg x (suc y) = refl

pub times_assoc : (x y : ℤ) (p : ℕ) → x *ℤ (y *ℤ pos p) ≡ x *ℤ y *ℤ pos p
times_assoc (pos a) (pos b) p = ap pos (sym (mul_assoc a b p))
times_assoc (pos a) (negsuc b) p = times_neg a (suc b * p) ∙ ap (λ (n : ℕ). neg_ℤ (pos n)) (sym (mul_assoc a (suc b) p)) ∙ sym (neg_times (a * suc b) p)
times_assoc (negsuc a) (pos b) p = ap (λ (n : ℕ). neg_ℤ (pos n)) (sym (mul_assoc (suc a) b p)) ∙ sym (neg_times (suc a * b) p)
times_assoc (negsuc a) (negsuc b) p = neg_times_neg a (suc b * p) ∙ ap pos (sym (mul_assoc (suc a) (suc b) p))

-- ---- the fields
module _ (s : CodeScale) where
  pub m_range : (3 ≤ mant_bits s.hebap) × (mant_bits s.hebap ≤ 16)
  m_range = mant_bits_lem s.hebap s.known.0 s.known.1

  remap_is : s.remap ≡ remap_of s.hebap s.gk
  unfolding scale_of
  remap_is = ap (λ (t : Scale). t.remap) s.is

  pub small_is : s.small ≡ small_bits (mant_bits s.hebap) s.gk
  unfolding scale_of
  small_is = ap (λ (t : Scale). t.small) s.is

  pub large_is : s.large ≡ large_bits (mant_bits s.hebap) s.gk
  unfolding scale_of
  large_is = ap (λ (t : Scale). t.large) s.is

  small_part_is : s.small_part ≡ div binary32 f1 (power (mant_bits s.hebap - 1))
  unfolding scale_of
  small_part_is = ap (λ (t : Scale). t.small_part) s.is

  large_part_is : s.large_part ≡ div binary32 f1 (power (large_bits (mant_bits s.hebap) s.gk - 1))
  unfolding scale_of
  large_part_is = ap (λ (t : Scale). t.large_part) s.is

  pub small_unit_is : s.small_unit ≡ pos (2 ^ (31 - mant_bits s.hebap))
  unfolding scale_of
  small_unit_is = ap (λ (t : Scale). t.small_unit) s.is

  pub large_unit_is : s.large_unit ≡ (pos 32768 +ℤ slope s.hebap s.gk) *ℤ pos (2 ^ (cond (eqb s.gk 2) 17 16 - mant_bits s.hebap))
  unfolding scale_of
  large_unit_is = ap (λ (t : Scale). t.large_unit) s.is

  pub up_is : s.up ≡ offset_by_sign s.hebap s.gk false *ℤ pos (2 ^ 15)
  unfolding scale_of
  up_is = ap (λ (t : Scale). t.up) s.is

  pub below_is : s.below ≡ offset_by_sign s.hebap s.gk true *ℤ pos (2 ^ 15)
  unfolding scale_of
  below_is = ap (λ (t : Scale). t.below) s.is

  -- ---- what is asked of a code's bits
  pub small_asked : (u : ℕ) → u < 2 ^ small_bits (mant_bits s.hebap) s.gk → (1 ≤ s.small) × (s.small ≤ 16) × (u < 2 ^ s.small)
  small_asked u l = let w = small_width (mant_bits s.hebap) s.gk m_range.0 m_range.1 in rw small_is (w.0, w.1, l)

  pub large_asked : (u : ℕ) → u < 2 ^ large_bits (mant_bits s.hebap) s.gk → (1 ≤ s.large) × (s.large ≤ 16) × (u < 2 ^ s.large)
  large_asked u l = let w = large_width (mant_bits s.hebap) s.gk m_range.0 m_range.1 in rw large_is (w.0, w.1, l)

  -- ---- the exact ones, as they are read back
  pub small_unit_back : to_z w32 (of_z w32 s.small_unit) ≡ pos (2 ^ (31 - mant_bits s.hebap))
  small_unit_back =
      let m = m_range in
      back w32 s.small_unit (rw small_unit_is (pow-lt {j = 31} (omega arith))) small_unit_is

  pub large_unit_back : to_z w32 (of_z w32 s.large_unit) ≡ (pos 32768 +ℤ slope s.hebap s.gk) *ℤ pos (2 ^ (cond (eqb s.gk 2) 17 16 - mant_bits s.hebap))
  large_unit_back =
      let z = pos 32768 +ℤ slope s.hebap s.gk in
      let p = 2 ^ (cond (eqb s.gk 2) 17 16 - mant_bits s.hebap) in
      back w32 s.large_unit (rw large_unit_is (omega (arith, mag_abs (z *ℤ pos p), abs_mul z (pos p), unit_size s.hebap s.gk s.known.0 s.known.1))) large_unit_is

  offset_back : (t : Bool) (x : ℤ) → x ≡ offset_by_sign s.hebap s.gk t *ℤ pos (2 ^ 15) → to_z w32 (of_z w32 x) ≡ offset_by_sign s.hebap s.gk t *ℤ pos (2 ^ 15)
  offset_back t x q =
      let b = offset_by_sign s.hebap s.gk t in
      back w32 x (rw q (omega (arith, mag_abs (b *ℤ pos (2 ^ 15)), abs_mul b (pos (2 ^ 15)), offset_size s.hebap s.gk s.known.0 s.known.1 t))) q

  pub up_back : to_z w32 (of_z w32 s.up) ≡ offset_by_sign s.hebap s.gk false *ℤ pos (2 ^ 15)
  up_back = offset_back false s.up up_is

  pub below_back : to_z w32 (of_z w32 s.below) ≡ offset_by_sign s.hebap s.gk true *ℤ pos (2 ^ 15)
  below_back = offset_back true s.below below_is

  -- ---- the f32 value of a code
  pub small_value_by : (u : ℕ) (k : ℤ) → k ≡ signed s.small u → mul binary32 (of_int binary32 k) s.small_part ≡ value_of s.hebap s.gk (Code.Small u)
  unfolding level_of small_value scaled
  small_value_by u k q = rw (q, small_is, small_part_is)

  pub large_value_by : (u : ℕ) (k : ℤ) → k ≡ signed s.large u → remap_by s.remap (mul binary32 (of_int binary32 k) s.large_part) ≡ value_of s.hebap s.gk (Code.Large u)
  unfolding level_of scaled
  large_value_by u k q =
      let n = large_bits (mant_bits s.hebap) s.gk - 1 in
      let l = signed (large_bits (mant_bits s.hebap) s.gk) u in
      let m = m_range in
      let w = large_width (mant_bits s.hebap) s.gk m.0 m.1 in
      let a : mul binary32 (of_int binary32 k) s.large_part ≡ divided n l = rw (q, large_is, large_part_is) (scaled_divided n l (by_test (λ (k : ℕ). 1 ≤ k - 1) (eqb s.gk 2) (mant_bits s.hebap - 1) (mant_bits s.hebap) (omega arith) (omega arith)) (omega arith)) in
      rw (a, remap_is) (remap_by_lem s.hebap s.gk (divided n l) ∙ sym (large_value_lem s.hebap s.known.0 s.known.1 s.gk l))

  -- ---- Gk 1: b is 0 on both sides
  module _ (one : s.gk ≡ 1) where
    pub fixed_value_by : (u : ℕ) (k : ℤ) → k ≡ signed s.large u → let x = mul binary32 (of_int binary32 k) s.large_part in
        add binary32 (add binary32 x (mul binary32 s.remap.a x)) s.remap.up ≡ value_of s.hebap s.gk (Code.Large u)
    unfolding remap_by remap_of
    fixed_value_by u k q =
        let x = mul binary32 (of_int binary32 k) s.large_part in
        let b : s.remap.below ≡ s.remap.up = rw (remap_is, one) in
        same (le f0 x) b ∙ large_value_by u k q
      where
        same : (t : Bool) → s.remap.below ≡ s.remap.up → let x = mul binary32 (of_int binary32 k) s.large_part in
            add binary32 (add binary32 x (mul binary32 s.remap.a x)) s.remap.up
            ≡ add binary32 (add binary32 x (mul binary32 s.remap.a x)) (cond t s.remap.up s.remap.below)
        same true b = refl
        same false b = rw b

    pub fixed_exact_by : (u : ℕ) → let l = signed (large_bits (mant_bits s.hebap) s.gk) u in
        l *ℤ ((pos 32768 +ℤ slope s.hebap s.gk) *ℤ pos (2 ^ (cond (eqb s.gk 2) 17 16 - mant_bits s.hebap))) ≡ exact_of s.hebap s.gk (Code.Large u)
    unfolding exact_of
    fixed_exact_by u =
        let l = signed (large_bits (mant_bits s.hebap) s.gk) u in
        let z = pos 32768 +ℤ slope s.hebap s.gk in
        let p = 2 ^ (cond (eqb s.gk 2) 17 16 - mant_bits s.hebap) in
        times_assoc l z p ∙ sym (none (is_negative l) (l *ℤ z *ℤ pos p))
      where
        none : (t : Bool) (x : ℤ) → x +ℤ offset_by_sign s.hebap s.gk t *ℤ pos (2 ^ 15) ≡ x
        none true x = rw one (+ℤ_idr x)
        none false x = rw one (+ℤ_idr x)
