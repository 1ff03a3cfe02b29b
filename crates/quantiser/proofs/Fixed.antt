-- What a hebap and a gain fix: the parts of `Steps`, what they mean, and how large they get. Assumes nothing.
use Rattle.std.proofs.Common.{◌≡◌, ℕ, ◌-◌, ◌^◌, ◌≤◌, eqb, ℤ, pos, negsuc, sym, ap, ◌∙◌, arith, pow_pos, le-ltb, ne_eqb}
use lib.Ieee.{Float, binary32, div}
use Rattle.tables.proofs.Rules.{mant_bits_lem}
use Rattle.tables.specs.Tables.{mant_bits}
use Rattle.levels.specs.Value.{f1, power, gaq_remap, scaled}
use Rattle.levels.specs.Work.{remap_of}
use Rattle.levels.specs.declared.Remap.{Remap}
use Rattle.levels.proofs.Remapping.{remap_by_lem}
use Rattle.levels.proofs.Scaling.{scaled_divided}
use Rattle.levels.proofs.Signed.{by_test, halves, small_width, large_width}
use Rattle.quantiser.specs.Quantise.{min_z, value_at, unit_of, slope_at}
use Rattle.quantiser.specs.Work.{exponent_of, level_by, unit_by}
use Rattle.quantiser.specs.declared.Steps.{Steps}

pub scale_range : (h g : ℕ) → 8 ≤ h → h ≤ 19 → (1 ≤ exponent_of h g) × (exponent_of h g ≤ 16)
scale_range h g l u =
    let b = mant_bits_lem h l u in
    by_test (λ (w : ℕ). (1 ≤ w - 1) × (w - 1 ≤ 16)) (eqb g 2) (mant_bits h - 1) (mant_bits h) (omega arith) (omega arith)

-- ---- the value of the level k, and the step of the estimate
module _ (h g n : ℕ) (l : 1 ≤ n) (u : n ≤ 16) where
  value_at_lem : (k : ℤ) → level_by (remap_of h g) (div binary32 f1 (power n)) k ≡ value_at h g n k
  unfolding value_at scaled
  value_at_lem k = remap_by_lem h g (scaled n k) ∙ ap (gaq_remap h g) (scaled_divided n k l u)

  first_is : min_z (pos 1) (pos (2 ^ n - 1)) ≡ pos 1
  first_is = let e = halves n l in let p = pow_pos (n - 1) in rw (le-ltb (2 ^ n - 1) 1 (omega arith))

  unit_slope : (g ≡ 1 → ⊥) → unit_by (remap_of h g) (div binary32 f1 (power n)) g ≡ slope_at h g n
  unfolding slope_at
  unit_slope i = rw (ne_eqb g 1 i, value_at_lem (pos 1), value_at_lem (pos 0), first_is)

  module _ (r : Remap) (p : Float) (er : r ≡ remap_of h g) (ep : p ≡ div binary32 f1 (power n)) where
    value_is : (k : ℤ) → level_by r p k ≡ value_at h g n k
    value_is k = rw (er, ep) (value_at_lem k)

    module _ (w : Float) (ew : w ≡ unit_by r p g) where
      one_is : g ≡ 1 → w ≡ unit_of h n
      one_is i = ew ∙ rw (er, ep, i) (remap_by_lem h 1 (div binary32 f1 (power n)))

      slope_is : (g ≡ 1 → ⊥) → w ≡ slope_at h g n
      slope_is i = ew ∙ rw (er, ep) (unit_slope i)

-- what the fields of a `Steps` are
pub record Fixed (st : Steps) : Type 0 where
  pub n_is : st.n ≡ st.large - 1
  pub value_is : (k : ℤ) → level_by st.remap st.part k ≡ value_at st.hebap st.gk st.n k
  pub unit_one : st.gk ≡ 1 → st.unit ≡ unit_of st.hebap st.n
  pub unit_large : (st.gk ≡ 1 → ⊥) → st.unit ≡ slope_at st.hebap st.gk st.n
  pub zero_is : st.zero ≡ value_at st.hebap st.gk st.n (pos 0)
  pub below_is : st.below ≡ value_at st.hebap st.gk st.n (negsuc 0)
  pub n_range : (1 ≤ st.n) × (st.n ≤ 16)
  pub small_range : (1 ≤ st.small) × (st.small ≤ 16)
  pub large_range : (1 ≤ st.large) × (st.large ≤ 16)

pub fixed : (st : Steps) → Fixed st
fixed st =
    let h = st.hebap in
    let g = st.gk in
    let b = mant_bits_lem h st.in_range.0 st.in_range.1 in
    let r = scale_range h g st.in_range.0 st.in_range.1 in
    let s = small_width (mant_bits h) g b.0 b.1 in
    let l = large_width (mant_bits h) g b.0 b.1 in
    let n : (1 ≤ st.n) × (st.n ≤ 16) = omega (arith, st.n_is, r) in
    let v = value_is h g st.n n.0 n.1 st.remap st.part st.remap_is st.part_is in
    record {
      n_is = st.n_is ∙ ap (λ (k : ℕ). k - 1) (sym st.large_is);
      value_is = v;
      unit_one = one_is h g st.n n.0 n.1 st.remap st.part st.remap_is st.part_is st.unit st.unit_is;
      unit_large = slope_is h g st.n n.0 n.1 st.remap st.part st.remap_is st.part_is st.unit st.unit_is;
      zero_is = st.zero_is ∙ v (pos 0);
      below_is = st.below_is ∙ v (negsuc 0);
      n_range = n;
      small_range = omega (arith, st.small_is, s);
      large_range = omega (arith, st.large_is, l);
    }

pub n_few : (st : Steps) → st.n ≤ 16
n_few st = (fixed st).n_range.1
