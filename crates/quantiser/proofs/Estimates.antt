-- The estimates fit the Rust's i32: none is clamped by `as i32`, and the probes beside them fit too. Assumes nothing.
use Rattle.std.proofs.Common.{◌≡◌, ℕ, suc, ◌+◌, ◌-◌, ◌*◌, ◌/◌, ◌^◌, ◌<◌, ◌≤◌, min, Bool, true, false, not, ◌&&◌, ◌||◌, T, eqb, leb, ℤ, pos, negsuc, nat_abs, sym, refl, subst, true≢false, mul_assoc, suc-mul, div-lt_iff_lt-mul, mul-pos, arith, lit<, lit≤, leb→le, ltb-false, ne_eqb, eqb-true}
use lib.Ieee.{Float, nan, inf, fin, up, down, binary32, of_bits, of_int, add, sub, mul, div, lt, le, is_nan}
use lib.Ieee.Bits.{is_false}
use lib.Ieee.Fits.{down_pos}
use lib.Ieee.Scale.{finite}
use Rattle.tables.specs.Numbers.{mant_bits_table, gaq_remap_table}
use Rattle.tables.specs.Tables.{mant_bits, gaq_remap_at}
use Rattle.tables.proofs.Rules.{mant_bits_lem}
use Rattle.tables.proofs.Tests.{and_parts, every_at}
use Rattle.levels.specs.Codes.{large_bits}
use Rattle.levels.specs.Component.{beyond, largest_size, too_large}
use Rattle.levels.specs.Value.{power, q15, offset_at, gaq_remap, divided}
use Rattle.levels.proofs.Sizes.{abs_neg}
use Rattle.levels.proofs.Within.{reaches, sub_within, mul_within, div_within}
use Rattle.quantiser.specs.Quantise.{value_at, unit_of, units_in, slope_at, steps_from, scaled_up, allowed}
use Rattle.quantiser.specs.Round.{half_up, round_mag, round_away}

-- q is a number, and what it rounds to is an i32, as are one more and one less
pub record Fits (q : Float) : Type 0 where
  pub number : T (finite q)
  pub whole : nat_abs (round_away q) ≤ 2 ^ 30

pub record EstimatesFit (h g : ℕ) (x : Float) : Type 0 where
  -- Gk 1: the estimate
  pub one : g ≡ 1 → Fits (units_in h (mant_bits h - 1) x)
  -- Gk 2 and 4: s, and the steps from the level 0 or -1
  pub small : (g ≡ 1 → ⊥) → Fits (scaled_up (mant_bits h - 1) x)
  pub above : (g ≡ 1 → ⊥) → Fits (steps_from h g (large_bits (mant_bits h) g - 1) (pos 0) x)
  pub below : (g ≡ 1 → ⊥) → Fits (steps_from h g (large_bits (mant_bits h) g - 1) (negsuc 0) x)

-- ---- rounding to a whole number does not pass a whole number
half_most : (a d n : ℕ) → 0 < d → a ≤ n * d → half_up a d ≤ n
half_most a d n p h =
    let e : suc n * (d * 2) ≡ n * (d * 2) + d * 2 = suc-mul n (d * 2) in
    let f : n * d * 2 ≡ n * (d * 2) = mul_assoc n d 2 in
    let q : (a * 2 + d) / (d * 2) < suc n = (div-lt_iff_lt-mul (mul-pos p (lit< tt))).1 (omega arith) in
    omega arith

fits : (q : Float) → beyond (2 ^ 30) q ≡ false → Fits q
unfolding beyond round_away round_mag
fits nan h = absurd (true≢false h)
fits (inf s) h = absurd (true≢false h)
fits (fin true m e) h =
    let l = half_most (m * up e) (down e) (2 ^ 30) (down_pos e) (ltb-false (2 ^ 30 * down e) (m * up e) h) in
    let a = abs_neg (min (half_up (m * up e) (down e)) 2147483648) in
    record { number = tt; whole = omega arith }
fits (fin false m e) h =
    let l = half_most (m * up e) (down e) (2 ^ 30) (down_pos e) (ltb-false (2 ^ 30 * down e) (m * up e) h) in
    record { number = tt; whole = omega arith }

-- ---- the divisors and what is subtracted, one test of all hebaps each
unit_reaches : (h : ℕ) → 8 ≤ h → h ≤ 19 → T (reaches 16 (unit_of h (mant_bits h - 1)))
unfolding mant_bits mant_bits_table gaq_remap_at gaq_remap_table gaq_remap q15 offset_at add mul div le of_int of_bits
unit_reaches h l u = every_at (λ k. reaches 16 (unit_of k (mant_bits k - 1))) 12 8 h tt l (omega arith)

-- the levels 0 and -1 are 1 at most in size, and a step is 2 ^ -15 at least
abbrev step_at : ℕ → ℕ → Bool
step_at h g =
    let n = large_bits (mant_bits h) g - 1 in
    reaches 15 (slope_at h g n) && (not (beyond 1 (value_at h g n (pos 0))) && not (beyond 1 (value_at h g n (negsuc 0))))

steps_reach : (h : ℕ) → 8 ≤ h → h ≤ 16 → T (step_at h 2) × T (step_at h 4)
unfolding mant_bits mant_bits_table gaq_remap_at gaq_remap_table gaq_remap q15 offset_at value_at divided slope_at beyond add sub mul div lt le is_nan of_int of_bits
steps_reach h l u = and_parts (step_at h 2) (step_at h 4) (every_at (λ k. step_at k 2 && step_at k 4) 9 8 h tt l (omega arith))

-- a gain of 2 or 4, where it is allowed
gain_steps : (h g : ℕ) → 8 ≤ h → (g ≡ 1 → ⊥) → T (eqb g 1 || leb h 16 && (eqb g 2 || eqb g 4)) → T (step_at h g)
gain_steps h g low n t =
    let p = and_parts (leb h 16) (eqb g 2 || eqb g 4) (rw (ne_eqb g 1 n) at t) in
    go (steps_reach h low (leb→le h 16 p.0)) (eqb g 2) (eqb g 4) refl refl p.1
  where
    go : T (step_at h 2) × T (step_at h 4) → (a b : Bool) → eqb g 2 ≡ a → eqb g 4 ≡ b → T (a || b) → T (step_at h g)
    go s true b e f u = subst (λ (k : ℕ). T (step_at h k)) (sym (eqb-true g 2 e)) s.0
    go s false true e f u = subst (λ (k : ℕ). T (step_at h k)) (sym (eqb-true g 4 f)) s.1
    go s false false e f u = absurd u

power_size : (n : ℕ) → n ≤ 15 → T (not (beyond (2 ^ 15) (power n)))
unfolding beyond of_int
power_size n u = every_at (λ k. not (beyond (2 ^ 15) (power k))) 16 0 n tt (omega arith) (omega arith)

-- ---- the estimates of a component that is accepted
module _ (h g : ℕ) (x : Float) (fine : too_large x ≡ false) where
  one_fits : 8 ≤ h → h ≤ 19 → Fits (units_in h (mant_bits h - 1) x)
  one_fits l u =
      let unit = unit_of h (mant_bits h - 1) in
      fits (div binary32 x unit) (div_within largest_size 16 30 x unit (omega arith) fine (unit_reaches h l u) (lit≤ tt))

  small_fits : 8 ≤ h → h ≤ 19 → Fits (scaled_up (mant_bits h - 1) x)
  small_fits l u =
      let m = mant_bits_lem h l u in
      let p = power (mant_bits h - 1) in
      let s = is_false (beyond (2 ^ 15) p) (power_size (mant_bits h - 1) (omega arith)) in
      fits (mul binary32 x p) (mul_within largest_size (2 ^ 15) 30 (omega arith) x p fine s (lit≤ tt))

  steps_fit : (k : ℤ) → let n = large_bits (mant_bits h) g - 1 in T (reaches 15 (slope_at h g n)) → T (not (beyond 1 (value_at h g n k))) → Fits (steps_from h g n k x)
  steps_fit k r v =
      let n = large_bits (mant_bits h) g - 1 in
      let d = sub binary32 x (value_at h g n k) in
      let s = sub_within largest_size 1 15 (omega arith) x (value_at h g n k) fine (is_false (beyond 1 (value_at h g n k)) v) (lit≤ tt) in
      fits (div binary32 d (slope_at h g n)) (div_within (2 ^ 15) 15 30 d (slope_at h g n) (omega arith) s r (lit≤ tt))

  both_fit : T (step_at h g) → let n = large_bits (mant_bits h) g - 1 in Fits (steps_from h g n (pos 0) x) × Fits (steps_from h g n (negsuc 0) x)
  both_fit t =
      let n = large_bits (mant_bits h) g - 1 in
      let p = and_parts (reaches 15 (slope_at h g n)) _ t in
      let q = and_parts (not (beyond 1 (value_at h g n (pos 0)))) (not (beyond 1 (value_at h g n (negsuc 0)))) p.1 in
      (steps_fit (pos 0) p.0 q.0, steps_fit (negsuc 0) p.0 q.1)

pub estimates_fit : (h g : ℕ) (x : Float) → allowed h g ≡ true → too_large x ≡ false → EstimatesFit h g x
estimates_fit h g x a fine =
    let gain = eqb g 1 || leb h 16 && (eqb g 2 || eqb g 4) in
    let p = and_parts (leb 8 h && leb h 19) gain (subst T (sym a) tt) in
    let r = and_parts (leb 8 h) (leb h 19) p.0 in
    let low = leb→le 8 h r.0 in
    let high = leb→le h 19 r.1 in
    record {
      one = λ e. one_fits h g x fine low high;
      small = λ n. small_fits h g x fine low high;
      above = λ n. (both_fit h g x fine (gain_steps h g low n p.1)).0;
      below = λ n. (both_fit h g x fine (gain_steps h g low n p.1)).1;
    }
