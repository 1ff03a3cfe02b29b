-- x + x is exact for a positive f32 below 2 ^ 31, and its whole part says how x rounds. Assumes nothing.
use Rattle.std.proofs.Common.{◌≡◌, ℕ, zero, suc, ◌+◌, ◌-◌, ◌*◌, ◌/◌, ◌%◌, ◌^◌, ◌<◌, ◌≤◌, min, Bool, true, false, not, ◌&&◌, T, eqb, ltb, leb, ℤ, pos, negsuc, sym, ap, ◌∙◌, true≢false, le_trans, le_of_eq, lt_of_lt_of_le, le_of_suc-le-suc, lt_of_le_of_lt, mul-le-mul_right, mul_assoc, div-lt_iff_lt-mul, add-mul, lt_of_mul-lt-mul_right, mul-lt-mul_of_pos_right, mul-pos, one-mul, mul-one, mul-add, mul_right_comm, not-le_of_lt, arith, lit<, lit≤, ltb→lt, lt→ltb, leb→le, pow_pos, pow-add}
use native.Mathlib.Nat.{div-div-eq-div-mul, add-div_right}
use lib.Dec.{nleb→lt}
use lib.Ieee.{Float, nan, inf, fin, binary32, up, down, round, add, lt, fits, to_unsigned}
use lib.Ieee.Exact.{HasValue, round_exact}
use lib.Ieee.Fits.{and_l, and_r, down_pos}
use lib.Ieee.Nearest.{div_same}
use lib.Pow.{pow-lt}
use Rattle.quantiser.specs.Round.{half_up, round_mag}

pub exp_le : (i j : ℕ) → 2 ^ i ≤ 2 ^ j → i ≤ j
exp_le i j h = go (leb i j) (leb→le i j) (nleb→lt i j)
  where
    go : (b : Bool) → (T b → i ≤ j) → (T (not b) → j < i) → i ≤ j
    go true f g = f tt
    go false f g = absurd (not-le_of_lt (pow-lt (g tt)) h)

-- what `fits` says of a value that is not 0
pub fits_digits : (s : Bool) (m : ℕ) (e : ℤ) → T (fits binary32 (fin s (suc m) e)) → (suc m < 2 ^ 24) × (down e ≤ 2 ^ 149)
unfolding fits
fits_digits s m e t =
    let A = eqb (suc m % 2) 1 in
    let B = ltb (suc m) (2 ^ 24) in
    let C = leb (down e) (2 ^ 149) in
    let D = ltb (suc m * up e) (2 ^ 128 * down e) in
    let t1 = and_l (A && B && C) D t in
    (ltb→lt (suc m) (2 ^ 24) (and_r A B (and_l (A && B) C t1)), leb→le (down e) (2 ^ 149) (and_r (A && B) C t1))

-- 2 ^ e is 2 ^ (at n e) units of 2 ^ -n
pub at : ℕ → ℤ → ℕ
at n (pos k) = k + n
at n (negsuc k) = n - suc k

pub at_is : (n : ℕ) → 149 ≤ n → (e : ℤ) → down e ≤ 2 ^ 149 → up e * 2 ^ n ≡ 2 ^ at n e * down e
unfolding at
at_is n g (pos k) h = sym (pow-add 2 k n) ∙ sym (mul-one (2 ^ (k + n)))
at_is n g (negsuc k) h =
    let l : suc k ≤ 149 = exp_le (suc k) 149 h in
    let b : n - suc k + suc k ≡ n = omega arith in
    one-mul (2 ^ n) ∙ sym (ap (λ (n : ℕ). 2 ^ n) b) ∙ pow-add 2 (n - suc k) (suc k)

-- the sum of two equal values, as a fraction
twice : (m : ℕ) (e : ℤ) → suc m < 2 ^ 24 → down e ≤ 2 ^ 149 → suc m * up e < 2 ^ 31 * down e
    → HasValue (round binary32 false (suc m * up e * down e + suc m * up e * down e) (down e * down e)) false (suc m * up e * down e + suc m * up e * down e) (down e * down e)
twice m e small fine bound =
    let q = suc m in
    let a = q * up e in
    let d = down e in
    let D : 0 < d = down_pos e in
    let is : up e * 2 ^ 150 ≡ 2 ^ at 150 e * d = at_is 150 (lit≤ {m = 149} {n = 150} tt) e fine in
    -- a * 2 ^ 150 = q * 2 ^ at 150 e * d
    let units : a * 2 ^ 150 ≡ q * 2 ^ at 150 e * d = mul_assoc q (up e) (2 ^ 150) ∙ ap (λ (z : ℕ). q * z) is ∙ sym (mul_assoc q (2 ^ at 150 e) d) in
    let under : q * 2 ^ at 150 e < 2 ^ 277 = lt_of_mul-lt-mul_right d (lt_of_le_of_lt (le_of_eq (sym units)) (lt_of_lt_of_le (mul-lt-mul_of_pos_right bound (pow_pos 150)) (le_trans (le_of_eq (mul_right_comm (2 ^ 31) d (2 ^ 150))) (mul-le-mul_right d (lit≤ {m = 2 ^ 181} {n = 2 ^ 277} tt))))) in
    round_exact binary32 false (a * d + a * d) (d * d) q (at 150 e) (mul-pos D D) small under
    (let x : a * d * 2 ^ 150 ≡ q * 2 ^ at 150 e * (d * d) = mul_right_comm a d (2 ^ 150) ∙ ap (λ (z : ℕ). z * d) units ∙ mul_assoc (q * 2 ^ at 150 e) d d in
    let y : (a * d + a * d) * 2 ^ 149 ≡ a * d * 2 ^ 150 = add-mul (a * d) (a * d) (2 ^ 149) ∙ sym (mul-add (a * d) (2 ^ 149) (2 ^ 149)) in
    y ∙ x)

-- ---- a value y that is the fraction a / c
-- its whole part
whole_is : (y : Float) (a c : ℕ) → 0 < c → HasValue y false a c → a < 2 ^ 64 * c → to_unsigned 64 y ≡ a / c
unfolding to_unsigned
whole_is nan a c C v h = absurd v
whole_is (inf s) a c C v h = absurd v
whole_is (fin true m e) a c C v h = absurd (true≢false v.0)
whole_is (fin false m e) a c C v h =
    let same : m * up e / down e ≡ a / c = div_same (m * up e) (down e) a c (down_pos e) C v.1 in
    let under : a / c < 2 ^ 64 = (div-lt_iff_lt-mul C).1 h in
    omega arith

above_is : (y : Float) (a c : ℕ) → HasValue y false a c → T (lt (fin true 1 (pos 0)) y)
unfolding lt
above_is nan a c v = absurd v
above_is (inf s) a c v = absurd v
above_is (fin true m e) a c v = absurd (true≢false v.0)
above_is (fin false m e) a c v = lt→ltb 0 (1 * down e + m * up e * 1) (let D = down_pos e in omega arith)

below_is : (y : Float) (a c : ℕ) → HasValue y false a c → a < 2 ^ 64 * c → T (lt y (fin false 1 (pos 64)))
unfolding lt
below_is nan a c v h = absurd v
below_is (inf s) a c v h = absurd v
below_is (fin true m e) a c v h = absurd (true≢false v.0)
below_is (fin false m e) a c v h =
    lt→ltb (m * up e * 1) (2 ^ 64 * down e)
    (lt_of_le_of_lt (le_of_eq (mul-one (m * up e)))
    (lt_of_mul-lt-mul_right c
    (lt_of_le_of_lt (le_of_eq v.1) (lt_of_lt_of_le (mul-lt-mul_of_pos_right h (down_pos e)) (le_of_eq (mul_right_comm (2 ^ 64) c (down e)))))))

-- ---- rounding by the whole part of the double
halves : (a d : ℕ) → 0 < d → (a * 2 / d + 1) / 2 ≡ half_up a d
halves a d D = ap (λ (z : ℕ). z / 2) (sym (add-div_right (a * 2) D)) ∙ div-div-eq-div-mul (a * 2 + d) d 2

halves_le : (a d : ℕ) → 0 < d → a < 2 ^ 31 * d → half_up a d ≤ 2 ^ 31
halves_le a d D h = le_of_suc-le-suc ((div-lt_iff_lt-mul {k = d * 2} {x = a * 2 + d} {y = suc (2 ^ 31)} (mul-pos D (lit< tt))).1 (omega arith))

-- the same number of halves, however the fraction is written
same_double : (a d : ℕ) → 0 < d → (a * d + a * d) / (d * d) ≡ a * 2 / d
same_double a d D = div_same (a * d + a * d) (d * d) (a * 2) d (mul-pos D D) D
    (add-mul (a * d) (a * d) d ∙ ap (λ (z : ℕ). z + z) (mul_assoc a d d) ∙ two (a * (d * d)) ∙ mul_right_comm a (d * d) 2)
  where
    two : (z : ℕ) → z + z ≡ z * 2
    two z = omega arith

pub record Doubled (x : Float) (y : Float) : Type 0 where
  pub above : T (lt (fin true 1 (pos 0)) y)
  pub below : T (lt y (fin false 1 (pos 64)))
  pub small : to_unsigned 64 y < 2 ^ 33
  pub right : (to_unsigned 64 y + 1) / 2 ≡ round_mag x

under : (m : ℕ) (e : ℤ) → T (lt (fin false (suc m) e) (fin false 1 (pos 31))) → suc m * up e < 2 ^ 31 * down e
unfolding lt
under m e h = lt_of_le_of_lt (le_of_eq (sym (mul-one (suc m * up e)))) (ltb→lt (suc m * up e * 1) (2 ^ 31 * down e) h)

from : (m : ℕ) (e : ℤ) → T (lt (fin false (suc m) e) (fin false 1 (pos 31))) → (y : Float) → HasValue y false (suc m * up e * down e + suc m * up e * down e) (down e * down e) → Doubled (fin false (suc m) e) y
unfolding round_mag
from m e h y v =
    let a = suc m * up e in
    let d = down e in
    let D : 0 < d = down_pos e in
    let b : a < 2 ^ 31 * d = under m e h in
    let b2 : a * d < 2 ^ 31 * d * d = mul-lt-mul_of_pos_right b D in
    let b3 : 2 ^ 31 * d * d ≡ 2 ^ 31 * (d * d) = mul_assoc (2 ^ 31) d d in
    let DD : 0 < d * d = mul-pos D D in
    let b4 : a * d + a * d < 2 ^ 64 * (d * d) = omega arith in
    let b5 : a * d + a * d < 2 ^ 33 * (d * d) = omega arith in
    let w : to_unsigned 64 y ≡ (a * d + a * d) / (d * d) = whole_is y (a * d + a * d) (d * d) DD v b4 in
    let le : half_up a d ≤ 2 ^ 31 = halves_le a d D b in
    let r : (to_unsigned 64 y + 1) / 2 ≡ half_up a d = ap (λ (z : ℕ). (z + 1) / 2) (w ∙ same_double a d D) ∙ halves a d D in
    record {
      above = above_is y (a * d + a * d) (d * d) v;
      below = below_is y (a * d + a * d) (d * d) v b4;
      small = lt_of_le_of_lt (le_of_eq w) ((div-lt_iff_lt-mul DD).1 b5);
      right = r ∙ capped (half_up a d) le;
    }
  where
    capped : (n : ℕ) → n ≤ 2 ^ 31 → n ≡ min n 2147483648
    capped n l = omega arith

pub doubled : (x : Float) → T (fits binary32 x) → T (lt (fin false 0 (pos 0)) x) → T (lt x (fin false 1 (pos 31))) → Doubled x (add binary32 x x)
unfolding lt add round_mag
doubled nan f p h = absurd h
doubled (inf true) f p h = absurd p
doubled (inf false) f p h = absurd h
doubled (fin true m e) f p h = absurd p
doubled (fin false zero e) f p h = absurd (let l : 0 * down e < 0 * up e * 1 = ltb→lt (0 * down e) (0 * up e * 1) p in omega arith)
doubled (fin false (suc m) e) f p h = from m e h (round binary32 false (suc m * up e * down e + suc m * up e * down e) (down e * down e)) (twice m e (fits_digits false m e f).0 (fits_digits false m e f).1 (under m e h))
