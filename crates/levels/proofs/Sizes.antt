-- The steps to an exact value stay within an i32: one law, and one test of the twelve rows. Assumes nothing.
use Prim.Native.Nat.{ℕ, zero, suc, ◌+◌, ◌-◌, ◌*◌, ◌^◌, ◌≤◌, ◌<◌}
use mathlib.Core.Path.{◌≡◌, refl, sym, ◌∙◌}
use mathlib.Core.Bool.{Bool, true, false, cond, ◌&&◌}
use native.Mathlib.Nat.{mul-le-mul_right, mul-le-mul_left, mul_assoc, mul_right_comm, lt_of_lt_of_le}
use native.Mathlib.Omega.{arith}
use borrow.Author.Tests.{le-ltb}
use lib.Dec.{T, ltb, eqb, ltb→lt}
use lib.IntN.{ℤ, pos, negsuc, neg_ℤ, nat_abs, sub_ℕ, ◌+ℤ◌, ◌*ℤ◌}
use lib.Pow.{pow-add, pow_mono}
use lib.Signed.{mag, lt_z, nat_abs-le}
use Rattle.tables.specs.Tables.{mant_bits, gaq_remap_at}
use Rattle.tables.specs.Numbers.{gaq_remap_table}
use Rattle.tables.proofs.Tests.{and_parts, every_at}
use Rattle.tables.proofs.Rules.{mant_bits_lem}
use Rattle.levels.specs.Codes.{signed, small_bits, large_bits}
use Rattle.levels.specs.Exact.{slope, offset_by_sign, is_negative}
use Rattle.levels.proofs.Signed.{by_test, signed_less, small_width, large_width}
use Rattle.levels.proofs.Rows.{at_gain}

-- ---- sizes of signed numbers
pub mag_abs : (z : ℤ) → mag z ≤ nat_abs z
mag_abs (pos n) = omega arith
mag_abs (negsuc n) = omega arith

pub abs_neg : (n : ℕ) → nat_abs (neg_ℤ (pos n)) ≡ n
abs_neg zero = refl
abs_neg (suc n) = refl

pub abs_mul : (x y : ℤ) → nat_abs (x *ℤ y) ≡ nat_abs x * nat_abs y
abs_mul (pos a) (pos b) = refl
abs_mul (pos a) (negsuc b) = abs_neg (a * suc b)
abs_mul (negsuc a) (pos b) = abs_neg (suc a * b)
abs_mul (negsuc a) (negsuc b) = refl

abs_sub : (a b : ℕ) → nat_abs (sub_ℕ a (suc b)) ≤ a + suc b
abs_sub a b = go (ltb a (suc b))
  where
    go : (t : Bool) → nat_abs (cond t (negsuc (suc b - suc a)) (pos (a - suc b))) ≤ a + suc b
    go true = omega arith
    go false = omega arith

abs_add : (x y : ℤ) → nat_abs (x +ℤ y) ≤ nat_abs x + nat_abs y
abs_add (pos a) (pos b) = omega arith
abs_add (pos a) (negsuc b) = abs_sub a b
abs_add (negsuc a) (pos b) = let h = abs_sub b a in omega arith
abs_add (negsuc a) (negsuc b) = omega arith

times_power : (z : ℤ) (i j k : ℕ) → mag z < 2 ^ i → i + j ≡ k → nat_abs z * 2 ^ j ≤ 2 ^ k
times_power z i j k h e = rw (← e, pow-add 2 i j) (mul-le-mul_right (2 ^ j) (nat_abs-le z h))

pub below_zero : (z : ℤ) → lt_z z (pos 0) ≡ is_negative z
below_zero (pos n) = let h : 0 ≤ n = omega arith in le-ltb n 0 h
below_zero (negsuc n) = refl

-- ---- the steps of l × ((32768 + a) × 2 ^ e) + b × 2 ^ 15
pub record Steps (l z : ℤ) (p : ℕ) (b : ℤ) : Type 0 where
  pub product : nat_abs l * nat_abs (z *ℤ pos p) < 2 ^ 31
  pub whole : mag (l *ℤ (z *ℤ pos p) +ℤ b *ℤ pos (2 ^ 15)) < 2 ^ 31

steps : (l z : ℤ) (p : ℕ) (b : ℤ) → nat_abs l * p ≤ 2 ^ 15 → nat_abs z + nat_abs b < 2 ^ 16 → Steps l z p b
steps l z p b h k =
    let s : nat_abs l * p * nat_abs z ≤ 2 ^ 15 * nat_abs z = mul-le-mul_right (nat_abs z) h in
    let m : nat_abs l * nat_abs (z *ℤ pos p) ≡ nat_abs l * p * nat_abs z =
    rw (abs_mul z (pos p)) (sym (mul_assoc (nat_abs l) (nat_abs z) p) ∙ mul_right_comm (nat_abs l) (nat_abs z) p) in
    let x = abs_mul l (z *ℤ pos p) in
    let y = abs_mul b (pos (2 ^ 15)) in
    let a = abs_add (l *ℤ (z *ℤ pos p)) (b *ℤ pos (2 ^ 15)) in
    let g = mag_abs (l *ℤ (z *ℤ pos p) +ℤ b *ℤ pos (2 ^ 15)) in
    record { product = omega arith; whole = omega arith }

-- ---- the rows
abbrev within : ℕ → ℕ → Bool → Bool
within h g below = ltb (nat_abs (pos 32768 +ℤ slope h g) + nat_abs (offset_by_sign h g below)) (2 ^ 16)

abbrev size_at : ℕ → ℕ → Bool
size_at h g = within h g true && within h g false

abbrev row : ℕ → Bool
row h = size_at h 1 && (size_at h 2 && size_at h 4)

size_at_lem : (h g : ℕ) → 8 ≤ h → h ≤ 19 → T (size_at h g)
unfolding gaq_remap_at gaq_remap_table
size_at_lem h g l u =
    let p = and_parts (size_at h 1) (size_at h 2 && size_at h 4) (every_at row 12 8 h tt l (omega arith)) in
    let q = and_parts (size_at h 2) (size_at h 4) p.1 in
    at_gain (size_at h) g (λ e e'. rw (e, e')) p.0 q.0 q.1

pub row_size : (h g : ℕ) → 8 ≤ h → h ≤ 19 → (below : Bool) → nat_abs (pos 32768 +ℤ slope h g) + nat_abs (offset_by_sign h g below) < 2 ^ 16
row_size h g l u below = ltb→lt (nat_abs (pos 32768 +ℤ slope h g) + nat_abs (offset_by_sign h g below)) (2 ^ 16) (go below)
  where
    tests : T (within h g true) × T (within h g false)
    tests = and_parts (within h g true) (within h g false) (size_at_lem h g l u)

    go : (t : Bool) → T (within h g t)
    go true = tests.0
    go false = tests.1

-- ---- what the codes have in common
module _ (h g : ℕ) (low : 8 ≤ h) (high : h ≤ 19) where
  pub unit_size : nat_abs (pos 32768 +ℤ slope h g) * 2 ^ (cond (eqb g 2) 17 16 - mant_bits h) < 2 ^ 31
  unit_size =
      let r = row_size h g low high false in
      let b = mant_bits_lem h low high in
      let z = nat_abs (pos 32768 +ℤ slope h g) in
      let p : 2 ^ (cond (eqb g 2) 17 16 - mant_bits h) ≤ 2 ^ 14 = pow_mono (by_test (λ (n : ℕ). n - mant_bits h ≤ 14) (eqb g 2) 17 16 (omega arith) (omega arith)) in
      let m : z * 2 ^ (cond (eqb g 2) 17 16 - mant_bits h) ≤ z * 2 ^ 14 = mul-le-mul_left z p in
      omega arith

  pub offset_size : (below : Bool) → nat_abs (offset_by_sign h g below) * 2 ^ 15 < 2 ^ 31
  offset_size below = let r = row_size h g low high below in omega arith

  -- ---- the codes
  pub small_size : (u : ℕ) → u < 2 ^ small_bits (mant_bits h) g → nat_abs (signed (small_bits (mant_bits h) g) u) * 2 ^ (31 - mant_bits h) < 2 ^ 31
  small_size u f =
      let m = mant_bits_lem h low high in
      let b : mag (signed (small_bits (mant_bits h) g) u) < 2 ^ (mant_bits h - 1) =
      lt_of_lt_of_le (signed_less (small_bits (mant_bits h) g) u (small_width (mant_bits h) g m.0 m.1).0 f)
      (pow_mono (by_test (λ (n : ℕ). n - 1 ≤ mant_bits h - 1) (eqb g 2) (mant_bits h - 1) (mant_bits h - 2) (omega arith) (omega arith))) in
      let t : nat_abs (signed (small_bits (mant_bits h) g) u) * 2 ^ (31 - mant_bits h) ≤ 2 ^ 30 =
      times_power (signed (small_bits (mant_bits h) g) u) (mant_bits h - 1) (31 - mant_bits h) 30 b (omega arith) in
      omega arith

  pub large_steps : (u : ℕ) → u < 2 ^ large_bits (mant_bits h) g
      → Steps (signed (large_bits (mant_bits h) g) u) (pos 32768 +ℤ slope h g) (2 ^ (cond (eqb g 2) 17 16 - mant_bits h)) (offset_by_sign h g (is_negative (signed (large_bits (mant_bits h) g) u)))
  large_steps u f =
      let m = mant_bits_lem h low high in
      let l = signed (large_bits (mant_bits h) g) u in
      steps l (pos 32768 +ℤ slope h g) (2 ^ (cond (eqb g 2) 17 16 - mant_bits h)) (offset_by_sign h g (is_negative l))
      (times_power l (large_bits (mant_bits h) g - 1) (cond (eqb g 2) 17 16 - mant_bits h) 15
      (signed_less (large_bits (mant_bits h) g) u (large_width (mant_bits h) g m.0 m.1).0 f) (go (eqb g 2)))
      (row_size h g low high (is_negative l))
    where
      go : (t : Bool) → cond t (mant_bits h - 1) (mant_bits h) - 1 + (cond t 17 16 - mant_bits h) ≡ 15
      go true = let m = mant_bits_lem h low high in omega arith
      go false = let m = mant_bits_lem h low high in omega arith
