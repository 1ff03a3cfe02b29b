-- The reader's f32 of a code (times 1 / 2 ^ n, which is exact) is the quantiser's (divided by 2 ^ n). Assumes nothing.
use Prim.Native.Nat.{ℕ, zero, suc, ◌-◌, ◌*◌, ◌^◌, ◌≤◌, ◌<◌}
use mathlib.Core.Path.{◌≡◌, refl, sym, ap, ◌∙◌}
use mathlib.Core.Bool.{Bool, true, false, cond, ◌&&◌}
use native.Mathlib.Nat.{mul_comm, one-mul, not-suc-le-zero}
use native.Mathlib.Omega.{arith}
use lib.Dec.{T, eqb, eqb→eq}
use lib.IntN.{ℤ, pos, negsuc}
use lib.Ieee.{Float, nan, inf, fin, up, down, binary32, round, mul, div, of_int, of_bits, unlike}
use Rattle.tables.specs.Tables.{mant_bits}
use Rattle.tables.proofs.Tests.{and_parts, every_at}
use Rattle.tables.proofs.Rules.{mant_bits_lem}
use Rattle.levels.specs.Codes.{large_bits}
use Rattle.levels.specs.Value.{f1, power, scaled, divided, gaq_remap, small_value, large_value}

-- both round the same fraction
times_by : (x : Float) (p : ℕ) → mul binary32 x (fin false 1 (negsuc p)) ≡ div binary32 x (fin false 1 (pos (suc p)))
unfolding mul div
times_by nan p = refl
times_by (inf s) p = refl
times_by (fin s m e) p =
    ap (λ (d : ℕ). round binary32 (unlike s false) (m * up e * 1) d)
    (mul_comm (down e) (2 ^ suc p) ∙ ap (λ (z : ℕ). z * down e) (sym (one-mul (2 ^ suc p))))

-- ---- 2 ^ n and 1 / 2 ^ n as floats, by one test of n from 1 to 16

abbrev same_z : ℤ → ℤ → Bool
same_z (pos a) (pos b) = eqb a b
same_z (pos a) (negsuc b) = false
same_z (negsuc a) (pos b) = false
same_z (negsuc a) (negsuc b) = eqb a b

same_z_is : (a b : ℤ) → T (same_z a b) → a ≡ b
same_z_is (pos a) (pos b) t = ap pos (eqb→eq a b t)
same_z_is (pos a) (negsuc b) t = absurd t
same_z_is (negsuc a) (pos b) t = absurd t
same_z_is (negsuc a) (negsuc b) t = ap negsuc (eqb→eq a b t)

-- x is 2 ^ e
abbrev is_power : ℤ → Float → Bool
is_power e nan = false
is_power e (inf s) = false
is_power e (fin true m d) = false
is_power e (fin false m d) = eqb m 1 && same_z d e

is_power_is : (e : ℤ) (x : Float) → T (is_power e x) → x ≡ fin false 1 e
is_power_is e nan t = absurd t
is_power_is e (inf s) t = absurd t
is_power_is e (fin true m d) t = absurd t
is_power_is e (fin false m d) t =
    let p = and_parts (eqb m 1) (same_z d e) t in
    let a = eqb→eq m 1 p.0 in
    let b = same_z_is d e p.1 in
    rw (a, b)

abbrev exact : ℕ → Bool
exact p = is_power (pos (suc p)) (power (suc p)) && is_power (negsuc p) (div binary32 f1 (power (suc p)))

exact_at : (p : ℕ) → p < 16 → (power (suc p) ≡ fin false 1 (pos (suc p))) × (div binary32 f1 (power (suc p)) ≡ fin false 1 (negsuc p))
unfolding div of_int of_bits
exact_at p h =
    let t = and_parts (is_power (pos (suc p)) (power (suc p))) (is_power (negsuc p) (div binary32 f1 (power (suc p)))) (every_at exact 16 0 p tt (omega arith) (omega arith)) in
    (is_power_is (pos (suc p)) (power (suc p)) t.0, is_power_is (negsuc p) (div binary32 f1 (power (suc p))) t.1)

-- ---- the values of a code

pub scaled_divided : (n : ℕ) (k : ℤ) → 1 ≤ n → n ≤ 16 → scaled n k ≡ divided n k
unfolding scaled divided
scaled_divided zero k l u = absurd (not-suc-le-zero l)
scaled_divided (suc p) k l u =
    let e = exact_at p u in
    let x = of_int binary32 k in
    ap (mul binary32 x) e.1 ∙ times_by x p ∙ sym (ap (div binary32 x) e.0)

module _ (h : ℕ) (low : 8 ≤ h) (high : h ≤ 19) where
  pub small_value_lem : (s : ℤ) → small_value h s ≡ divided (mant_bits h - 1) s
  unfolding small_value
  small_value_lem s = let b = mant_bits_lem h low high in scaled_divided (mant_bits h - 1) s (omega arith) (omega arith)

  pub large_value_lem : (g : ℕ) (l : ℤ) → large_value h g l ≡ gaq_remap h g (divided (large_bits (mant_bits h) g - 1) l)
  unfolding large_value
  large_value_lem g l = ap (gaq_remap h g) (go (eqb g 2))
    where
      go : (t : Bool) → cond t (divided (mant_bits h - 2) l) (scaled (mant_bits h - 1) l) ≡ divided (cond t (mant_bits h - 1) (mant_bits h) - 1) l
      go true = ap (λ (n : ℕ). divided n l) (let e : mant_bits h - 2 ≡ mant_bits h - 1 - 1 = omega arith in e)
      go false = let b = mant_bits_lem h low high in scaled_divided (mant_bits h - 1) l (omega arith) (omega arith)
