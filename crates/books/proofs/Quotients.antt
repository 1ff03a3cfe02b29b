-- A whole number of at most 2 ^ 24 in size, over 32768, is exact in f32. Assumes nothing.
use Prim.Native.Nat.{ℕ, suc, ◌*◌, ◌^◌, ◌≤◌, ◌<◌}
use mathlib.Core.Path.{◌≡◌, refl, sym, ap, ◌∙◌, subst}
use mathlib.Core.Bool.{Bool, true, false, true≢false}
use mathlib.Core.Logic.{◌⊎◌, inl, inr}
use native.Mathlib.Nat.{eq-or-lt_of_le, lt_of_lt_of_le, mul_assoc, mul-pos, mul_comm, mul-lt-mul_of_pos_right}
use lib.Dec.{lit≤, lit<}
use lib.Pow.{pow_pos}
use lib.IntN.{pos, negsuc}
use lib.Ieee.{Float, nan, inf, fin, binary32, up, down, round, of_int, of_bits, div}
use lib.Ieee.Exact.{HasValue, round_exact}
use lib.Ieee.Fits.{down_pos}
use lib.Ieee.Back.{round_whole}
use lib.Ieee.Scale.{round_same}
use Rattle.levels.specs.Value.{f32768, q15}

-- m / 32768 has at most 24 digits
quotient : (s : Bool) (m : ℕ) → m ≤ 2 ^ 24 → HasValue (round binary32 s m 32768) s m 32768
quotient s m h = go (eq-or-lt_of_le h)
  where
    go : (m ≡ 2 ^ 24) ⊎ (m < 2 ^ 24) → HasValue (round binary32 s m 32768) s m 32768
    go (inl e) = subst (λ (x : ℕ). HasValue (round binary32 s x 32768) s x 32768) (sym e) (round_exact binary32 s (2 ^ 24) 32768 1 158 (lit< tt) (lit< tt) (lit< tt) refl)
    go (inr l) =
        round_exact binary32 s m 32768 m 134 (lit< tt) l (lt_of_lt_of_le (mul-lt-mul_of_pos_right l (pow_pos 134)) (lit≤ {m = 2 ^ 158} {n = 2 ^ 277} tt)) (sym (mul_assoc m (2 ^ 134) 32768))

-- the quotient as `div` rounds it: a number of the value m over 32768.0
rounded : (s : Bool) (n d m : ℕ) → 0 < d → m ≤ 2 ^ 24 → n ≡ m * d → HasValue (round binary32 s n (32768 * d)) s m 32768
rounded s n d m z h v =
    let same : n * 32768 ≡ m * (32768 * d) = ap (λ (k : ℕ). k * 32768) v ∙ mul_assoc m d 32768 ∙ ap (λ (k : ℕ). m * k) (mul_comm d 32768) in
    subst (λ (x : Float). HasValue x s m 32768) (sym (round_same binary32 s n (32768 * d) m 32768 (mul-pos (lit< tt) z) (lit< tt) same)) (quotient s m h)

-- a whole number's f32, divided by 32768.0
divided : (x : Float) (s : Bool) (m : ℕ) → m ≤ 2 ^ 24 → HasValue x s m 1 → HasValue (div binary32 x f32768) s m 32768
unfolding div of_bits
divided nan s m h v = absurd v
divided (inf t) s m h v = absurd v
divided (fin true q e) false m h v = absurd (true≢false v.0)
divided (fin false q e) true m h v = absurd (true≢false (sym v.0))
divided (fin true q e) true m h v = rounded true (q * up e * 1) (down e) m (down_pos e) h v.1
divided (fin false q e) false m h v = rounded false (q * up e * 1) (down e) m (down_pos e) h v.1

pub positive_exact : (m : ℕ) → m ≤ 2 ^ 24 → HasValue (q15 (pos m)) false m 32768
unfolding q15 of_int
positive_exact m h = divided (round binary32 false m 1) false m h (round_whole binary32 false m h)

pub negative_exact : (m : ℕ) → suc m ≤ 2 ^ 24 → HasValue (q15 (negsuc m)) true (suc m) 32768
unfolding q15 of_int
negative_exact m h = divided (round binary32 true (suc m) 1) true (suc m) h (round_whole binary32 true (suc m) h)
