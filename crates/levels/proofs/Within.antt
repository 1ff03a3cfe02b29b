-- How large a result gets when it is rounded: `beyond n x ≡ false` says that x is a number of at most n in size.
-- Assumes nothing.
use Prim.Native.Nat.{ℕ, zero, suc, ◌+◌, ◌-◌, ◌*◌, ◌^◌, ◌≤◌, ◌<◌, zero-le}
use mathlib.Core.Path.{◌≡◌, refl, sym, ap, ◌∙◌, subst}
use mathlib.Core.Bool.{Bool, true, false, cond, not, ◌&&◌, true≢false, beq}
use mathlib.Core.Logic.{inl, inr}
use native.Mathlib.Nat.{le_trans, le_of_eq, lt_of_le_of_lt, eq-zero-or-pos, not-le_of_lt, zero-mul, mul-zero, mul-one, one-mul, mul_comm, mul_assoc, mul_left_comm, mul_right_comm, mul-le-mul_right, mul-le-mul, add-mul, le_of_mul-le-mul_right, mul-pos}
use native.Mathlib.Omega.{arith}
use borrow.Author.Tests.{ltb-true, ltb-false, le-ltb, ne_eqb}
use lib.Dec.{T, leb, ltb, leb→le, lit<}
use lib.Pow.{pow-add, pow_pos, pow_mono}
use lib.Ieee.{Float, nan, inf, fin, binary32, up, down, unlike, units, round, sum, add, sub, mul, div, neg, lt, eq, le}
use lib.Ieee.Exact.{HasValue, units_val, round_exact}
use lib.Ieee.Fits.{up_pos, down_pos, round_is}
use lib.Ieee.Order.{drop, kept, round_mono}
use lib.Ieee.Positive.{positive_of_value, values_of_le}
use lib.Ieee.Scale.{grid, overflow, round_val}
use Rattle.levels.specs.Component.{beyond}

-- ---- rounding
-- a power of two rounds to itself
power_value : (k : ℕ) → k ≤ 127 → HasValue (round binary32 false (2 ^ k) 1) false (2 ^ k) 1
power_value k h =
    let u : k + 149 ≤ 276 = omega arith in
    let top : 2 ^ (k + 149) ≤ 2 ^ 276 = pow_mono u in
    let fine : 1 * 2 ^ (k + 149) < 2 ^ 277 = lt_of_le_of_lt (rw (one-mul (2 ^ (k + 149))) top) (lit< {m = 2 ^ 276} {n = 2 ^ 277} tt) in
    round_exact binary32 false (2 ^ k) 1 1 (k + 149) (lit< tt) (lit< tt) fine (rw (one-mul (2 ^ (k + 149)), mul-one (2 ^ (k + 149))) (sym (pow-add 2 k 149)))

-- no infinity is at most a number
not_under : (y : Float) (b c : ℕ) → HasValue y false b c → T (le (inf false) y) → ⊥
unfolding le lt eq
not_under nan b c v h = v
not_under (inf s) b c v h = v
not_under (fin s m e) b c v h = h

-- x is ± so many parts of 2 ^ -149, and at most 2 ^ k in size
record Rounded (x : Float) (s : Bool) (k : ℕ) : Type 0 where
  parts : ℕ
  value : HasValue x s parts (2 ^ 149)
  most : parts ≤ 2 ^ k * 2 ^ 149

module _ (s : Bool) (a c k : ℕ) (p : 0 < c) (h : k ≤ 127) (f : a ≤ 2 ^ k * c) where
  abbrev got : ℕ
  got = grid binary32 a c

  abbrev top : Float
  top = round binary32 false (2 ^ k) 1

  below : T (le (round binary32 false a c) top)
  below = round_mono binary32 a c (2 ^ k) 1 p (lit< tt) (rw (mul-one a) f)

  no_overflow : got < overflow binary32
  unfolding units
  no_overflow = go (ltb got (overflow binary32)) refl
    where
      go : (t : Bool) → ltb got (overflow binary32) ≡ t → got < overflow binary32
      go true e = ltb-true got (overflow binary32) e
      go false e =
          let i : round binary32 false a c ≡ inf false = round_is binary32 false a c ∙ rw e in
          absurd (not_under top (2 ^ k) 1 (power_value k h) (subst (λ (z : Float). T (le z top)) i below))

  most : got ≤ 2 ^ k * 2 ^ 149
  most =
      elim (eq-zero-or-pos got) [
        | inl z ↦ subst (λ (n : ℕ). n ≤ 2 ^ k * 2 ^ 149) (sym z) zero-le
        | inr q ↦
            let v = round_val binary32 a c no_overflow in
            let l = values_of_le (round binary32 false a c) top got (2 ^ 149) (2 ^ k) 1 (positive_of_value (round binary32 false a c) got (2 ^ 149) v q)
            (positive_of_value top (2 ^ k) 1 (power_value k h) (pow_pos k)) v (power_value k h) below in
            rw (mul-one got) at l
      ]

  rounded : Rounded (round binary32 s a c) s k
  rounded =
      record {
        parts = got;
        value = subst (λ (z : Float). HasValue z s got (2 ^ 149)) (sym (round_is binary32 s a c)) (units_val binary32 s (kept 24 (a * 2 ^ 149) c) (drop 24 (a * 2 ^ 149) c) no_overflow);
        most = most;
      }

-- a number that is not negative and at most n
abbrev pub AtMost : ℕ → Float → Type 0
AtMost n nan = ⊥
AtMost n (inf s) = ⊥
AtMost n (fin true m e) = ⊥
AtMost n (fin false m e) = m * up e ≤ n * down e

fraction : (u d a c n : ℕ) → 0 < c → u * c ≡ a * d → a ≤ n * c → u ≤ n * d
fraction u d a c n p v f = le_of_mul-le-mul_right (le_trans (le_of_eq v) (le_trans (mul-le-mul_right d f) (le_of_eq (mul_right_comm n c d)))) p

-- a number of the size a / c
pub value_within : (x : Float) (s : Bool) (a c n : ℕ) → 0 < c → HasValue x s a c → a ≤ n * c → beyond n x ≡ false
unfolding beyond
value_within nan s a c n p v f = absurd v
value_within (inf t) s a c n p v f = absurd v
value_within (fin t m e) s a c n p v f = le-ltb (n * down e) (m * up e) (fraction (m * up e) (down e) a c n p v.1 f)

value_most : (x : Float) (a c n : ℕ) → 0 < c → HasValue x false a c → a ≤ n * c → AtMost n x
value_most nan a c n p v f = absurd v
value_most (inf t) a c n p v f = absurd v
value_most (fin true m e) a c n p v f = absurd (true≢false v.0)
value_most (fin false m e) a c n p v f = fraction (m * up e) (down e) a c n p v.1 f

round_within : (s : Bool) (a c k : ℕ) → 0 < c → k ≤ 127 → a ≤ 2 ^ k * c → beyond (2 ^ k) (round binary32 s a c) ≡ false
round_within s a c k p h f = let r = rounded s a c k p h f in value_within (round binary32 s a c) s r.parts (2 ^ 149) (2 ^ k) (pow_pos 149) r.value r.most

pub round_most : (a c k : ℕ) → 0 < c → k ≤ 127 → a ≤ 2 ^ k * c → AtMost (2 ^ k) (round binary32 false a c)
round_most a c k p h f = let r = rounded false a c k p h f in value_most (round binary32 false a c) r.parts (2 ^ 149) (2 ^ k) (pow_pos 149) r.value r.most

-- ---- sums and products of numbers of at most n and p in size
pub add_fraction : (u v d c n p k : ℕ) → u ≤ n * d → v ≤ p * c → n + p ≤ 2 ^ k → u * c + v * d ≤ 2 ^ k * (d * c)
add_fraction u v d c n p k f g h =
    let a : u * c ≤ n * (d * c) = le_trans (mul-le-mul_right c f) (le_of_eq (mul_assoc n d c)) in
    let b : v * d ≤ p * (d * c) = le_trans (mul-le-mul_right d g) (le_of_eq (mul_assoc p c d ∙ ap (λ (z : ℕ). p * z) (mul_comm c d))) in
    let s : (n + p) * (d * c) ≤ 2 ^ k * (d * c) = mul-le-mul_right (d * c) h in
    let e : (n + p) * (d * c) ≡ n * (d * c) + p * (d * c) = add-mul n p (d * c) in
    omega arith

pub mul_fraction : (u v d c n p k : ℕ) → u ≤ n * d → v ≤ p * c → n * p ≤ 2 ^ k → u * v ≤ 2 ^ k * (d * c)
mul_fraction u v d c n p k f g h =
    le_trans (mul-le-mul f g) (le_trans (le_of_eq (simp (mul_assoc, mul_comm, mul_left_comm))) (mul-le-mul_right (d * c) h))

sum_within : (s : Bool) (a : ℕ) (t : Bool) (b c k : ℕ) → 0 < c → k ≤ 127 → a + b ≤ 2 ^ k * c → beyond (2 ^ k) (sum binary32 s a t b c) ≡ false
unfolding sum
sum_within s a t b c k p h f = go (beq s t) (ltb a b)
  where
    go : (u w : Bool) → beyond (2 ^ k) (cond u (round binary32 s (a + b) c) (cond w (round binary32 t (b - a) c) (round binary32 (s && ltb b a) (a - b) c))) ≡ false
    go true w = round_within s (a + b) c k p h f
    go false true = round_within t (b - a) c k p h (omega arith)
    go false false = round_within _ (a - b) c k p h (omega arith)

module _ (n p k : ℕ) (small : k ≤ 127) where
  pub sub_within : (x y : Float) → beyond n x ≡ false → beyond p y ≡ false → n + p ≤ 2 ^ k → beyond (2 ^ k) (sub binary32 x y) ≡ false
  unfolding sub add neg beyond
  sub_within nan y f g h = absurd (true≢false f)
  sub_within (inf s) y f g h = absurd (true≢false f)
  sub_within (fin s m e) nan f g h = absurd (true≢false g)
  sub_within (fin s m e) (inf t) f g h = absurd (true≢false g)
  sub_within (fin s m e) (fin t l d) f g h =
      sum_within s (m * up e * down d) (not t) (l * up d * down e) (down e * down d) k (mul-pos (down_pos e) (down_pos d)) small
      (add_fraction (m * up e) (l * up d) (down e) (down d) n p k (ltb-false (n * down e) (m * up e) f) (ltb-false (p * down d) (l * up d) g) h)

  pub mul_within : (x y : Float) → beyond n x ≡ false → beyond p y ≡ false → n * p ≤ 2 ^ k → beyond (2 ^ k) (mul binary32 x y) ≡ false
  unfolding mul beyond
  mul_within nan y f g h = absurd (true≢false f)
  mul_within (inf s) y f g h = absurd (true≢false f)
  mul_within (fin s m e) nan f g h = absurd (true≢false g)
  mul_within (fin s m e) (inf t) f g h = absurd (true≢false g)
  mul_within (fin s m e) (fin t l d) f g h =
      round_within (unlike s t) (m * up e * (l * up d)) (down e * down d) k (mul-pos (down_pos e) (down_pos d)) small
      (mul_fraction (m * up e) (l * up d) (down e) (down d) n p k (ltb-false (n * down e) (m * up e) f) (ltb-false (p * down d) (l * up d) g) h)

-- ---- a quotient, where the divisor is 2 ^ -j at least in size
abbrev pub reaches : ℕ → Float → Bool
reaches j nan = false
reaches j (inf s) = false
reaches j (fin s m e) = leb (down e) (2 ^ j * (m * up e))

div_fraction : (u v d c n j k : ℕ) → u ≤ n * d → c ≤ 2 ^ j * v → n * 2 ^ j ≤ 2 ^ k → u * c ≤ 2 ^ k * (v * d)
div_fraction u v d c n j k f g h =
    le_trans (mul-le-mul f g) (le_trans (le_of_eq (simp (mul_assoc, mul_comm, mul_left_comm))) (mul-le-mul_right (v * d) h))

pub div_within : (n j k : ℕ) (x y : Float) → k ≤ 127 → beyond n x ≡ false → T (reaches j y) → n * 2 ^ j ≤ 2 ^ k → beyond (2 ^ k) (div binary32 x y) ≡ false
unfolding div beyond
div_within n j k nan y u f g h = absurd (true≢false f)
div_within n j k (inf s) y u f g h = absurd (true≢false f)
div_within n j k (fin s m e) nan u f g h = absurd g
div_within n j k (fin s m e) (inf t) u f g h = absurd g
div_within n j k (fin s m e) (fin t zero d) u f g h = absurd (not-le_of_lt (down_pos d) (subst (λ (z : ℕ). down d ≤ z) (ap (λ (z : ℕ). 2 ^ j * z) (zero-mul (up d)) ∙ mul-zero (2 ^ j)) (leb→le (down d) (2 ^ j * (0 * up d)) g)))
div_within n j k (fin s m e) (fin t (suc l) d) u f g h =
    rw (ne_eqb (suc l) 0 (λ z. omega arith))
    (round_within (unlike s t) (m * up e * down d) (suc l * up d * down e) k (mul-pos (mul-pos (let z : 0 < suc l = omega arith in z) (up_pos d)) (down_pos e)) u
    (div_fraction (m * up e) (suc l * up d) (down e) (down d) n j k (ltb-false (n * down e) (m * up e) f) (leb→le (down d) (2 ^ j * (suc l * up d)) g) h))
