-- Codes with equal exact values are equal: for any widths, steps and offsets with a few facts. Assumes nothing.
use Prim.Native.Nat.{ℕ, zero, suc, ◌+◌, ◌-◌, ◌*◌, ◌/◌, ◌^◌, ◌≤◌, ◌<◌}
use mathlib.Core.Path.{◌≡◌, refl, sym, ap, ◌∙◌}
use mathlib.Core.Bool.{Bool, true, false, cond}
use mathlib.Core.Logic.{inl, inr}
use native.Mathlib.Nat.{le_of_eq, mul_assoc, mul-div_cancel, mul-le-mul_right, mul-pos, zero-mul, suc-mul}
use native.Mathlib.Omega.{arith}
use lib.IntN.{ℤ, pos, negsuc, neg_ℤ, nat_abs, neg_ℤ-neg_ℤ, neg_ℤ-+ℤ, ◌+ℤ◌, ◌*ℤ◌}
use lib.Pow.{pow_pos}
use Rattle.tables.proofs.Tests.{lt_or_le}
use Rattle.levels.specs.declared.Code.{Code}
use Rattle.levels.specs.Codes.{signed, tag}
use Rattle.levels.specs.Exact.{is_negative}
use Rattle.levels.proofs.Signed.{halves, signed_low, signed_high}

mul_same : (c t t' : ℕ) → 0 < c → t * c ≡ t' * c → t ≡ t'
mul_same c t t' h e = sym (mul-div_cancel t h) ∙ ap (λ (n : ℕ). n / c) e ∙ mul-div_cancel t' h

-- a number of a sign and a size
abbrev signed_by : Bool → ℕ → ℤ
signed_by false x = pos x
signed_by true x = neg_ℤ (pos x)

abbrev Positive : Bool → ℕ → Type 0
Positive false x = Unit {0}
Positive true x = 0 < x

pub neg_times : (x y : ℕ) → neg_ℤ (pos x) *ℤ pos y ≡ neg_ℤ (pos (x * y))
neg_times zero y = rw (zero-mul y)
neg_times (suc x) y = refl

neg_plus : (x y : ℕ) → neg_ℤ (pos x) +ℤ neg_ℤ (pos y) ≡ neg_ℤ (pos (x + y))
neg_plus x y = sym (neg_ℤ-+ℤ (pos x) (pos y))

signed_by_same : (s s' : Bool) (x x' : ℕ) → Positive s x → Positive s' x' → signed_by s x ≡ signed_by s' x' → (s ≡ s') × (x ≡ x')
signed_by_same false false x x' h h' e = (refl, cc)
signed_by_same true true x x' h h' e =
    let p : pos x ≡ pos x' = sym (neg_ℤ-neg_ℤ (pos x)) ∙ ap neg_ℤ e ∙ neg_ℤ-neg_ℤ (pos x') in
    (refl, cc)
signed_by_same false true x zero h h' e = absurd (omega arith)
signed_by_same false true x (suc x') h h' e = let z : ◌≡◌ {A = ℕ} 0 1 = cc in absurd (omega arith)
signed_by_same true false zero x' h h' e = absurd (omega arith)
signed_by_same true false (suc x) x' h h' e = let z : ◌≡◌ {A = ℕ} 0 1 = cc in absurd (omega arith)

two_halves : (w : ℕ) → 2 ^ w ≤ 2 ^ (w - 1) * 2
two_halves zero = omega arith
two_halves (suc w) = le_of_eq (halves (suc w) (omega arith))

large_up : (n : ℕ) (z b : ℤ) (a q i j : ℕ) → z ≡ pos a → b ≡ pos q → pos n *ℤ z *ℤ pos i +ℤ b *ℤ pos j ≡ pos (n * (a * i) + q * j)
large_up n z b a q i j h k = rw (h, k, mul_assoc)

large_down : (n : ℕ) (z b : ℤ) (a q i j : ℕ) → z ≡ pos a → b ≡ neg_ℤ (pos q)
    → negsuc n *ℤ z *ℤ pos i +ℤ b *ℤ pos j ≡ neg_ℤ (pos (suc n * (a * i) + q * j))
large_down n z b a q i j h k = rw (h, k) (rw (neg_times (suc n * a) i, neg_times q j, neg_plus, mul_assoc))

below_step : (t m c d : ℕ) → t < m → m * c < d + c → t * c < d
below_step t m c d h k = let f : suc t * c ≤ m * c = mul-le-mul_right c h in let g : suc t * c ≡ t * c + c = suc-mul t c in omega arith

-- What is asked of the steps and offsets: s takes w bits and has the step c, M of its codes are not negative (none
-- where no code is small); l has the slope z * 2 ^ e and the offsets b and b'. The greatest small value lies below
-- that of l = 0, the least above that of l = -1.
pub record Apart (c M : ℕ) (z : ℤ) (e : ℕ) (b b' : ℤ) : Type 0 where
  pub step : 0 < c
  pub rises : 0 < nat_abs z
  pub slope : z ≡ pos (nat_abs z)
  pub offset : b ≡ pos (nat_abs b)
  pub offset' : b' ≡ neg_ℤ (pos (nat_abs b'))
  pub above : M * c < nat_abs b * 2 ^ 15 + c
  pub below : M * c < nat_abs z * 2 ^ e + nat_abs b' * 2 ^ 15 + c

abbrev pub value_by : (w w' c : ℕ) (z : ℤ) (e : ℕ) (b b' : ℤ) → Code → ℤ
value_by w w' c z e b b' (Code.Small s) = signed w s *ℤ pos c
value_by w w' c z e b b' (Code.Large l) = signed w' l *ℤ z *ℤ pos (2 ^ e) +ℤ cond (is_negative (signed w' l)) b' b *ℤ pos (2 ^ 15)

-- the codes that are read
abbrev pub Read : (w w' M : ℕ) → Code → Type 0
Read w w' M (Code.Small s) = (M ≡ 2 ^ (w - 1)) × (s < 2 ^ w) × (s ≡ tag w → ⊥)
Read w w' M (Code.Large l) = l < 2 ^ w'

module _ (w w' c M : ℕ) (z : ℤ) (e : ℕ) (b b' : ℤ) (k : Apart c M z e b b') where
  abbrev x : ℕ
  x = nat_abs z * 2 ^ e

  abbrev offset_of : Bool → ℕ
  offset_of false = nat_abs b * 2 ^ 15
  offset_of true = nat_abs b' * 2 ^ 15

  -- the least size of a large code
  abbrev least : Bool → ℕ
  least false = nat_abs b * 2 ^ 15
  least true = nat_abs z * 2 ^ e + nat_abs b' * 2 ^ 15

  -- a code by its kind and its size without sign: the size of its value, the bounds, and the code
  abbrev size : Bool → Code → ℕ
  size neg (Code.Small t) = t * c
  size neg (Code.Large t) = t * x + offset_of neg

  abbrev InPlace : Bool → Code → Type 0
  InPlace neg (Code.Small t) = Positive neg t × (t * c < least neg)
  InPlace neg (Code.Large t) = Positive neg t × (least neg ≤ t * x + offset_of neg)

  abbrev code_of : Bool → Code → Code
  code_of false p = p
  code_of true (Code.Small t) = Code.Small (2 ^ w - t)
  code_of true (Code.Large t) = Code.Large (2 ^ w' - t)

  record BySize (p : Code) : Type 0 where
    neg : Bool
    by : Code
    is : value_by w w' c z e b b' p ≡ signed_by neg (size neg by)
    within : InPlace neg by
    code : p ≡ code_of neg by

  x_pos : 0 < x
  x_pos = mul-pos k.rises (pow_pos e)

  size_same : (neg : Bool) (p q : Code) → InPlace neg p → InPlace neg q → size neg p ≡ size neg q → p ≡ q
  size_same neg (Code.Small t) (Code.Small t') h h' q = ap Code.Small (mul_same c t t' k.step q)
  size_same neg (Code.Small t) (Code.Large t') h h' q = absurd (omega arith)
  size_same neg (Code.Large t) (Code.Small t') h h' q = absurd (omega arith)
  size_same neg (Code.Large t) (Code.Large t') h h' q = let f : t * x ≡ t' * x = omega arith in ap Code.Large (mul_same x t t' x_pos f)

  size_positive : (neg : Bool) (p : Code) → InPlace neg p → Positive neg (size neg p)
  size_positive false p h = tt
  size_positive true (Code.Small t) h = mul-pos h.0 k.step
  size_positive true (Code.Large t) h = let f = mul-pos h.0 x_pos in omega arith

  small_by_size : (s : ℕ) → Read w w' M (Code.Small s) → BySize (Code.Small s)
  small_by_size s h =
      let d = two_halves w in
      elim (lt_or_le s (2 ^ (w - 1))) [
        | inl u ↦ record {
          neg = false;
          by = Code.Small s;
          is = rw (signed_low w s u);
          within = (tt, below_step s M c (nat_abs b * 2 ^ 15) (omega arith) k.above);
          code = refl;
        }
        | inr u ↦
            let ne = h.2 in
            let f : (s ≡ 2 ^ (w - 1) → ⊥) → suc (2 ^ w - suc s) < M = λ ne. omega arith in
            record {
              neg = true;
              by = Code.Small (suc (2 ^ w - suc s));
              is = rw (signed_high w s u);
              within = (omega arith, below_step (suc (2 ^ w - suc s)) M c (nat_abs z * 2 ^ e + nat_abs b' * 2 ^ 15) (f ne) k.below);
              code = ap Code.Small (omega arith);
            }
      ]

  large_by_size : (l : ℕ) → Read w w' M (Code.Large l) → BySize (Code.Large l)
  large_by_size l h =
      elim (lt_or_le l (2 ^ (w' - 1))) [
        | inl u ↦ record {
          neg = false;
          by = Code.Large l;
          is = rw (signed_low w' l u) (large_up l z b _ _ (2 ^ e) (2 ^ 15) k.slope k.offset);
          within = (tt, omega arith);
          code = refl;
        }
        | inr u ↦
            let n = 2 ^ w' - suc l in
            let f : 1 * x ≤ suc n * x = mul-le-mul_right x (omega arith) in
            record {
              neg = true;
              by = Code.Large (suc n);
              is = rw (signed_high w' l u) (large_down n z b' _ _ (2 ^ e) (2 ^ 15) k.slope k.offset');
              within = (omega arith, omega arith);
              code = ap Code.Large (omega arith);
            }
      ]

  by_size : (p : Code) → Read w w' M p → BySize p
  by_size (Code.Small s) h = small_by_size s h
  by_size (Code.Large l) h = large_by_size l h

  pub values_distinct : (p q : Code) → Read w w' M p → Read w w' M q → value_by w w' c z e b b' p ≡ value_by w w' c z e b b' q → p ≡ q
  values_distinct p q h h' v = go (by_size p h) (by_size q h')
    where
      go : BySize p → BySize q → p ≡ q
      go P Q =
          let s = signed_by_same P.neg Q.neg _ _ (size_positive P.neg P.by P.within) (size_positive Q.neg Q.by Q.within) (sym P.is ∙ v ∙ Q.is) in
          let t : P.by ≡ Q.by = size_same P.neg P.by Q.by P.within (rw s.0 Q.within) (s.1 ∙ rw s.0) in
          P.code ∙ rw (s.0, t) (sym Q.code)
