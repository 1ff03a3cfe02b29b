-- Equal exact values of accepted codes mean equal codes: a test of the twelve rows, and Distinct. Assumes nothing.
use Prim.Native.Nat.{ℕ, zero, suc, ◌+◌, ◌-◌, ◌*◌, ◌^◌, ◌≤◌}
use mathlib.Core.Path.{◌≡◌, refl, sym, ◌∙◌}
use mathlib.Core.Bool.{Bool, true, false, cond, ◌&&◌}
use mathlib.Core.Logic.{◌⊎◌, inl, inr}
use native.Mathlib.Omega.{arith}
use borrow.Author.Tests.{eqb-true, ne_eqb, le-leb}
use lib.Dec.{T, ltb, leb, eqb, ltb→lt}
use lib.IntN.{ℤ, pos, negsuc, neg_ℤ, nat_abs, ◌+ℤ◌}
use lib.Signed.{non_neg, pos-nat_abs}
use Rattle.tables.specs.Tables.{mant_bits, gaq_remap_at}
use Rattle.tables.specs.Numbers.{mant_bits_table, gaq_remap_table}
use Rattle.tables.proofs.Tests.{and_parts, every_at}
use Rattle.levels.specs.declared.Code.{Code}
use Rattle.levels.specs.Codes.{small_bits, large_bits, Accepted}
use Rattle.levels.specs.Exact.{slope, offset, offset_below, exact_of}
use Rattle.levels.proofs.Distinct.{Apart, Read, value_by, values_distinct}

-- ---- Apart, as a test
not_above : (z : ℤ) → T (non_neg (neg_ℤ z)) → z ≡ neg_ℤ (pos (nat_abs z))
not_above (pos zero) t = refl
not_above (pos (suc n)) t = absurd t
not_above (negsuc n) t = refl

abbrev apart : (c M : ℕ) (z : ℤ) (e : ℕ) (b b' : ℤ) → Bool
apart c M z e b b' =
    ltb 0 c && (ltb 0 (nat_abs z) && (non_neg z && (non_neg b && (non_neg (neg_ℤ b') &&
    (ltb (M * c) (nat_abs b * 2 ^ 15 + c) && ltb (M * c) (nat_abs z * 2 ^ e + nat_abs b' * 2 ^ 15 + c))))))

apart_is : (c M : ℕ) (z : ℤ) (e : ℕ) (b b' : ℤ) → T (apart c M z e b b') → Apart c M z e b b'
apart_is c M z e b b' t =
    let p₁ = and_parts (ltb 0 c) _ t in
    let p₂ = and_parts (ltb 0 (nat_abs z)) _ p₁.1 in
    let p₃ = and_parts (non_neg z) _ p₂.1 in
    let p₄ = and_parts (non_neg b) _ p₃.1 in
    let p₅ = and_parts (non_neg (neg_ℤ b')) _ p₄.1 in
    let p₆ = and_parts (ltb (M * c) (nat_abs b * 2 ^ 15 + c)) _ p₅.1 in
    record {
      step = ltb→lt 0 c p₁.0;
      rises = ltb→lt 0 (nat_abs z) p₂.0;
      slope = sym (pos-nat_abs z p₃.0);
      offset = sym (pos-nat_abs b p₄.0);
      offset' = not_above b' p₅.0;
      above = ltb→lt _ _ p₆.0;
      below = ltb→lt _ _ p₆.1;
    }

-- a test goes by whether the gain is 1 or 2
pub at_gain : (f : ℕ → Bool) (g : ℕ) → (eqb g 1 ≡ false → eqb g 2 ≡ false → f g ≡ f 4) → T (f 1) → T (f 2) → T (f 4) → T (f g)
at_gain f g same one two four = go (eqb g 1) refl (eqb g 2) refl
  where
    go : (t : Bool) → eqb g 1 ≡ t → (t' : Bool) → eqb g 2 ≡ t' → T (f g)
    go true e t' e' = rw (eqb-true g 1 e) one
    go false e true e' = rw (eqb-true g 2 e') two
    go false e false e' = rw (same e e') four

-- ---- the rows
-- how many small codes are not negative: none are small at Gk 1
abbrev smalls : ℕ → ℕ → ℕ
smalls m g = cond (eqb g 1) 0 (2 ^ (small_bits m g - 1))

abbrev apart_at : ℕ → ℕ → Bool
apart_at h g =
    apart (2 ^ (31 - mant_bits h)) (smalls (mant_bits h) g) (pos 32768 +ℤ slope h g) (cond (eqb g 2) 17 16 - mant_bits h) (offset h g) (offset_below h g)

-- at Gk 1, and up to hebap 16 at Gk 2 and 4
abbrev row : ℕ → Bool
row h = apart_at h 1 && cond (leb h 16) (apart_at h 2 && apart_at h 4) true

row_at : (h : ℕ) → 8 ≤ h → h ≤ 19 → T (row h)
unfolding mant_bits mant_bits_table gaq_remap_at gaq_remap_table
row_at h l u = every_at row 12 8 h tt l (omega arith)

apart_at_lem : (h g : ℕ) → 8 ≤ h → h ≤ 19 → (g ≡ 1) ⊎ (h ≤ 16) → T (apart_at h g)
apart_at_lem h g l u a = go a
  where
    tests : T (apart_at h 1) × T (cond (leb h 16) (apart_at h 2 && apart_at h 4) true)
    tests = and_parts (apart_at h 1) _ (row_at h l u)

    go : (g ≡ 1) ⊎ (h ≤ 16) → T (apart_at h g)
    go (inl q) = rw q tests.0
    go (inr k) =
        let more = and_parts (apart_at h 2) (apart_at h 4) (rw (le-leb h 16 k) at tests.1) in
        at_gain (apart_at h) g (λ e e'. rw (e, e')) tests.0 more.0 more.1

-- ---- the codes
module _ (h g : ℕ) where
  abbrev value_at : Code → ℤ
  value_at =
      value_by (small_bits (mant_bits h) g) (large_bits (mant_bits h) g) (2 ^ (31 - mant_bits h)) (pos 32768 +ℤ slope h g)
      (cond (eqb g 2) 17 16 - mant_bits h) (offset h g) (offset_below h g)

  value_is : (p : Code) → exact_of h g p ≡ value_at p
  unfolding exact_of
  value_is (Code.Small s) = refl
  value_is (Code.Large l) = refl

  read_is : (p : Code) → Accepted h g p → Read (small_bits (mant_bits h) g) (large_bits (mant_bits h) g) (smalls (mant_bits h) g) p
  read_is (Code.Small s) k = (rw (ne_eqb g 1 k.0), k.1, k.2)
  read_is (Code.Large l) k = k

-- Equal exact values of codes that are read mean equal codes.
pub exact_distinct : (h g : ℕ) → 8 ≤ h → h ≤ 19 → (g ≡ 1) ⊎ (h ≤ 16) → (p q : Code) → Accepted h g p → Accepted h g q → exact_of h g p ≡ exact_of h g q → p ≡ q
exact_distinct h g l u a p q k k' e =
    values_distinct (small_bits (mant_bits h) g) (large_bits (mant_bits h) g) (2 ^ (31 - mant_bits h)) (smalls (mant_bits h) g) (pos 32768 +ℤ slope h g)
    (cond (eqb g 2) 17 16 - mant_bits h) (offset h g) (offset_below h g)
    (apart_is _ _ _ _ _ _ (apart_at_lem h g l u a)) p q (read_is h g p k) (read_is h g q k') (sym (value_is h g p) ∙ e ∙ value_is h g q)
