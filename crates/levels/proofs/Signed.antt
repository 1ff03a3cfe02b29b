-- Signed numbers: one that was passed on is read back, and the number that w bits show. Assumes nothing.
use Prim.Native.Nat.{ℕ, zero, suc, ◌-◌, ◌*◌, ◌^◌, ◌≤◌, ◌<◌}
use mathlib.Core.Path.{◌≡◌, ap, ◌∙◌}
use mathlib.Core.Bool.{Bool, true, false, cond}
use mathlib.Core.Logic.{inl, inr}
use native.Mathlib.Nat.{lt_of_lt_of_le, not-suc-le-zero, pow-suc}
use native.Mathlib.Omega.{arith}
use borrow.Author.Tests.{lt-ltb, le-ltb}
use lib.Dec.{T, eqb, lt→ltb, le→leb}
use lib.Ieee.{binary32, in_float}
use lib.IntN.{ℤ, pos, negsuc, ◌-ℤ◌}
use lib.Pow.{pow_pos, pow_mono}
use lib.Signed.{mag}
use mir.Syntax.{Width, w32}
use mir.Val.{to_z, of_z, hbits}
use mir.ValLaws.{to_z-of_z}
use Rattle.tables.specs.Tables.{mant_bits}
use Rattle.tables.proofs.Tests.{lt_or_le}
use Rattle.levels.specs.declared.Code.{Code}
use Rattle.levels.specs.Codes.{signed, small_bits, large_bits, Accepted}

-- what holds of both holds of either
pub by_test : {A : Type 0} (P : A → Type 0) (t : Bool) (a b : A) → P a → P b → P (cond t a b)
by_test P true a b p q = p
by_test P false a b p q = q

pub back : (w : Width) (z : ℤ) {y : ℤ} → mag z < 2 ^ hbits w → z ≡ y → to_z w (of_z w z) ≡ y
back w z h e = to_z-of_z w z (record { sfits = h }) ∙ e

-- such a number is the same as an f32
pub in_float_lem : (z : ℤ) → mag z < 2 ^ 24 → T (in_float binary32 z)
unfolding in_float
in_float_lem (pos n) h = le→leb n (2 ^ 24) (omega arith)
in_float_lem (negsuc n) h = lt→ltb n (2 ^ 24) h

-- ---- two's complement

pub pow2_cap : (w : ℕ) → w ≤ 16 → 2 ^ w ≤ 65536
pow2_cap w h = pow_mono {i = w} {j = 16} h

pub halves : (w : ℕ) → 1 ≤ w → 2 ^ w ≡ 2 ^ (w - 1) * 2
halves zero h = absurd (not-suc-le-zero h)
halves (suc w) h = let e : w ≡ suc w - 1 = omega arith in pow-suc 2 w ∙ ap (λ (n : ℕ). 2 ^ n * 2) e

pub signed_low : (w u : ℕ) → u < 2 ^ (w - 1) → signed w u ≡ pos u
signed_low w u h = rw (lt-ltb u (2 ^ (w - 1)) h)

pub signed_high : (w u : ℕ) → 2 ^ (w - 1) ≤ u → signed w u ≡ negsuc (2 ^ w - suc u)
signed_high w u h = rw (le-ltb u (2 ^ (w - 1)) h)

pub signed_less : (w u : ℕ) → 1 ≤ w → u < 2 ^ w → mag (signed w u) < 2 ^ (w - 1)
signed_less w u h l =
    elim (lt_or_le u (2 ^ (w - 1))) [
      | inl a ↦ rw (signed_low w u a) a
      | inr b ↦ rw (signed_high w u b) (let e = halves w h in let p = pow_pos (w - 1) in omega arith)
    ]

pub signed_small : (w u : ℕ) → (1 ≤ w) × (w ≤ 16) × (u < 2 ^ w) → mag (signed w u) < 65536
signed_small w u h = lt_of_lt_of_le (signed_less w u h.0 h.2) (pow2_cap (w - 1) (omega arith))

pub passed_small : (w u : ℕ) (k : ℤ) → (1 ≤ w) × (w ≤ 16) × (u < 2 ^ w) → mag k < 2 ^ 31 → k ≡ signed w u → mag (to_z w32 (of_z w32 k)) < 2 ^ 24
passed_small w u k h f e = let b = signed_small w u h in rw (back w32 k f e) (omega arith)

pub minus : (u p : ℕ) → u < p → pos u -ℤ pos p ≡ negsuc (p - suc u)
minus u zero h = absurd (not-suc-le-zero h)
minus u (suc p) h = rw (lt-ltb u (suc p) h)

-- ---- the bits of a code

pub small_width : (m g : ℕ) → 3 ≤ m → m ≤ 16 → (1 ≤ small_bits m g) × (small_bits m g ≤ 16)
small_width m g l u = by_test (λ (w : ℕ). (1 ≤ w) × (w ≤ 16)) (eqb g 2) (m - 1) (m - 2) (omega arith) (omega arith)

pub large_width : (m g : ℕ) → 3 ≤ m → m ≤ 16 → (1 ≤ large_bits m g) × (large_bits m g ≤ 16)
large_width m g l u = by_test (λ (w : ℕ). (1 ≤ w) × (w ≤ 16)) (eqb g 2) (m - 1) m (omega arith) (omega arith)

-- what is accepted of a small code holds of the one that a match has taken out
pub small_fits : (h g s : ℕ) (code : Code) → Accepted h g code → code ≡ Code.Small s → s < 2 ^ small_bits (mant_bits h) g
small_fits h g s code a e = let b : Accepted h g (Code.Small s) = rw e at a in b.1
