-- Signed numbers: passed on, one less and one more, negated, held to a range, as bits. Assumes nothing.
use Rattle.std.proofs.Common.{◌≡◌, ℕ, zero, suc, ◌-◌, ◌^◌, ◌<◌, ◌≤◌, Bool, true, false, cond, ◌&&◌, leb, ℤ, pos, negsuc, ◌-ℤ◌, neg_ℤ, nat_abs, sym, refl, ap, ◌∙◌, true≢false, mod-lt, mod-eq_of_lt, arith, pow_pos, pow_mono, w32, w64, SFits, to_z, of_z, ltb-false, ltb-true, leb-true}
use lib.IntN.{pred_ℤ, -ℤ_one, +ℤ_idl}
use lib.Signed.{mag, lt_z, ◌≤ℤ◌}
use mir.ValLaws.{to_z-of_z, to_z_pos}
use Rattle.std.specs.Int.{int_max, int_min}
use Rattle.std.proofs.lemmas.Int.{ints}
use Rattle.levels.specs.Codes.{signed}
use Rattle.levels.proofs.Signed.{back, pow2_cap, halves, signed_low, signed_high}
use Rattle.levels.proofs.Sizes.{mag_abs, abs_neg}
use Rattle.bits.proofs.Tests.{both}
use Rattle.quantiser.specs.Quantise.{clamp_z, to_bits, is_small, allowed}

-- ---- passed on, and read back
abbrev pub held : ℤ → ℤ
held z = to_z w64 (of_z w64 z)

pub held_is : (z : ℤ) {y : ℤ} → mag z < 2 ^ 63 → z ≡ y → held z ≡ y
held_is z h e = back w64 z h e

pub held_under : (z : ℤ) {y : ℤ} (b : ℕ) → mag z < 2 ^ 63 → z ≡ y → mag y < b → mag (held z) < b
held_under z b h e l = rw (held_is z h e) l

-- as an i32
module _ (z : ℤ) (small : mag (held z) < 2 ^ 24) where
  pub narrow_fits : SFits w32 (held z)
  narrow_fits = record { sfits = omega arith }

  pub narrowed : to_z w32 (of_z w32 (held z)) ≡ held z
  narrowed = to_z-of_z w32 (held z) narrow_fits

-- ---- one less, one more
less_mag : (z : ℤ) → mag (pred_ℤ z) ≤ suc (mag z)
less_mag (pos zero) = omega arith
less_mag (pos (suc n)) = omega arith
less_mag (negsuc n) = omega arith

module _ (z : ℤ) (h : mag z < 2 ^ 40) where
  pub less_fits : SFits w64 (z -ℤ pos 1)
  less_fits = record { sfits = rw (-ℤ_one z) (let l = less_mag z in omega arith) }

-- ---- an unsigned number that is cast, and its negation
pub cast_is : (n : ℕ) {m : ℕ} → n < 2 ^ 63 → n ≡ m → to_z w64 n ≡ pos m
cast_is n h e = to_z_pos w64 n h ∙ ap pos e

pub neg_under : (n b : ℕ) → n ≤ b → 0 < b → mag (neg_ℤ (pos n)) < b
neg_under zero b h k = k
neg_under (suc n) b h k = h

abbrev pub minus : ℕ → ℤ
minus n = pos 0 -ℤ to_z w64 n

minus_is : (n : ℕ) → n < 2 ^ 63 → minus n ≡ neg_ℤ (pos n)
minus_is n h = ap (λ (z : ℤ). pos 0 -ℤ z) (to_z_pos w64 n h) ∙ +ℤ_idl (neg_ℤ (pos n))

pub minus_fits : (n : ℕ) → n < 2 ^ 63 → SFits w64 (minus n)
minus_fits n h = rw (minus_is n h) (record { sfits = neg_under n (2 ^ 63) (omega arith) (omega arith) })

pub minus_back : (n : ℕ) {m : ℕ} → n < 2 ^ 63 → n ≡ m → held (minus n) ≡ neg_ℤ (pos m)
minus_back n h e = to_z-of_z w64 (minus n) (minus_fits n h) ∙ minus_is n h ∙ ap (λ (k : ℕ). neg_ℤ (pos k)) e

-- ---- powers of two
pub top_under : (n : ℕ) → mag (pos (2 ^ n - 1)) < 2 ^ n
top_under n = let p = pow_pos n in omega arith

pub opposite_under : (n : ℕ) → mag (neg_ℤ (pos (2 ^ n - 1))) < 2 ^ n
opposite_under n = let p = pow_pos n in neg_under (2 ^ n - 1) (2 ^ n) (omega arith) p

pub bottom_under : (n : ℕ) → mag (neg_ℤ (pos (2 ^ n))) < 2 ^ n
bottom_under n = neg_under (2 ^ n) (2 ^ n) (omega arith) (pow_pos n)

pub held_24 : (n : ℕ) (z : ℤ) {y : ℤ} → n ≤ 16 → mag z < 2 ^ 63 → z ≡ y → mag y < 2 ^ n → mag (held z) < 2 ^ 24
held_24 n z h f e l = let c = pow2_cap n h in held_under z (2 ^ 24) f e (omega arith)

-- ---- 2 ^ n, and the ends of the ranges of levels
module _ (n : ℕ) (full : ℤ) (few : n ≤ 16) (e : full ≡ pos (2 ^ n)) where
  pub top_is : held (held full -ℤ pos 1) ≡ pos (2 ^ n - 1)
  top_is = let c = pow2_cap n few in let p = pow_pos n in rw e (omega (arith, ints))

  pub bottom_is : held (pos 0 -ℤ held full) ≡ neg_ℤ (pos (2 ^ n))
  bottom_is = let c = pow2_cap n few in let p = pow_pos n in rw e (omega (arith, ints))

  pub opposite_is : held (pos 0 -ℤ held (held full -ℤ pos 1)) ≡ neg_ℤ (pos (2 ^ n - 1))
  opposite_is = let c = pow2_cap n few in let p = pow_pos n in rw e (omega (arith, ints))

-- ---- held to a range
pub clamp_is : (lo hi z : ℤ) → lo ≤ℤ hi → int_max lo (int_min z hi) ≡ clamp_z lo hi z
clamp_is lo hi z h = grind (arith, ints)

module _ (lo hi : ℤ) where
  -- what holds of both ends and of what lies between
  clamp_keeps : (P : ℤ → Type 0) → P lo → P hi → ((z : ℤ) → lt_z z lo ≡ false → lt_z hi z ≡ false → P z) → (z : ℤ) → P (clamp_z lo hi z)
  clamp_keeps P p q r z = go (lt_z z lo) refl (lt_z hi z) refl
    where
      go : (t : Bool) → lt_z z lo ≡ t → (u : Bool) → lt_z hi z ≡ u → P (cond t lo (cond u hi z))
      go true e u f = p
      go false e true f = q
      go false e false f = r z e f

between : (x y w : ℤ) {b : ℕ} → mag x < b → mag y < b → lt_z w x ≡ false → lt_z y w ≡ false → mag w < b
between x (pos y) (pos w) p q u v = let l = ltb-false y w v in omega arith
between x (negsuc y) (pos w) p q u v = absurd (true≢false v)
between (pos x) y (negsuc w) p q u v = absurd (true≢false u)
between (negsuc x) y (negsuc w) p q u v = let l = ltb-false x w u in omega arith

pub clamp_small : (lo hi : ℤ) (b : ℕ) → mag lo < b → mag hi < b → (z : ℤ) → mag (clamp_z lo hi z) < b
clamp_small lo hi b p q = clamp_keeps lo hi (λ z. mag z < b) p q (λ z. between lo hi z p q)

between_abs : (p : ℕ) (w : ℤ) → lt_z w (neg_ℤ (pos p)) ≡ false → lt_z (pos p) w ≡ false → nat_abs w ≤ p
between_abs p (pos w) u v = ltb-false p w v
between_abs zero (negsuc w) u v = absurd (true≢false u)
between_abs (suc p) (negsuc w) u v = let l = ltb-false p w u in omega arith

-- from -p to p
pub clamp_abs : (p : ℕ) (z : ℤ) → nat_abs (clamp_z (neg_ℤ (pos p)) (pos p) z) ≤ p
clamp_abs p = clamp_keeps (neg_ℤ (pos p)) (pos p) (λ z. nat_abs z ≤ p) (rw (abs_neg p) (omega arith)) (omega arith) (between_abs p)

-- ---- which hebap and Gk
pub allowed_range : (h g : ℕ) → allowed h g ≡ true → (8 ≤ h) × (h ≤ 19)
allowed_range h g e =
    let a = both (leb 8 h) (leb h 19) (both (leb 8 h && leb h 19) _ e).0 in
    (leb-true 8 h a.0, leb-true h 19 a.1)

-- ---- small codes
inside : (p : ℕ) (s : ℤ) → lt_z (neg_ℤ (pos p)) s ≡ true → lt_z s (pos p) ≡ true → nat_abs s < p
inside p (pos k) l u = ltb-true k p u
inside zero (negsuc k) l u = absurd (true≢false (sym l))
inside (suc p) (negsuc k) l u = let z = ltb-true k p l in omega arith

pub small_abs : (b : ℕ) (s : ℤ) → is_small b s ≡ true → nat_abs s < 2 ^ (b - 1)
small_abs b s h = let p = both (lt_z (neg_ℤ (pos (2 ^ (b - 1)))) s) (lt_z s (pos (2 ^ (b - 1)))) h in inside (2 ^ (b - 1)) s p.0 p.1

pub small_mag : (b : ℕ) (s : ℤ) → is_small b s ≡ true → mag s < 2 ^ b
small_mag b s h = let a = small_abs b s h in let m = mag_abs s in let p = pow_mono {i = b - 1} {j = b} (omega arith) in omega arith

-- ---- two's complement of w bits
bits_pos : (w n : ℕ) → n < 2 ^ w → to_bits w (pos n) ≡ n
bits_pos w n h = mod-eq_of_lt h

bits_neg : (w n : ℕ) → n < 2 ^ w → to_bits w (negsuc n) ≡ 2 ^ w - suc n
bits_neg w n h = ap (λ (k : ℕ). 2 ^ w - suc k) (mod-eq_of_lt h)

pub bits_under : (w : ℕ) (z : ℤ) → to_bits w z < 2 ^ w
bits_under w (pos n) = mod-lt n (pow_pos w)
bits_under w (negsuc n) = let p = pow_pos w in omega arith

-- the number that the bits show
pub signed_bits : (w : ℕ) (z : ℤ) → 1 ≤ w → mag z < 2 ^ (w - 1) → signed w (to_bits w z) ≡ z
signed_bits w (pos n) h l = let e = halves w h in rw (bits_pos w n (omega arith)) (signed_low w n l)
signed_bits w (negsuc n) h l =
    let e = halves w h in
    let k : 2 ^ w - suc (2 ^ w - suc n) ≡ n = omega arith in
    rw (bits_neg w n (omega arith)) (signed_high w (2 ^ w - suc n) (omega arith) ∙ ap negsuc k)

-- the bits of a number nearer to 0 are not those of the lowest
pub bits_not_lowest : (w : ℕ) (z : ℤ) → 1 ≤ w → nat_abs z < 2 ^ (w - 1) → to_bits w z ≡ 2 ^ (w - 1) → ⊥
bits_not_lowest w (pos n) h l e = let t = halves w h in let b = bits_pos w n (omega arith) in omega arith
bits_not_lowest w (negsuc n) h l e = let t = halves w h in let b = bits_neg w n (omega arith) in omega arith
