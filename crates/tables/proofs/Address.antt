-- The steps of `hebap_from_address` on signed numbers. Assumes nothing.
use Prim.Native.Nat.{ℕ, zero, suc, ◌+◌, ◌-◌, ◌/◌, ◌≤◌, ◌<◌}
use mathlib.Core.Path.{◌≡◌, refl}
use mathlib.Core.Bool.{Bool, true, false, cond, true≢false}
use native.Mathlib.Omega.{arith}
use borrow.Author.Tests.{ltb-true, ltb-false}
use lib.Dec.{T, ltb}
use lib.IntN.{ℤ, pos, negsuc, neg_ℤ, nat_abs, sub_ℕ, ◌+ℤ◌, ◌-ℤ◌}
use lib.ListN.{get_or}
use lib.Signed.{mag, lt_z, non_neg}
use mir.Syntax.{Width, w16, w32, w64}
use mir.Val.{SFits, Fits, to_z, of_z}
use mir.ValLaws.{to_z-of_z}
use Rattle.tables.specs.Numbers.{hebaptab}
use Rattle.tables.specs.Tables.{address, hebap_from_address}
use Rattle.std.specs.Prelude.{Ok, Err}
use Rattle.answers.specs.declared.Refusal.TheVariants.{OutOfRange}

-- ---- how large a sum and a difference are

sub_mag : (a b : ℕ) → mag (sub_ℕ a (suc b)) ≤ a + b
sub_mag a b = go (ltb a (suc b))
  where
    go : (t : Bool) → mag (cond t (negsuc (suc b - suc a)) (pos (a - suc b))) ≤ a + b
    go true = omega arith
    go false = omega arith

add_mag : (a b : ℤ) → mag (a +ℤ b) ≤ suc (mag a + mag b)
add_mag (pos a) (pos b) = omega arith
add_mag (pos a) (negsuc b) = omega (arith, sub_mag a b)
add_mag (negsuc a) (pos b) = omega (arith, sub_mag b a)
add_mag (negsuc a) (negsuc b) = omega arith

neg_mag : (b : ℤ) → mag (neg_ℤ b) ≤ suc (mag b)
neg_mag (pos zero) = omega arith
neg_mag (pos (suc b)) = omega arith
neg_mag (negsuc b) = omega arith

mask_mag : (m : ℤ) → lt_z m (negsuc 65535) ≡ false → lt_z (pos 65536) m ≡ false → mag m ≤ 65536
mask_mag (pos n) l h = ltb-false 65536 n h
mask_mag (negsuc n) l h = let u = ltb-false 65535 n l in omega arith

-- ---- the address of a difference

address_below : (z : ℤ) → lt_z z (pos 0) ≡ true → 0 ≡ address z
address_below (pos n) t = absurd (let u = ltb-true n 0 t in omega arith)
address_below (negsuc n) t = refl

address_inside : (z : ℤ) → lt_z z (pos 0) ≡ false → nat_abs z / 32 ≤ 63 → nat_abs z / 32 ≡ address z
address_inside (pos n) t l = omega arith
address_inside (negsuc n) t l = absurd (true≢false t)

address_beyond : (z : ℤ) → lt_z z (pos 0) ≡ false → 63 < nat_abs z / 32 → 63 ≡ address z
address_beyond (pos n) t l = omega arith
address_beyond (negsuc n) t l = absurd (true≢false t)

cast_of : (z : ℤ) → SFits w32 z → lt_z z (pos 0) ≡ false → T (non_neg z) × Fits w64 (nat_abs z)
cast_of (pos n) f t = (tt, record { fits = let u = f.sfits in omega arith })
cast_of (negsuc n) f t = absurd (true≢false t)

-- ---- the code's values: a signed number is read back from its local each time

abbrev held : Width → ℤ → ℤ
held w z = to_z w (of_z w z)

-- psd - mask, before and after it is put into its local
abbrev apart : ℤ → ℤ → ℤ
apart p m = held w32 (held w16 p) -ℤ held w32 m

abbrev read : ℤ → ℤ → ℤ
read p m = held w32 (apart p m)

pub psd_fits : (p : ℤ) → SFits w16 p → SFits w32 (held w16 p)
psd_fits p f = rw (to_z-of_z w16 p f) (record { sfits = let u = f.sfits in omega arith })

pub too_low : (p m : ℤ) → SFits w32 m → lt_z (held w32 m) (negsuc 65535) ≡ true → Err OutOfRange ≡ hebap_from_address p m
unfolding hebap_from_address
too_low p m f t = let u : lt_z m (negsuc 65535) ≡ true = rw (to_z-of_z w32 m f) at t in rw u

pub too_high : (p m : ℤ) → SFits w32 m → lt_z (held w32 m) (negsuc 65535) ≡ false → lt_z (pos 65536) (held w32 m) ≡ true → Err OutOfRange ≡ hebap_from_address p m
unfolding hebap_from_address
too_high p m f l h =
    let low : lt_z m (negsuc 65535) ≡ false = rw (to_z-of_z w32 m f) at l in
    let high : lt_z (pos 65536) m ≡ true = rw (to_z-of_z w32 m f) at h in
    rw (low, high)

-- what is known where the mask is not refused; h is what was found in the table
pub record Known (p m : ℤ) : Type 0 where
  pub fits : SFits w32 (apart p m)
  pub cast : lt_z (read p m) (pos 0) ≡ false → T (non_neg (read p m)) × Fits w64 (nat_abs (read p m))
  pub below : (h : ℕ) → h ≡ get_or hebaptab 0 0 → lt_z (read p m) (pos 0) ≡ true → Ok h ≡ hebap_from_address p m
  pub inside : (h : ℕ) → h ≡ get_or hebaptab (nat_abs (read p m) / 32) 0 → lt_z (read p m) (pos 0) ≡ false → nat_abs (read p m) / 32 ≤ 63 → Ok h ≡ hebap_from_address p m
  pub beyond : (h : ℕ) → h ≡ get_or hebaptab 63 0 → lt_z (read p m) (pos 0) ≡ false → 63 < nat_abs (read p m) / 32 → Ok h ≡ hebap_from_address p m

pub known : (p m : ℤ) → SFits w16 p → SFits w32 m → lt_z (held w32 m) (negsuc 65535) ≡ false → lt_z (pos 65536) (held w32 m) ≡ false → Known p m
unfolding hebap_from_address
known p m fp fm l h =
    let low : lt_z m (negsuc 65535) ≡ false = rw (to_z-of_z w32 m fm) at l in
    let high : lt_z (pos 65536) m ≡ false = rw (to_z-of_z w32 m fm) at h in
    let same : apart p m ≡ p -ℤ m = rw (to_z-of_z w32 (held w16 p) (psd_fits p fp), to_z-of_z w16 p fp, to_z-of_z w32 m fm) in
    let u = fp.sfits in
    let small : SFits w32 (p -ℤ m) = record { sfits = omega (arith, add_mag p (neg_ℤ m), neg_mag m, mask_mag m low high) } in
    let back : read p m ≡ p -ℤ m = rw same (to_z-of_z w32 (p -ℤ m) small) in
    let answer : (h a : ℕ) → h ≡ get_or hebaptab a 0 → a ≡ address (read p m) → Ok h ≡ hebap_from_address p m = λ h a e f. rw (low, high, e, f, back) in
    record {
      fits = rw same small;
      cast = cast_of (read p m) (rw back small);
      below = λ h e t. answer h 0 e (address_below (read p m) t);
      inside = λ h e t i. answer h (nat_abs (read p m) / 32) e (address_inside (read p m) t i);
      beyond = λ h e t i. answer h 63 e (address_beyond (read p m) t i);
    }
