-- Bits up to those of the infinities are no NaN's.
use Rattle.std.proofs.Common.{◌≡◌, ℕ, ◌%◌, ◌<◌, ◌≤◌, Bool, not, T, sym, refl, ◌∙◌, subst, le-ltb, lt-ltb}
use lib.Ieee.{binary32, nan_bits, of_bits}
use lib.Ieee.Bits.{nan_bits_above}
use Rattle.records.specs.Records.{float_of}
use Rattle.records.proofs.float_of.Goals as goal

is_number : (n : ℕ) → n % 2147483648 ≤ 2139095040 → T (not (nan_bits binary32 n))
is_number n h = subst (λ (b : Bool). T (not b)) (sym (nan_bits_above binary32 n ∙ le-ltb _ _ h)) tt

is_nan : (n : ℕ) → 2139095040 < n % 2147483648 → of_bits binary32 0x7fc0_0000 ≡ float_of n
unfolding float_of of_bits
is_nan n h = rw (lt-ltb _ _ h) refl

is_not : (n : ℕ) → n % 2147483648 ≤ 2139095040 → of_bits binary32 n ≡ float_of n
unfolding float_of
is_not n h = rw (le-ltb _ _ h) refl

pub returns-then-bits-gt2139095040 : goal.returns-then-bits-gt2139095040
returns-then-bits-gt2139095040 c = is_nan _ c.if-bits-gt2139095040.true

pub float_from_bits-result : goal.float_from_bits-result
float_from_bits-result c = is_number c.args.bits c.if-bits-gt2139095040.false

pub returns : goal.returns
returns c = is_not _ c.if-bits-gt2139095040.false
