-- The gain of a bin, and the scalar reader by its cases. Assumes nothing.
use Prim.Native.Nat.{ℕ, ◌*◌, ◌≤◌, ◌<◌}
use mathlib.Core.Path.{◌≡◌, refl, sym, ap, ◌∙◌}
use mathlib.Core.Bool.{Bool}
use mathlib.Core.List.{List}
use native.Mathlib.Omega.{arith}
use lib.IntN.{ℤ, pos, negsuc}
use mir.Syntax.{w8}
use mir.Val.{SFits, to_z, of_z}
use mir.ValLaws.{to_z-of_z}
use lib.ListN.{length, drop, replicate}
use borrow.Author.Tests.{ne_eqb, le-leb, lt-leb}
use Rattle.answers.specs.declared.Refusal.TheVariants.{HebapAbove19, InputEnds, OutOfRange}
use Rattle.bits.specs.Bits.{bits_of}
use Rattle.bits.specs.Format.{got, refused}
use Rattle.gains.specs.Gains.{gain_value}
use Rattle.levels.specs.Value.{f0}
use Rattle.scalars.specs.Scalars.{gain_of, values_read, bin_read, scalars_read}

-- a test for 1 looks at the bits of the i8
is_one : (z : ℤ) → SFits w8 z → of_z w8 z ≡ 1 → z ≡ pos 1
is_one z f e = sym (to_z-of_z w8 z f) ∙ ap (to_z w8) e

pub gain_none : (z : ℤ) (code mode : ℕ) → SFits w8 z → (of_z w8 z ≡ 1 → ⊥) → 1 ≡ gain_of z code mode
gain_none (pos n) code mode f h = rw (ne_eqb n 1 (λ e. h (ap (λ (k : ℕ). of_z w8 (pos k)) e)))
gain_none (negsuc n) code mode f h = refl

pub gain_there : (z : ℤ) (code mode : ℕ) → SFits w8 z → of_z w8 z ≡ 1 → gain_value code mode ≡ gain_of z code mode
gain_there z code mode f e = rw (is_one z f e)

-- ---- the scalar reader by its cases
module _ (s : List ℕ) (at h mode : ℕ) (z : ℤ) (code : ℕ) where
  pub scalars_mode : 3 < mode → scalars_read s at h mode z code ≡ refused OutOfRange
  unfolding scalars_read
  scalars_mode m = rw (lt-leb mode 3 m)

  pub scalars_hebap : mode ≤ 3 → 19 < h → scalars_read s at h mode z code ≡ refused HebapAbove19
  unfolding scalars_read
  scalars_hebap m k = rw (le-leb mode 3 m, lt-leb h 19 k)

  pub scalars_past : mode ≤ 3 → h ≤ 19 → 8 * length s < at → scalars_read s at h mode z code ≡ refused InputEnds
  unfolding scalars_read
  scalars_past m k p = rw (le-leb mode 3 m, le-leb h 19 k, lt-leb at (8 * length s) p)

  pub scalars_bin : mode ≤ 3 → h ≤ 19 → at ≤ 8 * length s → scalars_read s at h mode z code ≡ bin_read h (gain_of z code mode) (drop at (bits_of s))
  unfolding scalars_read
  scalars_bin m k p = rw (le-leb mode 3 m, le-leb h 19 k, le-leb at (8 * length s) p)

pub bin_none : (h g : ℕ) (bs : List Bool) → h < 8 → bin_read h g bs ≡ got (replicate 6 f0) bs
unfolding bin_read
bin_none h g bs k = let l : h ≤ 7 = omega arith in rw (le-leb h 7 l)

pub bin_values_lem : (h g : ℕ) (bs : List Bool) → 8 ≤ h → bin_read h g bs ≡ values_read h g bs
unfolding bin_read
bin_values_lem h g bs k = rw (lt-leb h 7 k)
