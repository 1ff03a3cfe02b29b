-- How values and bits of codes are found fast: no meaning of its own. The laws that join it to Codes, Exact and Value
-- are `remap_by_lem` (proofs/Remapping.antt), those of proofs/Common.antt, and the writer's `word_bits_lem`.
use Rattle.std.specs.Prelude.{ℕ, ◌+◌, ◌-◌, ◌*◌, ◌^◌, ◌<◌, ◌≤◌, ◌≡◌, false, cond, List, [], eqb, ℤ, pos, neg_ℤ, ◌+ℤ◌, ◌*ℤ◌, length, get_or, Float}
use Rattle.std.specs.Float.{binary32}
use Rattle.std.specs.Float.Ieee.{of_bits, nan_bits, add, mul, div, le}
use Rattle.tables.specs.Tables.{mant_bits}
use Rattle.levels.specs.declared.Code.{Code}
use Rattle.levels.specs.declared.Remap.{Remap}
use Rattle.levels.specs.Codes.{tag, small_bits, large_bits}
use Rattle.levels.specs.Exact.{slope, offset, offset_below}
use Rattle.levels.specs.Value.{f0, f1, power, q15}

-- the writer writes a code as one number of its bits: the tag stands before l
abbrev pub word_of : ℕ → ℕ → Code → ℕ
word_of m g (Code.Small s) = s
word_of m g (Code.Large l) = cond (eqb g 1) l (tag (small_bits m g) * 2 ^ large_bits m g + l)

-- gaq_remap in two steps: what a hebap and a gain fix, computed once, and the remap by it
unfoldable pub remap_of : ℕ → ℕ → Remap
remap_of h g = record { a = q15 (slope h g); up = q15 (offset h g); below = q15 (offset_below h g) }

unfoldable pub remap_by : Remap → Float → Float
remap_by r x = add binary32 (add binary32 x (mul binary32 r.a x)) (cond (le f0 x) r.up r.below)

-- ---- what every code of a hebap and a gain has in common, computed once for many codes
pub record Scale : Type 0 where
  pub remap : Remap
  pub small : ℕ
  pub large : ℕ
  pub small_part : Float
  pub large_part : Float
  pub small_unit : ℤ
  pub large_unit : ℤ
  pub up : ℤ
  pub below : ℤ

unfoldable pub scale_of : ℕ → ℕ → Scale
scale_of h g =
    record {
      remap = remap_of h g;
      small = small_bits (mant_bits h) g;
      large = large_bits (mant_bits h) g;
      small_part = div binary32 f1 (power (mant_bits h - 1));
      large_part = div binary32 f1 (power (large_bits (mant_bits h) g - 1));
      small_unit = pos (2 ^ (31 - mant_bits h));
      large_unit = (pos 32768 +ℤ slope h g) *ℤ pos (2 ^ (cond (eqb g 2) 17 16 - mant_bits h));
      up = offset h g *ℤ pos (2 ^ 15);
      below = offset_below h g *ℤ pos (2 ^ 15);
    }

-- the parts of a `CodeScale` are those of the hebap and the gain that it names
abbrev pub IsScale : ℕ → ℕ → Remap → ℕ → ℕ → Float → Float → ℤ → ℤ → ℤ → ℤ → Type 0
IsScale h g r s l x y i j u b =
    record { remap = r; small = s; large = l; small_part = x; large_part = y; small_unit = i; large_unit = j; up = u; below = b } ≡ scale_of h g

-- ---- the same as a table: a row of eleven numbers for each hebap and gain
-- which row a hebap and a gain have
abbrev pub row_of : ℕ → ℕ → ℕ
row_of h g = 3 * (h - 8) + cond (eqb g 1) 0 (cond (eqb g 2) 1 2)

-- a row: fractions by their bit patterns, b for numbers below 0 by its size
unfoldable pub scale_at : List ℕ → Scale
scale_at r =
    record {
      remap = record { a = of_bits binary32 (get_or r 0 0); up = of_bits binary32 (get_or r 1 0); below = of_bits binary32 (get_or r 2 0) };
      small = get_or r 5 0;
      large = get_or r 6 0;
      small_part = of_bits binary32 (get_or r 3 0);
      large_part = of_bits binary32 (get_or r 4 0);
      small_unit = pos (get_or r 7 0);
      large_unit = pos (get_or r 8 0);
      up = pos (get_or r 9 0);
      below = neg_ℤ (pos (get_or r 10 0));
    }

-- every row is the scale of its hebap and gain, and no number is a NaN's bit pattern: `from_bits` asks that
pub record AreScales (t : List (List ℕ)) : Type 0 where
  pub whole : length t ≡ 36
  pub wide : (i : ℕ) → i < 36 → length (get_or t i []) ≡ 11
  pub numbers : (i k : ℕ) → nan_bits binary32 (get_or (get_or t i []) k 0) ≡ false
  pub each : (h g : ℕ) → 8 ≤ h → h ≤ 19 → scale_at (get_or t (row_of h g) []) ≡ scale_of h g
