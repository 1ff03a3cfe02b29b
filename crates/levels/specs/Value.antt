-- The f32 value of a code, operation by operation as in the Rust, each rounded once (lib.Ieee, binary32).
-- docs/FORMAT.md, Levels; ATSC A/52 Annex E, 3.4.4.2, Table E3.6.
use Rattle.std.specs.Prelude.{ℕ, ◌-◌, ◌^◌, cond, not, eqb, ℤ, pos, Float}
use Rattle.std.specs.Float.{binary32}
use Rattle.std.specs.Float.Ieee.{of_bits, of_int, add, mul, div, le}
use Rattle.tables.specs.Tables.{mant_bits}
use Rattle.levels.specs.declared.Code.{Code}
use Rattle.levels.specs.declared.Level.{Level}
use Rattle.levels.specs.Codes.{signed, small_bits, large_bits}
use Rattle.levels.specs.Exact.{slope, offset_by_sign}

-- 0.0, 1.0 and 32768.0, by their bit patterns
abbrev pub f0 : Float
f0 = of_bits binary32 0

abbrev pub f1 : Float
f1 = of_bits binary32 0x3f80_0000

abbrev pub f32768 : Float
f32768 = of_bits binary32 0x4700_0000

-- `(1 << n) as f32`
abbrev pub power : ℕ → Float
power n = of_int binary32 (pos (2 ^ n))

-- q15: a number of Table E3.6 as a fraction
unfoldable pub q15 : ℤ → Float
q15 v = div binary32 (of_int binary32 v) f32768

-- b of a fraction x: by its sign, and 0 at Gk 1
unfoldable pub offset_at : ℕ → ℕ → Float → ℤ
offset_at h g x = offset_by_sign h g (not (le f0 x))

-- gaq_remap: x + q15(a) * x + q15(b)
unfoldable pub gaq_remap : ℕ → ℕ → Float → Float
gaq_remap h g x = add binary32 (add binary32 x (mul binary32 (q15 (slope h g)) x)) (q15 (offset_at h g x))

-- ---- a code as a fraction
-- the reader's: k as f32 * (1.0 / 2 ^ n)
unfoldable pub scaled : ℕ → ℤ → Float
scaled n k = mul binary32 (of_int binary32 k) (div binary32 f1 (power n))

-- the quantiser's, and the reader's for l at Gk 2: k as f32 / 2 ^ n
unfoldable pub divided : ℕ → ℤ → Float
divided n k = div binary32 (of_int binary32 k) (power n)

-- ---- the value that the reader gives to a code
-- s over 2 ^ (m-1), or gaq_remap of l over 2 ^ (m-2) at Gk 2, over 2 ^ (m-1) else
unfoldable pub small_value : ℕ → ℤ → Float
small_value h s = scaled (mant_bits h - 1) s

unfoldable pub large_value : ℕ → ℕ → ℤ → Float
large_value h g l = gaq_remap h g (cond (eqb g 2) (divided (mant_bits h - 2) l) (scaled (mant_bits h - 1) l))

-- the kind of a code and its value
unfoldable pub level_of : ℕ → ℕ → Code → Level
level_of h g (Code.Small s) = Level.Small (small_value h (signed (small_bits (mant_bits h) g) s))
level_of h g (Code.Large l) = Level.Large (large_value h g (signed (large_bits (mant_bits h) g) l))

-- the f32 that a level carries
abbrev pub value_in : Level → Float
value_in (Level.Small y) = y
value_in (Level.Large y) = y

abbrev pub value_of : ℕ → ℕ → Code → Float
value_of h g c = value_in (level_of h g c)
