-- What reading scalar mantissas answers: a code, a bin, read_scalar_aht_mantissas.
-- docs/FORMAT.md, Levels and 'Small ports'; ATSC A/52 Annex E, 3.4.4.2.
use Rattle.std.specs.Prelude.{ℕ, ◌*◌, Bool, cond, List, map, eqb, leb, ℤ, pos, negsuc, length, drop, replicate, Float}
use Rattle.bits.specs.Bits.{bits_of}
use Rattle.bits.specs.Format.{Got, got, refused, and_then}
use Rattle.tables.specs.Tables.{mant_bits}
use Rattle.gains.specs.Gains.{gain_value}
use Rattle.levels.specs.Codes.{six}
use Rattle.levels.specs.Value.{f0, value_of}
use Rattle.answers.specs.declared.Refusal.TheVariants.{HebapAbove19, InputEnds, OutOfRange}

-- ---- read_scalar_aht_mantissas
-- Gk: by the gain code where gaqbin is 1, else 1
abbrev pub gain_of : ℤ → ℕ → ℕ → ℕ
gain_of (pos n) code mode = cond (eqb n 1) (gain_value code mode) 1
gain_of (negsuc n) code mode = 1

-- the values of the six codes that bits begin with
abbrev pub values_read : ℕ → ℕ → List Bool → Got (List Float)
values_read h g bs = and_then ((six (mant_bits h) g).dec bs) (λ cs rest. got (map (value_of h g) cs) rest)

-- the six values of a bin: hebap 0 to 7 give zeros and take no bits
unfoldable pub bin_read : ℕ → ℕ → List Bool → Got (List Float)
bin_read h g bs = cond (leb h 7) (got (replicate 6 f0) bs) (values_read h g bs)

-- the same, for the bytes s and the bit position at: 12 for a mode above 3, 4 for a hebap above 19,
-- 8 where the bits run out or the position is past the end
unfoldable pub scalars_read : List ℕ → ℕ → ℕ → ℕ → ℤ → ℕ → Got (List Float)
scalars_read s at h mode gaqbin code =
    cond (leb mode 3)
    (cond (leb h 19)
    (cond (leb at (8 * length s)) (bin_read h (gain_of gaqbin code mode) (drop at (bits_of s))) (refused InputEnds))
    (refused HebapAbove19))
    (refused OutOfRange)

-- the output afterwards: as it was where the call refuses
abbrev pub scalars_after : List Float → Got (List Float) → List Float
scalars_after out (got ys rest) = ys
scalars_after out (refused k) = out
