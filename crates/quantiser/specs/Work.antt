-- How codes are found fast: no meaning of its own. The laws that join it to Quantise are in proofs/Fixed.antt.
use Rattle.std.specs.Prelude.{ℕ, ◌-◌, cond, ℤ, pos, ◌==◌, Float}
use Rattle.std.specs.Float.{binary32}
use Rattle.std.specs.Float.Ieee.{of_int, sub, mul}
use Rattle.tables.specs.Tables.{mant_bits}
use Rattle.levels.specs.Codes.{large_bits}
use Rattle.levels.specs.Work.{remap_by}
use Rattle.levels.specs.declared.Remap.{Remap}
use Rattle.quantiser.specs.Quantise.{f1e_9, max_f}

-- ---- what a hebap and a gain fix, computed once for many components
-- n, where 2 ^ n is the whole scale of the large codes; at Gk 1 all codes are large
abbrev pub exponent_of : ℕ → ℕ → ℕ
exponent_of h g = large_bits (mant_bits h) g - 1

-- the value of the level k by a remap and p, which is 1 / 2 ^ n
abbrev pub level_by : Remap → Float → ℤ → Float
level_by r p k = remap_by r (mul binary32 (of_int binary32 k) p)

-- the step of the estimate: at Gk 1 the value of the level 1, else what the levels 1 and 0 differ by
abbrev pub unit_by : Remap → Float → ℕ → Float
unit_by r p g = cond (g == 1) (remap_by r p) (max_f (sub binary32 (level_by r p (pos 1)) (level_by r p (pos 0))) f1e_9)
