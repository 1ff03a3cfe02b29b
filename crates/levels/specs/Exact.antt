-- The exact value of a code, in units of 2 ^ -30: y = x + a x + b.
-- docs/FORMAT.md, Levels; ATSC A/52 Annex E, 3.4.4.2, Table E3.6.
use Rattle.std.specs.Prelude.{ℕ, ◌-◌, ◌^◌, Bool, true, false, cond, eqb, ℤ, pos, negsuc, ◌+ℤ◌, ◌*ℤ◌}
use Rattle.tables.specs.Tables.{mant_bits, gaq_remap_at}
use Rattle.levels.specs.declared.Code.{Code}
use Rattle.levels.specs.Codes.{signed, small_bits, large_bits}

-- a, and b for l ≥ 0 and for l < 0, of a hebap and a gain; b is 0 at Gk 1
abbrev pub slope : ℕ → ℕ → ℤ
slope h g = cond (eqb g 1) (gaq_remap_at h 0) (cond (eqb g 2) (gaq_remap_at h 1) (gaq_remap_at h 4))

abbrev pub offset : ℕ → ℕ → ℤ
offset h g = cond (eqb g 1) (pos 0) (cond (eqb g 2) (gaq_remap_at h 2) (gaq_remap_at h 5))

abbrev pub offset_below : ℕ → ℕ → ℤ
offset_below h g = cond (eqb g 1) (pos 0) (cond (eqb g 2) (gaq_remap_at h 3) (gaq_remap_at h 6))

abbrev pub offset_by_sign : ℕ → ℕ → Bool → ℤ
offset_by_sign h g below = cond below (offset_below h g) (offset h g)

abbrev pub is_negative : ℤ → Bool
is_negative (pos n) = false
is_negative (negsuc n) = true

-- s × 2 ^ (31 - m)
abbrev pub exact_small : ℕ → ℤ → ℤ
exact_small h s = s *ℤ pos (2 ^ (31 - mant_bits h))

-- l × (32768 + a) × 2 ^ (17 - m) at Gk 2, × 2 ^ (16 - m) else, + b × 2 ^ 15
abbrev pub exact_large : ℕ → ℕ → ℤ → ℤ
exact_large h g l =
    l *ℤ (pos 32768 +ℤ slope h g) *ℤ pos (2 ^ (cond (eqb g 2) 17 16 - mant_bits h))
    +ℤ offset_by_sign h g (is_negative l) *ℤ pos (2 ^ 15)

unfoldable pub exact_of : ℕ → ℕ → Code → ℤ
exact_of h g (Code.Small s) = exact_small h (signed (small_bits (mant_bits h) g) s)
exact_of h g (Code.Large l) = exact_large h g (signed (large_bits (mant_bits h) g) l)
