-- The codes of a scalar mantissa and how they stand as bits.
-- docs/FORMAT.md, Levels; ATSC A/52 Annex E, 3.4.4.2, Table E3.5.
use Rattle.std.specs.Prelude.{ℕ, suc, ◌+◌, ◌-◌, ◌^◌, ◌<◌, ◌≡◌, cond, List, eqb, ltb, ℤ, pos, negsuc, replicate}
use Rattle.bits.specs.Format.{Format, number, only, both, shown, each}
use Rattle.tables.specs.Tables.{mant_bits}
use Rattle.levels.specs.declared.Code.{Code}

-- two's complement: the number that the w bits of u show, u or u - 2 ^ w
abbrev pub signed : ℕ → ℕ → ℤ
signed w u = cond (ltb u (2 ^ (w - 1))) (pos u) (negsuc (2 ^ w - suc u))

-- the bits of the lowest number of w bits: the tag
abbrev pub tag : ℕ → ℕ
tag w = 2 ^ (w - 1)

-- the bits of s and of l, for m mantissa bits (Table E3.5): Gk 2 has m-1 and m-1, Gk 4 has m-2 and m;
-- the codes of Gk 1 are all large and have m
abbrev pub small_bits : ℕ → ℕ → ℕ
small_bits m g = cond (eqb g 2) (m - 1) (m - 2)

abbrev pub large_bits : ℕ → ℕ → ℕ
large_bits m g = cond (eqb g 2) (m - 1) m

-- 1 for a large code, 0 for a small one; and its bits
abbrev pub large_of : Code → ℕ
large_of (Code.Small s) = 0
large_of (Code.Large l) = 1

abbrev pub code_of : Code → ℕ
code_of (Code.Small s) = s
code_of (Code.Large l) = l

-- ---- the layout of a code
abbrev pub to_code : ℕ → ℕ × ℕ → Code
to_code w p = cond (eqb p.0 (tag w)) (Code.Large p.1) (Code.Small p.0)

abbrev pub of_code : ℕ → Code → ℕ × ℕ
of_code w (Code.Small s) = (s, 0)
of_code w (Code.Large l) = (tag w, l)

abbrev pub of_large : Code → ℕ
of_large (Code.Small s) = 0
of_large (Code.Large l) = l

-- s in w bits; the tag is followed by l in w' bits
unfoldable pub tagged : ℕ → ℕ → Format Code
tagged w w' = shown (both (number w) (λ s. cond (eqb s (tag w)) (number w') (only 0))) (to_code w) (of_code w)

-- a code of m mantissa bits at the gain 1, 2 or 4
unfoldable pub coded : ℕ → ℕ → Format Code
coded m g = cond (eqb g 1) (shown (number m) Code.Large of_large) (tagged (small_bits m g) (large_bits m g))

-- how many bits a code takes
abbrev pub code_bits : ℕ → ℕ → Code → ℕ
code_bits m g (Code.Small s) = small_bits m g
code_bits m g (Code.Large l) = cond (eqb g 1) m (small_bits m g + large_bits m g)

-- the six codes of a bin
abbrev pub six : ℕ → ℕ → Format (List Code)
six m g = each (λ (k : ℕ). coded m g) (replicate 6 0)

-- the codes that are read at a hebap and a gain
abbrev pub Accepted : ℕ → ℕ → Code → Type 0
Accepted h g (Code.Small s) = (g ≡ 1 → ⊥) × (s < 2 ^ small_bits (mant_bits h) g) × (s ≡ tag (small_bits (mant_bits h) g) → ⊥)
Accepted h g (Code.Large l) = l < 2 ^ large_bits (mant_bits h) g
