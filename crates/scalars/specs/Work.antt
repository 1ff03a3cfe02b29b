-- How codes are read a bin at a time: no meaning of its own. The laws that join it to Scalars are in proofs/Six.antt.
use Rattle.std.specs.Prelude.{ℕ, ◌≡◌, zero, suc, Bool, List, [], ◌∷◌, map, ℤ, Float}
use Rattle.bits.specs.Bits.{splice}
use Rattle.bits.specs.Format.{Format, Got, got, refused}
use Rattle.tables.specs.Tables.{mant_bits}
use Rattle.levels.specs.declared.Code.{Code}
use Rattle.levels.specs.Codes.{coded}
use Rattle.levels.specs.Exact.{exact_of}
use Rattle.levels.specs.Value.{value_of}

-- ---- the six codes of a bin
-- the codes that are there, up to n, before the bits run out
abbrev pub code_and : Got Code → (List Bool → List Code) → List Code
code_and (got c rest) f = c ∷ f rest
code_and (refused k) f = []

unfoldable pub codes_there : Format Code → ℕ → List Bool → List Code
codes_there F zero bs = []
codes_there F (suc n) bs = code_and (F.dec bs) (λ rest. codes_there F n rest)

-- what read_six leaves in its outputs: the values of the codes that are there, from a place on
unfoldable pub six_values : ℕ → ℕ → ℕ → List Bool → List Float → List Float
six_values h g at bs v = splice v at (map (value_of h g) (codes_there (coded (mant_bits h) g) 6 bs))

unfoldable pub six_exacts : ℕ → ℕ → ℕ → List Bool → List ℤ → List ℤ
six_exacts h g at bs x = splice x at (map (exact_of h g) (codes_there (coded (mant_bits h) g) 6 bs))

-- what it leaves there where all six are read
abbrev pub SixLeft : ℕ → ℕ → List Float → List ℤ → List Code → Type 0
SixLeft h g v x cs = (v ≡ map (value_of h g) cs) × (x ≡ map (exact_of h g) cs)
