-- How many bits a bin takes, at the codes that the quantiser picks. docs/FORMAT.md, Planner: hebap 0 costs nothing,
-- 1 to 7 VQ_BITS, 8 to 19 six codes.
use Rattle.std.specs.Prelude.{ℕ, cond, List, eqb, leb, Float}
use Rattle.tables.specs.Tables.{vq_bits}
use Rattle.quantiser.specs.Quantise.{codes_bits}

-- the hebap, the gain and the six components
unfoldable pub bin_bits : ℕ → ℕ → List Float → ℕ
bin_bits h g v = cond (eqb h 0) 0 (cond (leb h 7) (vq_bits h) (codes_bits h g v))
