-- How the search is made fast; Books says what holds. The law that joins them: `by_component_lem`
-- (proofs/Columns.antt), this search is `nearest_in`.
use Rattle.std.specs.Prelude.{ℕ, ◌+◌, ◌*◌, ◌<◌, ◌≡◌, false, cond, List, length, get_or, Float}
use Rattle.std.specs.Float.{nan, binary32}
use Rattle.std.specs.Float.Ieee.{nan_bits, lt}
use Rattle.levels.specs.Value.{f0}
use Rattle.books.specs.declared.Nearest.{Nearest}
use Rattle.books.specs.Books.{term_of}

-- bit patterns that each show a number: `from_bits` is not defined at a NaN's
pub record NoNans (l : List ℕ) : Type 0 where
  pub each : (i : ℕ) → i < length l → nan_bits binary32 (get_or l i 0) ≡ false

-- vector k takes the place of the nearest so far where its distance d is less
unfoldable pub nearer_of : Nearest → Float → ℕ → Nearest
nearer_of s d k = cond (lt d s.least) (record { best = k; least = d }) s

-- the distance of six numbers from vector k, in component order
unfoldable pub distance_by : List Float → ℕ → ℕ → Float → Float → Float → Float → Float → Float → Float
distance_by t n k p q r s u v =
    term_of (term_of (term_of (term_of (term_of (term_of f0 p (get_or t k nan)) q (get_or t (k + n) nan)) r (get_or t (k + 2 * n) nan)) s (get_or t (k + 3 * n) nan)) u
    (get_or t (k + 4 * n) nan)) v (get_or t (k + 5 * n) nan)

unfoldable pub distance_in : List Float → List Float → ℕ → ℕ → Float
distance_in x t n k = distance_by t n k (get_or x 0 nan) (get_or x 1 nan) (get_or x 2 nan) (get_or x 3 nan) (get_or x 4 nan) (get_or x 5 nan)
