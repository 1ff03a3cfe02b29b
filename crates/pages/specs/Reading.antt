-- Pages read back, for the theorems: no call reads them.
use Rattle.std.specs.Prelude.{ℕ, zero, suc, Bool, true, cond, ◌&&◌, List, [], ◌∷◌, eqb, get_or, take, drop}
use Rattle.plantext.specs.PlanText.{decimal_value}
use Rattle.pages.specs.declared.Cell.{Cell}
use Rattle.pages.specs.Pages.{place_at}

-- the number that stands behind spaces, to the last character
unfoldable pub number_behind : List ℕ → ℕ
number_behind [] = 0
number_behind (c ∷ s) = cond (eqb c 32) (number_behind s) (decimal_value 0 (c ∷ s))

-- Gk, and 0 for a dash
abbrev pub gk_in : List ℕ → ℕ
gk_in s = cond (eqb (get_or s 0 0) 45) 0 (number_behind s)

-- the four parts of a cell, by their columns
unfoldable pub cell_in : List ℕ → Cell
cell_in s = record {
  bin = number_behind (take 3 s);
  hebap = number_behind (take 2 (drop 4 s));
  gk = gk_in (take 1 (drop 7 s));
  bits = number_behind (take 3 (drop 9 s));
}

-- the twelve characters of the place i
abbrev pub at_place : List ℕ → ℕ → List ℕ
at_place s i = take 12 (drop (place_at i) s)

unfoldable pub blank : List ℕ → Bool
blank [] = true
blank (c ∷ s) = eqb c 32 && blank s

-- the cells of n places from i on, in order; a blank place has none
unfoldable pub cells_in : List ℕ → ℕ → ℕ → List Cell
cells_in s i zero = []
cells_in s i (suc n) = cond (blank (at_place s i)) (cells_in s (suc i) n) (cell_in (at_place s i) ∷ cells_in s (suc i) n)
