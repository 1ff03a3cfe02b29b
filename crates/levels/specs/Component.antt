-- Which components of a vector are accepted. docs/FORMAT.md, cause 5.
use Rattle.std.specs.Prelude.{ℕ, ◌*◌, ◌<◌, ◌≡◌, ◌⊎◌, Bool, true, false, ◌||◌, List, [], ◌∷◌, ltb, Float}
use Rattle.std.specs.Float.{nan, inf, fin}
use Rattle.std.specs.Float.Ieee.{up, down}

-- NaN, infinite or over a limit in size
unfoldable pub beyond : ℕ → Float → Bool
beyond limit nan = true
beyond limit (inf s) = true
beyond limit (fin s m e) = ltb (limit * down e) (m * up e)

-- some component is
abbrev pub some_beyond : ℕ → List Float → Bool
some_beyond limit [] = false
some_beyond limit (x ∷ xs) = beyond limit x || some_beyond limit xs

-- ---- the limit: the greatest size of a component
abbrev pub largest_size : ℕ
largest_size = 16384

abbrev pub too_large : Float → Bool
too_large = beyond largest_size

abbrev pub some_too_large : List Float → Bool
some_too_large = some_beyond largest_size

-- ---- the answers of a call at a limit and at a wider one; `over`: a component is over the wider one
-- a number that is none, or later than 5
abbrev pub Later : ℕ → Type 0
Later n = (n ≡ 0) ⊎ (5 < n)

pub record Widened {A : Type 0} (number : A → ℕ) (over : Bool) (before after : A) : Type 0 where
  -- an answer whose number is not 5 is kept, and so is a 5 of a component that is over both
  pub kept : (number before ≡ 5 → ⊥) → after ≡ before
  pub still : number before ≡ 5 → over ≡ true → after ≡ before
  -- any other 5 is answered, or refused with a later number
  pub former : number before ≡ 5 → over ≡ false → Later (number after)
