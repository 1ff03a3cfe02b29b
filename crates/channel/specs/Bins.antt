-- What is gathered over the places start to end - 1, in rising order: of the bins of a row, or of the components of a
-- bin. docs/FORMAT.md, Planner and Writer ('bins in rising order').
use Rattle.std.specs.Prelude.{ℕ, zero, suc, ◌+◌, ◌-◌, Bool, false, cond, ◌||◌, List, [], ◌∷◌, leb}

-- f at n places from k on
unfoldable pub from : {A : Type 0} → (ℕ → A) → ℕ → ℕ → List A
from f k zero = []
from f k (suc n) = f k ∷ from f (suc k) n

-- f at the places start to end - 1
abbrev pub over : {A : Type 0} → (ℕ → A) → ℕ → ℕ → List A
over f start end = from f start (end - start)

-- the sum of f at the places start to end - 1
unfoldable pub sum_over : (ℕ → ℕ) → ℕ → ℕ → ℕ
sum_over f start zero = 0
sum_over f start (suc e) = cond (leb start e) (sum_over f start e + f e) 0

-- p holds at some of them
unfoldable pub some_over : (ℕ → Bool) → ℕ → ℕ → Bool
some_over p start zero = false
some_over p start (suc e) = cond (leb start e) (some_over p start e || p e) false
