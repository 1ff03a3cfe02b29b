-- A rule of a table as one computed test: what the test says at each place. Assumes nothing.
use Prim.Native.Nat.{ℕ, zero, suc, ◌+◌, ◌≤◌, ◌<◌}
use mathlib.Core.Path.{◌≡◌, refl, subst}
use mathlib.Core.Bool.{Bool, true, false, ◌&&◌}
use mathlib.Core.List.{List, [], ◌∷◌}
use mathlib.Core.Logic.{◌⊎◌, inl, inr}
use native.Mathlib.Nat.{eq-or-lt_of_le}
use native.Mathlib.Omega.{arith}
use borrow.Author.Tests.{ltb-true, ltb-false}
use lib.Dec.{T, ltb}
use lib.ListN.{get_or}

pub lt_or_le : (m n : ℕ) → (m < n) ⊎ (n ≤ m)
lt_or_le m n = go (ltb m n) refl
  where
    go : (t : Bool) → ltb m n ≡ t → (m < n) ⊎ (n ≤ m)
    go true e = inl (ltb-true m n e)
    go false e = inr (ltb-false m n e)

pub and_parts : (a b : Bool) → T (a && b) → T a × T b
and_parts true b t = (tt, t)
and_parts false b t = absurd t

-- a test of n numbers, from k on
abbrev pub every : (ℕ → Bool) → ℕ → ℕ → Bool
every f zero k = true
every f (suc n) k = f k && every f n (suc k)

pub every_at : (f : ℕ → Bool) (n k j : ℕ) → T (every f n k) → k ≤ j → j < k + n → T (f j)
every_at f zero k j t l u = absurd (let z : j < k + 0 = u in omega arith)
every_at f (suc n) k j t l u =
    let p = and_parts (f k) (every f n (suc k)) t in
    elim (eq-or-lt_of_le l) [
      | inl e ↦ subst (λ (i : ℕ). T (f i)) e p.0
      | inr g ↦ every_at f n (suc k) j p.1 g (omega arith)
    ]

-- a test of each entry of a list
abbrev pub each : {A : Type 0} → (A → Bool) → List A → Bool
each f [] = true
each f (x ∷ xs) = f x && each f xs

pub each_at : {A : Type 0} (f : A → Bool) (xs : List A) → T (each f xs) → (d : A) → T (f d) → (i : ℕ) → T (f (get_or xs i d))
each_at f [] t d u i = u
each_at f (x ∷ xs) t d u zero = (and_parts (f x) (each f xs) t).0
each_at f (x ∷ xs) t d u (suc i) = each_at f xs (and_parts (f x) (each f xs) t).1 d u i
