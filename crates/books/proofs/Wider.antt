-- What the search answered at a limit, it answers at a wider one. Assumes nothing.
use Prim.Native.Nat.{ℕ, ◌≤◌}
use mathlib.Core.Path.{refl}
use mathlib.Core.List.{List}
use mathlib.Core.Logic.{inl}
use native.Mathlib.Omega.{arith}
use lib.Ieee.{Float}
use Rattle.answers.specs.Answers.{answer_number}
use Rattle.std.specs.Prelude.{Ok, Err}
use Rattle.answers.specs.declared.Refusal.TheVariants.{Component}
use Rattle.levels.specs.Component.{some_beyond, Widened}
use Rattle.levels.proofs.Wider.{all_wider, tested}
use Rattle.books.specs.Books.{has_book, search_of, vq_search_up_to}

pub search_widened : (l l' : ℕ) → l ≤ l' → (h : ℕ) (x : List Float) → Widened answer_number (some_beyond l' x) (vq_search_up_to l h x) (vq_search_up_to l' h x)
unfolding vq_search_up_to
search_widened l l' w h x =
    tested answer_number (Err Component) (Ok (search_of h x)) (Ok 0) refl (inl refl) (λ e. omega arith)
    (has_book h) (some_beyond l x) (some_beyond l' x) (all_wider l l' w x)
