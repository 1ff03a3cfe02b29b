-- `books::six` meets its contract. Assumes nothing.
use mathlib.Core.List.{[], ◌∷◌}
use Rattle.books.specs.Books.{six_at}
use Rattle.books.proofs.six.Goals as goal

pub returns : goal.returns
unfolding six_at
returns c = λ i. c.fraction.ensures i ∷ c.fraction-2.ensures i ∷ c.fraction-3.ensures i ∷ c.fraction-4.ensures i ∷ c.fraction-5.ensures i ∷ c.fraction-6.ensures i ∷ []
