-- `books::exact_six` meets its contract. Assumes nothing.
use mathlib.Core.List.{[], ◌∷◌}
use mir.Syntax.{w32}
use Rattle.levels.proofs.Signed.{back}
use Rattle.books.specs.Books.{exacts_at}
use Rattle.books.proofs.exact_six.Goals as goal

pub returns : goal.returns
unfolding exacts_at
returns c =
    let e0 = back w32 c.exact_entry.result c.exact_entry.type_inv c.exact_entry.ensures in
    let e1 = back w32 c.exact_entry-2.result c.exact_entry-2.type_inv c.exact_entry-2.ensures in
    let e2 = back w32 c.exact_entry-3.result c.exact_entry-3.type_inv c.exact_entry-3.ensures in
    let e3 = back w32 c.exact_entry-4.result c.exact_entry-4.type_inv c.exact_entry-4.ensures in
    let e4 = back w32 c.exact_entry-5.result c.exact_entry-5.type_inv c.exact_entry-5.ensures in
    let e5 = back w32 c.exact_entry-6.result c.exact_entry-6.type_inv c.exact_entry-6.ensures in
    λ i. e0 i ∷ e1 i ∷ e2 i ∷ e3 i ∷ e4 i ∷ e5 i ∷ []
