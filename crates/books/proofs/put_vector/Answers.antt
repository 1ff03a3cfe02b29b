-- `books::put_vector` meets its contract. Assumes nothing.
use Prim.Native.Nat.{◌+◌, ◌-◌}
use mathlib.Core.Path.{◌≡◌, ap, ◌∙◌}
use native.Mathlib.Omega.{arith}
use borrow.Author.Rules.{rules}
use Rattle.bits.specs.Bits.{splice}
use Rattle.bits.proofs.Copying.{part_put}
use Rattle.books.specs.Books.{vq_lookup, vq_exact}
use Rattle.books.proofs.Vectors.{Stands, stands}
use Rattle.books.proofs.put_vector.Goals as goal
use Rattle.books.proofs.put_vector.Goals.{After-vq_book-book}

-- the vector stands whole in the book
there : (c : After-vq_book-book) → Stands c.args.hebap c.args.index
there c = let p = c.requires.le_hebap in stands c.args.hebap c.args.index p.0 p.1 p.2

pub overflow_mul-a : goal.overflow_mul-a
overflow_mul-a c = let s = (there c).inside in omega arith

pub six-requires : goal.six-requires
six-requires c = rw c.vq_book-book.ensures (there (goal.at.six-requires c).After-vq_book-book).inside

pub exact_six-requires : goal.exact_six-requires
exact_six-requires c = rw c.vq_book-book.ensures (there (goal.at.exact_six-requires c).After-vq_book-book).inside

pub returns-clause-values_after : goal.returns-clause-values_after
returns-clause-values_after c = let a = c.args in
    let e : c.six.result ≡ vq_lookup a.hebap a.index = rw (← (there (goal.at.returns-clause-values_after c).After-vq_book-book).fractions, ← c.vq_book-book.ensures) c.six.ensures in
    part_put a.values.now _ a.at (a.at + 6 - a.at) (search rules) ∙ ap (splice a.values.now a.at) (c.copy_from_slice.ensures.after ∙ e)

pub returns-clause-exact_after : goal.returns-clause-exact_after
returns-clause-exact_after c = let a = c.args in
    let e : c.exact_six.result ≡ vq_exact a.hebap a.index = rw (← (there (goal.at.returns-clause-exact_after c).After-vq_book-book).exacts, ← c.vq_book-book.ensures) c.exact_six.ensures in
    part_put a.exact.now _ a.at (a.at + 6 - a.at) (search rules) ∙ ap (splice a.exact.now a.at) (c.copy_from_slice-2.ensures.after ∙ e)
