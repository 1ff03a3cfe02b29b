-- `books::vq_lookup` meets its contract. Assumes nothing.
use borrow.Author.Rules.{rules}
use Rattle.books.specs.Books.{vq_lookup}
use Rattle.books.proofs.Laws.{HasBook, no_book, has_book_lem}
use Rattle.books.proofs.Vectors.{inside, looked_up}
use Rattle.books.proofs.vq_lookup.Goals as goal
use Rattle.books.proofs.vq_lookup.Goals.{Else-n-eq0}

there : (c : Else-n-eq0) → HasBook c.args.hebap c.vectors_in-n.result
there c = has_book_lem c.args.hebap c.vectors_in-n.result c.vectors_in-n.ensures c.if-n-eq0.false

pub returns-then-n-eq0 : goal.returns-then-n-eq0
unfolding vq_lookup
returns-then-n-eq0 c = rw (no_book c.args.hebap c.vectors_in-n.result c.vectors_in-n.ensures c.if-n-eq0.true)

pub overflow_mul-index : goal.overflow_mul-index
overflow_mul-index c = let i = (inside c.args.hebap c.vectors_in-n.result c.args.index (there (goal.at.overflow_mul-index c).Else-n-eq0)).1 in search rules

pub six-requires : goal.six-requires
six-requires c = rw c.vq_book.ensures (inside c.args.hebap c.vectors_in-n.result c.args.index (there (goal.at.six-requires c).Else-n-eq0))

pub returns : goal.returns
returns c = looked_up c.args.hebap c.vectors_in-n.result c.args.index _ (there (goal.at.returns c).Else-n-eq0) (rw (← c.vq_book.ensures) c.six.ensures)
