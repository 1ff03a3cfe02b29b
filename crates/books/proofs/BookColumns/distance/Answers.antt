-- `books::BookColumns::distance` meets its contract. Assumes nothing.
use Rattle.books.specs.Work.{distance_in}
use Rattle.books.proofs.Columns.{six_terms}
use Rattle.books.proofs.BookColumns.distance.Goals as goal

pub returns : goal.returns
unfolding distance_in
returns c = six_terms _ _ _ _ _ _ _ _ _ _ _ _ _ _ _ c.term-a.ensures c.term-b.ensures c.term-c.ensures c.term-d.ensures c.term-e.ensures c.term.ensures
