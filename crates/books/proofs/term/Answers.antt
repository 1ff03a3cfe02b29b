-- `books::term` meets its contract. Assumes nothing.
use Rattle.books.specs.Books.{term_of}
use Rattle.books.proofs.Columns.{float_at}
use Rattle.books.proofs.term.Goals as goal

pub returns : goal.returns
unfolding term_of
returns c = rw (float_at c.args.t.now c.args.i c.requires.0)

pub float_from_bits-diff : goal.float_from_bits-diff
float_from_bits-diff c = rw (c.requires.1.each c.args.i c.requires.0) tt
