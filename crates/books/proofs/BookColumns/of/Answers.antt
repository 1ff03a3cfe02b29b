-- `books::BookColumns::of` meets its contract. Assumes nothing.
use native.Mathlib.Omega.{arith}
use Rattle.books.proofs.Columns.{book_length, few_vectors, columns_no_nans}
use Rattle.books.proofs.BookColumns.of.Goals as goal

pub invariant_of-result : goal.invariant_of-result
invariant_of-result c =
    let h = c.args.hebap in
    let t = c.fractions.result.now in
    let n = c.vectors_in.ensures in
    let l = book_length h t c.fractions.ensures in
    let f = few_vectors h in
    record { whole = omega arith; few = omega arith; no_nans = columns_no_nans h t c.fractions.ensures }
