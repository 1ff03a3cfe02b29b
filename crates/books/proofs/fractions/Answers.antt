-- `books::fractions` meets its contract: `tt` is the test of the whole book. Assumes nothing.
use native.Mathlib.Omega.{arith}
use Rattle.tables.specs.Numbers.{vq_bits_table, vq_hebap1, vq_hebap2, vq_hebap3, vq_hebap4, vq_hebap5, vq_hebap6, vq_hebap7}
use Rattle.tables.specs.Tables.{book, vq_bits}
use Rattle.books.specs.Fractions.{column, by_component, floats}
use Rattle.books.proofs.Laws.{without_book}
use Rattle.books.proofs.Patterns.{book_shown}
use Rattle.books.proofs.fractions.Goals as goal

pub returns-in-1 : goal.returns-in-1
unfolding book vq_bits vq_bits_table vq_hebap1
returns-in-1 c = rw c.in-1.is (book_shown _ (book 1) _ tt)

pub returns-in-2 : goal.returns-in-2
unfolding book vq_bits vq_bits_table vq_hebap2
returns-in-2 c = rw c.in-2.is (book_shown _ (book 2) _ tt)

pub returns-in-3 : goal.returns-in-3
unfolding book vq_bits vq_bits_table vq_hebap3
returns-in-3 c = rw c.in-3.is (book_shown _ (book 3) _ tt)

pub returns-in-4 : goal.returns-in-4
unfolding book vq_bits vq_bits_table vq_hebap4
returns-in-4 c = rw c.in-4.is (book_shown _ (book 4) _ tt)

pub returns-in-5 : goal.returns-in-5
unfolding book vq_bits vq_bits_table vq_hebap5
returns-in-5 c = rw c.in-5.is (book_shown _ (book 5) _ tt)

pub returns-in-6 : goal.returns-in-6
unfolding book vq_bits vq_bits_table vq_hebap6
returns-in-6 c = rw c.in-6.is (book_shown _ (book 6) _ tt)

pub returns-in-7 : goal.returns-in-7
unfolding book vq_bits vq_bits_table vq_hebap7
returns-in-7 c = rw c.in-7.is (book_shown _ (book 7) _ tt)

pub returns-in_default : goal.returns-in_default
unfolding floats by_component column
returns-in_default c = rw (without_book c.args.hebap (omega arith))
