-- `books::vectors_in` meets its contract: each arm computes its number. Assumes nothing.
use Rattle.tables.specs.Numbers.{vq_bits_table}
use Rattle.tables.specs.Tables.{vq_bits}
use Rattle.books.proofs.Laws.{without_book}
use native.Mathlib.Omega.{arith}
use Rattle.books.proofs.vectors_in.Goals as goal

pub returns-in_default : goal.returns-in_default
returns-in_default c = rw (without_book c.args.hebap (omega arith))

pub returns-in-1 : goal.returns-in-1
unfolding vq_bits vq_bits_table
returns-in-1 c = rw c.in-1.is

pub returns-in-2 : goal.returns-in-2
unfolding vq_bits vq_bits_table
returns-in-2 c = rw c.in-2.is

pub returns-in-3 : goal.returns-in-3
unfolding vq_bits vq_bits_table
returns-in-3 c = rw c.in-3.is

pub returns-in-4 : goal.returns-in-4
unfolding vq_bits vq_bits_table
returns-in-4 c = rw c.in-4.is

pub returns-in-5 : goal.returns-in-5
unfolding vq_bits vq_bits_table
returns-in-5 c = rw c.in-5.is

pub returns-in-6 : goal.returns-in-6
unfolding vq_bits vq_bits_table
returns-in-6 c = rw c.in-6.is

pub returns-in-7 : goal.returns-in-7
unfolding vq_bits vq_bits_table
returns-in-7 c = rw c.in-7.is
