-- `tables::vq_book` meets its contract. Assumes nothing.
use mathlib.Core.Path.{sym, ap}
use Rattle.tables.specs.Numbers.{vq_hebap1, vq_hebap2, vq_hebap3, vq_hebap4, vq_hebap5, vq_hebap6, vq_hebap7}
use Rattle.tables.specs.Tables.{book}
use Rattle.tables.proofs.Rules.{no_book}
use native.Mathlib.Omega.{arith}
use Rattle.tables.proofs.vq_book.Goals as goal

pub returns-in-1 : goal.returns-in-1
unfolding book vq_hebap1
returns-in-1 c = ap book (sym c.in-1.is)

pub returns-in-2 : goal.returns-in-2
unfolding book vq_hebap2
returns-in-2 c = ap book (sym c.in-2.is)

pub returns-in-3 : goal.returns-in-3
unfolding book vq_hebap3
returns-in-3 c = ap book (sym c.in-3.is)

pub returns-in-4 : goal.returns-in-4
unfolding book vq_hebap4
returns-in-4 c = ap book (sym c.in-4.is)

pub returns-in-5 : goal.returns-in-5
unfolding book vq_hebap5
returns-in-5 c = ap book (sym c.in-5.is)

pub returns-in-6 : goal.returns-in-6
unfolding book vq_hebap6
returns-in-6 c = ap book (sym c.in-6.is)

pub returns-in-7 : goal.returns-in-7
unfolding book vq_hebap7
returns-in-7 c = ap book (sym c.in-7.is)

pub returns-in_default : goal.returns-in_default
returns-in_default c = sym (no_book _ (λ k a b e. omega arith))
