-- `tables::mant_bits` meets its contract. Assumes nothing.
use mathlib.Core.Path.{refl, sym}
use mathlib.Core.Logic.{inr}
use borrow.Author.Rules.{rules}
use Rattle.tables.specs.Numbers.{mant_bits_table}
use Rattle.tables.specs.Tables.{mant_bits}
use Rattle.tables.proofs.Rules.{mant_none}
use Rattle.tables.proofs.mant_bits.Goals as goal

pub bounds-h : goal.bounds-h
unfolding mant_bits mant_bits_table
bounds-h c = search rules

pub returns-then-h-lt20 : goal.returns-then-h-lt20
unfolding mant_bits mant_bits_table
returns-then-h-lt20 c = refl

pub returns-else-h-lt20 : goal.returns-else-h-lt20
unfolding mant_bits mant_bits_table
returns-else-h-lt20 c = sym (mant_none c.args.hebap (inr c.if-h-lt20.false))
