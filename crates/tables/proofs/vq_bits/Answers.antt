-- `tables::vq_bits` meets its contract. Assumes nothing.
use mathlib.Core.Path.{refl, sym}
use borrow.Author.Rules.{rules}
use Rattle.tables.specs.Numbers.{vq_bits_table}
use Rattle.tables.specs.Tables.{vq_bits}
use Rattle.tables.proofs.Rules.{vq_none}
use Rattle.tables.proofs.vq_bits.Goals as goal

pub bounds-h : goal.bounds-h
unfolding vq_bits vq_bits_table
bounds-h c = search rules

pub returns-then-h-lt8 : goal.returns-then-h-lt8
unfolding vq_bits vq_bits_table
returns-then-h-lt8 c = refl

pub returns-else-h-lt8 : goal.returns-else-h-lt8
unfolding vq_bits vq_bits_table
returns-else-h-lt8 c = sym (vq_none c.args.hebap c.if-h-lt8.false)
