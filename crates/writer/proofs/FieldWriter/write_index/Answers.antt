-- `writer::FieldWriter::write_index` meets its contract. Assumes nothing.
use native.Mathlib.Omega.{arith}
use borrow.Author.Rules.{rules}
use Rattle.tables.proofs.Rules.{vq_most}
use Rattle.writer.proofs.Words.{search_few}
use Rattle.bits.specs.Format.{number}
use Rattle.bits.proofs.Laws.{length_bits_n}
use Rattle.writer.proofs.FieldWriter.write_index.Goals as goal

pub overflow_cast-i : goal.overflow_cast-i
overflow_cast-i c = let a = c.args in
    let k = search_few a.hebap a.x.now in
    let e = c.search-i.ensures in
    search rules

pub put-requires : goal.put-requires
unfolding number
put-requires c = let m = vq_most c.args.hebap in
    let e = c.vq_bits.ensures in
    record { n_bound = omega arith; room = rw (length_bits_n, e) (rw length_bits_n at c.requires.room) }

pub returns : goal.returns
unfolding number
returns c = rw (← c.vq_bits.ensures, ← c.search-i.ensures) c.put.ensures
