-- `reader::one_bin::read_index` meets its contract. Assumes nothing.
use native.Mathlib.Omega.{arith}
use Rattle.tables.proofs.Rules.{vq_bits_lem}
use Rattle.reader.proofs.one_bin.read_index.Goals as goal

pub take_word-index-requires-clause-few : goal.take_word-index-requires-clause-few
take_word-index-requires-clause-few c = let h = c.requires.le_hebap in let n = vq_bits_lem c.args.hebap h.0 h.1 in omega (arith, n.0, n.1, c.vq_bits-n.ensures)

pub read_u32-requires : goal.read_u32-requires
read_u32-requires c = let h = c.requires.le_hebap in let n = vq_bits_lem c.args.hebap h.0 h.1 in omega (arith, n.1, c.vq_bits-n.ensures)
