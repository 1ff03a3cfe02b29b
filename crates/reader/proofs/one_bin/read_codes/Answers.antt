-- `reader::one_bin::read_codes` meets its contract. Assumes nothing.
use Rattle.reader.proofs.Items.{codes_put}
use Rattle.reader.proofs.one_bin.read_codes.Goals as goal

pub returns : goal.returns
returns c = let a = c.args in codes_put a.s.hebap a.s.gk a.bin a.reader.now _ a.scratch.now _ _ _ c.read_row.ensures
