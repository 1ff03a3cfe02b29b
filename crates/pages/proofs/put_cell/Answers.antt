-- `pages::put_cell` meets its contract. Assumes nothing.
use Rattle.pages.proofs.Cells.{cell_put}
use Rattle.pages.proofs.put_cell.Goals as goal

pub returns : goal.returns
returns c = let a = c.args in
    cell_put a.out.now a.c c.put_number.new.out c.put_part.new.out c.put_gain.new.out c.put_part-2.new.out c.requires
    c.put_number.ensures (rw c.from.ensures at c.put_part.ensures) c.put_gain.ensures c.put_part-2.ensures
