-- `pages::put_part` meets its contract. Assumes nothing.
use Rattle.pages.proofs.Cells.{part_put}
use Rattle.pages.proofs.put_part.Goals as goal

pub returns : goal.returns
returns c = part_put c.args.out.now c.put_number.new.out c.args.n c.requires c.put_number.ensures
