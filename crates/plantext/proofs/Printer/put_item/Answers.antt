-- `plantext::Printer::put_item` meets its contract. Assumes nothing.
use Rattle.plantext.proofs.Printing.{puts_both, spaced_one}
use Rattle.plantext.proofs.Printer.put_item.Goals as goal

pub returns : goal.returns
returns c = rw (spaced_one c.args.n) (puts_both c.put_byte.ensures c.put_number.ensures)
