-- `plantext::Printer::put_name` meets its contract. Assumes nothing.
use Rattle.plantext.proofs.Printing.{puts_both}
use Rattle.plantext.proofs.Printer.put_name.Goals as goal

pub returns : goal.returns
returns c = puts_both c.put_byte.ensures c.put_text.ensures
