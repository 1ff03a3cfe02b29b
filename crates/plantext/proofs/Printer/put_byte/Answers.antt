-- `plantext::Printer::put_byte` meets its contract. Assumes nothing.
use mathlib.Core.Path.{refl}
use Rattle.plantext.proofs.Printing.{put_byte}
use Rattle.plantext.proofs.Printer.put_byte.Goals as goal

pub returns : goal.returns
returns c = let p = c.args.self.now in record { put = put_byte p.out.now p.at c.args.byte c.requires; same_output = refl }
