-- `plantext::Printer::put_text` meets its contract. Assumes nothing.
use mathlib.Core.Path.{refl}
use Rattle.plantext.proofs.Printing.{put_slice}
use Rattle.plantext.proofs.Printer.put_text.Goals as goal

pub returns : goal.returns
returns c = let p = c.args.self.now in record { put = put_slice p.out.now c.args.text.now _ p.at c.requires c.copy_from_slice.ensures.after; same_output = refl }
