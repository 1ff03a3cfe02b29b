-- `plantext::Printer::put_field_line` meets its contract. Assumes nothing.
use native.Mathlib.Omega.{arith}
use Rattle.plantext.proofs.Printing.{puts_line, length_hexes}
use Rattle.plantext.proofs.Printer.put_field_line.Goals as goal

pub put_text-requires : goal.put_text-requires
put_text-requires c = let h = length_hexes c.args.field.now in omega arith

pub returns : goal.returns
returns c = puts_line _ _ c.put_name.ensures c.put_hexes.ensures c.put_text.ensures
