-- `plantext::Printer::put_sizes` meets its contract. Assumes nothing.
use native.Mathlib.Omega.{arith}
use Rattle.plantext.specs.PlanText.{payload_name, size_lines}
use Rattle.plantext.proofs.Printing.{puts_both, number_line_fits}
use Rattle.plantext.proofs.Printer.put_sizes.Goals as goal

pub put_number_line-requires-2 : goal.put_number_line-requires-2
put_number_line-requires-2 c = let h = number_line_fits payload_name c.args.payload in omega arith

pub returns : goal.returns
unfolding size_lines
returns c = puts_both c.put_number_line.ensures c.put_number_line-2.ensures
