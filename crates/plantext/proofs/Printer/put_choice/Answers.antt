-- `plantext::Printer::put_choice` meets its contract. Assumes nothing.
use native.Mathlib.Omega.{arith}
use Rattle.plantext.specs.PlanText.{mode_name, choice_lines}
use Rattle.plantext.proofs.Printing.{puts_both, number_line_fits}
use Rattle.plantext.proofs.Printer.put_choice.Goals as goal

pub put_gains_line-requires : goal.put_gains_line-requires
put_gains_line-requires c = let h = number_line_fits mode_name c.from.result in omega arith

pub returns : goal.returns
unfolding choice_lines
returns c = puts_both (rw c.from.ensures at c.put_number_line.ensures) c.put_gains_line.ensures
