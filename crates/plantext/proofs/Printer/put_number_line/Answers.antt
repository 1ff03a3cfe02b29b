-- `plantext::Printer::put_number_line` meets its contract. Assumes nothing.
use native.Mathlib.Omega.{arith}
use mathlib.Core.List.{[], ◌∷◌}
use Rattle.plantext.proofs.Printing.{puts_line, spaced_fits}
use Rattle.plantext.proofs.Printer.put_number_line.Goals as goal

pub put_text-requires : goal.put_text-requires
put_text-requires c = let h = spaced_fits (c.args.n ∷ []) in omega arith

pub returns : goal.returns
returns c = puts_line _ _ c.put_name.ensures c.put_item.ensures c.put_text.ensures
