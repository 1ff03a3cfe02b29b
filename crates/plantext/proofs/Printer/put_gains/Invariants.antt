-- `plantext::Printer::put_gains` meets its contract. Assumes nothing.
use lib.ListN.{take}
use Rattle.plantext.specs.PlanText.{spaced}
use Rattle.plantext.specs.Work.{Puts}
use Rattle.plantext.proofs.Printer.put_gains.Given as goal

abbrev pub invariant-loop-gain : goal.invariant-loop-gain
invariant-loop-gain l = Puts l.initial.self l.self (spaced (take l.gain-index l.gains))
