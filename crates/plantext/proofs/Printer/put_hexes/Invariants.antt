-- `plantext::Printer::put_hexes` meets its contract. Assumes nothing.
use lib.ListN.{take}
use Rattle.plantext.specs.PlanText.{hexes}
use Rattle.plantext.specs.Work.{Puts}
use Rattle.plantext.proofs.Printer.put_hexes.Given as goal

abbrev pub invariant-loop-byte : goal.invariant-loop-byte
invariant-loop-byte l = Puts l.initial.self l.self (hexes (take l.byte-index l.bytes))
