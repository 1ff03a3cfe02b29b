-- `plantext::Printer::put_gains` meets its contract. Assumes nothing.
use native.Mathlib.Omega.{arith}
use Rattle.plantext.proofs.Printing.{spaced_none, spaced_room, spaced_turn}
use Rattle.plantext.proofs.Printer.put_gains.Goals as goal

pub loop-gain-init : goal.loop-gain-init
loop-gain-init c = spaced_none c.args.self.now c.args.gains.now (omega arith)

pub put_item-requires : goal.put_item-requires
put_item-requires c = let h = spaced_room c.args.gains.now c.loop-gain.gain-index (omega arith) in omega arith

pub loop-gain-preserved : goal.loop-gain-preserved
loop-gain-preserved c = spaced_turn c.args.gains.now c.loop-gain.gain-index (omega arith) c.loop-gain.invariant (rw c.from.ensures at c.put_item.ensures)
