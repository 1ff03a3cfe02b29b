-- `plantext::Printer::put_hexes` meets its contract. Assumes nothing.
use native.Mathlib.Omega.{arith}
use Rattle.plantext.proofs.Printing.{hexes_none, hexes_room, hexes_turn}
use Rattle.plantext.proofs.Printer.put_hexes.Goals as goal

pub loop-byte-init : goal.loop-byte-init
loop-byte-init c = hexes_none c.args.self.now c.args.bytes.now (omega arith)

pub put_text-requires : goal.put_text-requires
put_text-requires c = let h = hexes_room c.args.bytes.now c.loop-byte.byte-index (omega arith) in omega arith

pub loop-byte-preserved : goal.loop-byte-preserved
loop-byte-preserved c =
    hexes_turn c.args.bytes.now c.loop-byte.byte-index _ _ (omega arith) c.loop-byte.invariant c.hex.ensures c.hex-in-loop-byte.ensures c.put_text.ensures
