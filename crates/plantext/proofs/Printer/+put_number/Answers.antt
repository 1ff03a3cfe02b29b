-- `plantext::Printer::put_number` meets its contract. Assumes nothing.
use native.Mathlib.Omega.{arith}
use Prim.Native.Nat.{◌-◌, ◌/◌}
use Rattle.plantext.proofs.Printing.{decimal_fits, number_none, number_digit, number_more}
use Rattle.plantext.proofs.Printer.+put_number.Goals as goal
use Rattle.plantext.proofs.Printer.+put_number.Goals.{then-n-ge10, else-n-ge10}

pub returns-then-places-eq0 : goal.returns-then-places-eq0
returns-then-places-eq0 t c = rw c.if-places-eq0.true (number_none c.args.n (omega arith))

pub put_byte-requires : goal.put_byte-requires
put_byte-requires t c = elim c.if-n-ge10.branch [
  | then-n-ge10 w ↦ let f = decimal_fits (c.args.places - 1) (c.args.n / 10) in rw w.self-is (omega arith)
  | else-n-ge10 w ↦ rw w.self-is (omega arith)
]

pub returns : goal.returns
returns t c = elim c.if-n-ge10.branch [
  | then-n-ge10 w ↦ number_more c.args.n c.args.places (omega arith) w.if-n-ge10.true w.put_number.ensures (rw w.self-is at c.put_byte.ensures)
  | else-n-ge10 w ↦ number_digit c.args.n c.args.places (omega arith) w.if-n-ge10.false (rw w.self-is at c.put_byte.ensures)
]
