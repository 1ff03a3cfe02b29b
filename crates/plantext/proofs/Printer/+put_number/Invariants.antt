-- A call of `plantext::put_number` within it has one place less.
use Rattle.plantext.proofs.Printer.+put_number.Given as goal

abbrev pub decreases-put_number : goal.decreases-put_number
decreases-put_number l = l.places
