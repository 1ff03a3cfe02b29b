-- `pages::put_number` meets its contract. Assumes nothing.
use borrow.Author.Rules.{rules}
use native.Mathlib.Omega.{arith}
use Rattle.pages.proofs.Cells.{number_none, number_digit, number_more}
use Rattle.pages.proofs.+put_number.Goals as goal
use Rattle.pages.proofs.+put_number.Goals.{then-n-lt10, else-n-lt10}

pub returns-then-places-eq0 : goal.returns-then-places-eq0
returns-then-places-eq0 t c = number_none c.args.out.now c.args.n c.if-places-eq0.true

pub returns : goal.returns
returns t c = let a = c.args in elim c.if-n-lt10.branch [
  | then-n-lt10 w ↦ rw w.out-is (number_digit a.out.now a.n (omega arith) w.fill.new.self w.if-n-lt10.true (w.fill.ensures.after (λ y h. search rules)))
  | else-n-lt10 w ↦ rw w.out-is (number_more a.out.now a.n (omega arith) w.put_number.new.out w.if-n-lt10.false w.put_number.ensures)
]
