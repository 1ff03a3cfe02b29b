-- `plantext::hex` meets its contract. Assumes nothing.
use borrow.Author.Tests.{le-leb, lt-leb}
use Rattle.plantext.specs.PlanText.{hex_of}
use Rattle.plantext.proofs.hex.Goals as goal

pub returns-then-d-ge10 : goal.returns-then-d-ge10
unfolding hex_of
returns-then-d-ge10 c = rw (le-leb 10 c.args.d c.if-d-ge10.true)

pub returns : goal.returns
unfolding hex_of
returns c = rw (lt-leb 10 c.args.d c.if-d-ge10.false)
