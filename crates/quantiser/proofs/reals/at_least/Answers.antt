-- `quantiser::reals::at_least` meets its contract. Assumes nothing.
use Rattle.quantiser.proofs.Floats.{max_low, max_nan, max_same}
use Rattle.quantiser.proofs.reals.at_least.Goals as goal

pub returns-then-a : goal.returns-then-a
returns-then-a c = max_low c.args.a c.if-a.true

pub returns-then-a-2 : goal.returns-then-a-2
returns-then-a-2 c = max_nan c.args.a c.if-a-2.true

pub returns : goal.returns
returns c = max_same c.args.a c.if-a.false c.if-a-2.false
