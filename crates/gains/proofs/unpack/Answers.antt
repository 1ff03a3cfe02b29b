-- `gains::unpack` meets its contract. Assumes nothing.
use Rattle.gains.proofs.unpack.Goals as goal

pub returns : goal.returns
returns c = rw c.first_code.ensures
