-- `quantiser::Steps::bin` meets its contract. Assumes nothing.
use Rattle.quantiser.specs.Quantise.{bin_picked}
use Rattle.quantiser.proofs.Steps.bin.Goals as goal

pub returns : goal.returns
unfolding bin_picked
returns c = let f = c.fill-sums.ensures in
    rw (f.0, f.1, f.2)
