-- `planner::tally::Tally::payload` meets its contract. Assumes nothing.
use native.Mathlib.Omega.{arith}
use Rattle.planner.specs.Work.{payload_in}
use Rattle.planner.proofs.Steps.{word_small}
use Rattle.planner.proofs.tally.Tally.payload.Goals as goal

pub overflow_add-result-2 : goal.overflow_add-result-2
overflow_add-result-2 c = omega (arith, c.gain_word_bits.ensures, word_small c.args.mode c.args.self.now.count)

pub returns : goal.returns
unfolding payload_in
returns c = rw c.gain_word_bits.ensures
