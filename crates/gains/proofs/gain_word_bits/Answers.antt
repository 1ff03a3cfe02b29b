-- `gains::gain_word_bits` meets its contract. Assumes nothing.
use borrow.Author.Tests.{ne_eqb}
use native.Mathlib.Nat.{mul_comm, one-mul}
use Rattle.gains.specs.Gains.{word_bits, sections, gain_word_bits}
use native.Mathlib.Omega.{arith}
use Rattle.gains.proofs.gain_word_bits.Goals as goal

pub returns-in-0 : goal.returns-in-0
unfolding gain_word_bits word_bits sections
returns-in-0 c = simp c.in-0.is

pub returns-in-3 : goal.returns-in-3
unfolding gain_word_bits word_bits sections
returns-in-3 c = simp (c.in-3.is, mul_comm 5)

pub returns-in_default : goal.returns-in_default
unfolding gain_word_bits word_bits sections
returns-in_default c = let m = c.args.gaqmod in simp (ne_eqb m 0 (omega arith), ne_eqb m 3 (omega arith), one-mul)
