-- `gains::end_of` meets its contract. Assumes nothing.
use native.Mathlib.Omega.{arith}
use borrow.Author.Tests.{lt-ltb, le-ltb}
use Rattle.gains.specs.Gains.{endbap}
use Rattle.gains.proofs.end_of.Goals as goal

pub returns-then-gaqmod-lt-WIDE_FROM : goal.returns-then-gaqmod-lt-WIDE_FROM
unfolding endbap
returns-then-gaqmod-lt-WIDE_FROM c = simp (lt-ltb c.args.gaqmod 2 (omega arith))

pub returns-else-gaqmod-lt-WIDE_FROM : goal.returns-else-gaqmod-lt-WIDE_FROM
unfolding endbap
returns-else-gaqmod-lt-WIDE_FROM c = simp (le-ltb c.args.gaqmod 2 (omega arith))
