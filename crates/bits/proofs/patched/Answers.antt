-- `bits::patched` meets its contract. Assumes nothing.
use native.Mathlib.Omega.{arith}
use lib.Pow.{pow_pos}
use Rattle.bits.specs.Work.{byte_with}
use Rattle.bits.proofs.Laws.{Small, byte_small}
use Rattle.bits.proofs.patched.Goals as goal
use Rattle.bits.proofs.patched.Goals.{Start}

small : (c : Start) → Small c.args.x c.args.r c.args.c c.args.w
small c = byte_small _ _ _ _ c.ranges.x.fits c.requires.0 c.requires.1

pub overflow_mul-result : goal.overflow_mul-result
overflow_mul-result c = let s = small (goal.at.overflow_mul-result c).Start in record { fits = rw (c.from-o.ensures, c.pow2.ensures) (omega arith) }

pub overflow_add-result-2 : goal.overflow_add-result-2
overflow_add-result-2 c = let s = small (goal.at.overflow_add-result-2 c).Start in record { fits = rw (c.from-o.ensures, c.pow2.ensures) (omega arith) }

pub overflow_mul-result-2 : goal.overflow_mul-result-2
overflow_mul-result-2 c = let s = small (goal.at.overflow_mul-result-2 c).Start in record { fits = rw (c.from-o.ensures, c.pow2.ensures, c.pow2-2.ensures) (omega arith) }

pub nonzero_rem-result : goal.nonzero_rem-result
nonzero_rem-result c = rw c.pow2-3.ensures (pow_pos _)

pub overflow_add-result-3 : goal.overflow_add-result-3
overflow_add-result-3 c = let s = small (goal.at.overflow_add-result-3 c).Start in
    record { fits = rw (c.from-o.ensures, c.pow2.ensures, c.pow2-2.ensures, c.pow2-3.ensures) (omega arith) }

pub overflow_cast-result : goal.overflow_cast-result
overflow_cast-result c = let s = small (goal.at.overflow_cast-result c).Start in
    record { fits = rw (c.from-o.ensures, c.pow2.ensures, c.pow2-2.ensures, c.pow2-3.ensures) (omega arith) }

pub returns : goal.returns
unfolding byte_with
returns c = rw (c.from-o.ensures, c.pow2.ensures, c.pow2-2.ensures, c.pow2-3.ensures)
