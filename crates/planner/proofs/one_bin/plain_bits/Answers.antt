-- `planner::one_bin::plain_bits` meets its contract. Assumes nothing.
use mathlib.Core.Path.{sym, ap, ◌∙◌}
use Prim.Native.Nat.{◌*◌}
use native.Mathlib.Omega.{arith}
use borrow.Author.Tests.{le-leb, lt-leb}
use Rattle.planner.specs.Work.{plain_bits}
use Rattle.planner.proofs.Codes.{mant_most}
use Rattle.planner.proofs.one_bin.plain_bits.Goals as goal

pub returns-then-hebap-le7 : goal.returns-then-hebap-le7
unfolding plain_bits
returns-then-hebap-le7 c = let s = c.args in c.vq_bits.ensures ∙ sym (rw (le-leb s.hebap 7 c.if-hebap-le7.true))

pub overflow_mul-result : goal.overflow_mul-result
overflow_mul-result c = let m = mant_most c.args.hebap in let e = c.mant.ensures in omega arith

pub returns : goal.returns
unfolding plain_bits
returns c = let s = c.args in ap (λ n. 6 * n) c.mant.ensures ∙ sym (rw (lt-leb s.hebap 7 c.if-hebap-le7.false))
