-- `scalars::read_tagged` meets its contract. Assumes nothing.
use mathlib.Core.Path.{sym, ◌∙◌}
use Rattle.answers.proofs.Numbers.{passed_on}
use Rattle.scalars.proofs.Ahead.{first_refused, small_takes, second_refused, large_takes}
use Rattle.scalars.proofs.read_tagged.Goals as goal

pub returns-in_err-s : goal.returns-in_err-s
returns-in_err-s c = let a = c.args in rw (passed_on c.from_residual.ensures) (first_refused a.w a.v a.reader.now _ _ c.in_err-s.ensures.reads)

pub returns-then-s-pow2 : goal.returns-then-s-pow2
returns-then-s-pow2 c = let a = c.args in small_takes a.w a.v a.reader.now _ _ c.in_ok-s.ensures.reads (λ e. c.if-s-pow2.true (e ∙ sym c.pow2.ensures))

pub returns-in_err-read_u32 : goal.returns-in_err-read_u32
returns-in_err-read_u32 c = let a = c.args in
    rw (passed_on c.from_residual-in_err-read_u32.ensures)
    (second_refused a.w a.v a.reader.now _ _ _ c.in_ok-s.ensures.reads (c.if-s-pow2.false ∙ c.pow2.ensures) _ c.in_err-read_u32.ensures.reads)

pub returns : goal.returns
returns c = let a = c.args in large_takes a.w a.v a.reader.now _ _ _ c.in_ok-s.ensures.reads (c.if-s-pow2.false ∙ c.pow2.ensures) _ c.in_ok-read_u32.ensures.reads
