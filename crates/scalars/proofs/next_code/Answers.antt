-- `scalars::next_code` meets its contract. Assumes nothing.
use borrow.Author.Tests.{eq-eqb}
use Rattle.answers.proofs.Numbers.{passed_on}
use Rattle.tables.specs.Tables.{mant_bits}
use Rattle.levels.proofs.CodeLaws.{coded_one}
use Rattle.scalars.proofs.Ahead.{fixed_refused, fixed_takes}
use Rattle.scalars.proofs.next_code.Goals as goal

pub returns-in_err-read_u32 : goal.returns-in_err-read_u32
returns-in_err-read_u32 c = let a = c.args in
    rw (passed_on c.from_residual.ensures, coded_one (mant_bits a.hebap) a.gk (eq-eqb _ _ c.if-gk-eq1.true), ← c.mant-m.ensures)
    (fixed_refused c.mant-m.result a.reader.now _ _ c.in_err-read_u32.ensures.reads)

pub returns-then-gk-eq1 : goal.returns-then-gk-eq1
returns-then-gk-eq1 c = let a = c.args in
    rw (coded_one (mant_bits a.hebap) a.gk (eq-eqb _ _ c.if-gk-eq1.true), ← c.mant-m.ensures) (fixed_takes c.mant-m.result a.reader.now _ _ c.in_ok-read_u32.ensures.reads)
