-- `reader::whole_field::read_field` meets its contract. Assumes nothing.
use native.Mathlib.Omega.{arith}
use Rattle.answers.proofs.Numbers.{passed_on}
use Rattle.reader.proofs.Whole.{mode_stop, mode_few, field_read}
use Rattle.reader.proofs.whole_field.read_field.Goals as goal

pub returns-in_err-mode : goal.returns-in_err-mode
returns-in_err-mode c = let a = c.args in
    rw (passed_on c.from_residual.ensures) (mode_stop a.bins.row.now a.bins.start a.bins.end a.reader.now _ _ _ _ _ _ c.in_err-mode.ensures.reads)

pub overflow_cast-mode : goal.overflow_cast-mode
overflow_cast-mode c = let a = c.args in
    record { fits = omega (arith, mode_few a.bins.row.now a.bins.start a.bins.end a.reader.now _ _ c.in_ok-mode.ensures.reads) }

pub read_behind-requires : goal.read_behind-requires
read_behind-requires c = let a = c.args in mode_few a.bins.row.now a.bins.start a.bins.end a.reader.now _ _ c.in_ok-mode.ensures.reads

pub returns : goal.returns
returns c = let a = c.args in field_read a.bins.row.now a.bins.start a.bins.end a.reader.now _ _ c.in_ok-mode.ensures.reads _ _ _ _ _ _ c.read_behind.ensures
