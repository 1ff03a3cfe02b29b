-- `gains::coding_of` meets its contract. Assumes nothing.
use mathlib.Core.Bool.{true, false}
use mathlib.Core.Path.{◌∙◌, sym}
use borrow.Author.Tests.{lt-ltb, le-ltb}
use native.Mathlib.Omega.{arith}
use Rattle.gains.proofs.Cases.{active_few, active_many, active_high, coding_nothing, coding_book, coding_scalar}
use Rattle.gains.proofs.coding_of.Goals as goal

pub returns-in-0 : goal.returns-in-0
returns-in-0 c = let a = c.args in coding_nothing a.gaqmod a.hebap c.in-0.is

pub returns-in-1-to-7 : goal.returns-in-1-to-7
returns-in-1-to-7 c = let a = c.args in coding_book a.gaqmod a.hebap (omega arith) (omega arith)

pub returns-then-gaqmod-gt0 : goal.returns-then-gaqmod-gt0
returns-then-gaqmod-gt0 c = let a = c.args in
    coding_scalar a.gaqmod a.hebap (omega arith) true (sym (lt-ltb 0 _ c.if-gaqmod-gt0.true) ∙ active_few a.gaqmod a.hebap (omega arith) (omega arith))

pub returns-else-gaqmod-gt0 : goal.returns-else-gaqmod-gt0
returns-else-gaqmod-gt0 c = let a = c.args in
    coding_scalar a.gaqmod a.hebap (omega arith) false (sym (le-ltb 0 _ c.if-gaqmod-gt0.false) ∙ active_few a.gaqmod a.hebap (omega arith) (omega arith))

pub returns-then-gaqmod-gt1 : goal.returns-then-gaqmod-gt1
returns-then-gaqmod-gt1 c = let a = c.args in
    coding_scalar a.gaqmod a.hebap (omega arith) true (sym (lt-ltb 1 _ c.if-gaqmod-gt1.true) ∙ active_many a.gaqmod a.hebap (omega arith) (omega arith))

pub returns-else-gaqmod-gt1 : goal.returns-else-gaqmod-gt1
returns-else-gaqmod-gt1 c = let a = c.args in
    coding_scalar a.gaqmod a.hebap (omega arith) false (sym (le-ltb 1 _ c.if-gaqmod-gt1.false) ∙ active_many a.gaqmod a.hebap (omega arith) (omega arith))

pub returns-in_default : goal.returns-in_default
returns-in_default c = let a = c.args in coding_scalar a.gaqmod a.hebap (omega arith) false (active_high a.gaqmod a.hebap (omega arith))
