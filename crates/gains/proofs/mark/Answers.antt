-- `gains::mark` meets its contract. Assumes nothing.
use mathlib.Core.Bool.{and-false}
use Prim.Native.Nat.{◌≤◌, ◌<◌}
use borrow.Author.Tests.{lt-ltb, le-ltb, le-leb, lt-leb}
use Rattle.gains.specs.Gains.{endbap, gaqbin_of}
use Rattle.gains.proofs.mark.Goals as goal

pub returns-then-end_of-h : goal.returns-then-end_of-h
unfolding gaqbin_of
returns-then-end_of-h c = let a = c.args in
    let h : endbap a.gaqmod ≤ a.h = rw c.end_of.ensures at c.if-end_of-h.true in
    simp (le-ltb _ _ h, and-false, le-leb _ _ h)

pub returns-then-h-gt7 : goal.returns-then-h-gt7
unfolding gaqbin_of
returns-then-h-gt7 c = let a = c.args in
    let h : a.h < endbap a.gaqmod = rw c.end_of.ensures at c.if-end_of-h.false in
    simp (lt-ltb _ _ h, lt-ltb _ _ c.if-h-gt7.true)

pub returns-else-h-gt7 : goal.returns-else-h-gt7
unfolding gaqbin_of
returns-else-h-gt7 c = let a = c.args in
    let h : a.h < endbap a.gaqmod = rw c.end_of.ensures at c.if-end_of-h.false in
    simp (lt-leb _ _ h, le-ltb _ _ c.if-h-gt7.false)
