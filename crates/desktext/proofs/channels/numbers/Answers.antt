-- `desktext::channels::numbers` meets its contract. Assumes nothing.
use mathlib.Core.Path.{◌≡◌, sym, ap, ◌∙◌}
use Rattle.std.proofs.Common.{rules, w32, to_z, of_z}
use Rattle.desktext.specs.Work.{part_in}
use Rattle.desktext.proofs.Forms.{numbers_end, numbers_other, numbers_named, run_end, run_close, run_off, run_more}
use Rattle.desktext.proofs.channels.numbers.Goals as goal

pub returns-in_err-first : goal.returns-in_err-first
returns-in_err-first c = ap part_in c.from_residual.ensures ∙ sym (numbers_end _ _ _ _ c.in_err-first.ensures.cases)

pub returns-then-not-opens : goal.returns-then-not-opens
returns-then-not-opens c = sym (numbers_other _ _ _ _ _ _ c.in_ok-first.ensures.cases.0 (sym c.if-not-opens.ensures))

pub loop-n-init : goal.loop-n-init
loop-n-init c =
    let a = c.args in
    let l : to_z w32 (of_z w32 a.low) ≡ a.low = search rules in
    let h : to_z w32 (of_z w32 a.high) ≡ a.high = search rules in
    rw (l, h) (numbers_named _ _ _ _ _ _ c.in_ok-first.ensures.cases.0 (sym c.if-not-opens.ensures))

pub returns-in-Close : goal.returns-in-Close
returns-in-Close c =
    let a = c.args in
    let l : to_z w32 (of_z w32 a.low) ≡ a.low = search rules in
    let h : to_z w32 (of_z w32 a.high) ≡ a.high = search rules in
    sym (run_close a.low a.high _ _ _ (rw (l, h) at c.loop-n.invariant) c.loop-n-test.true _ c.in-Close.is)

pub returns-then-not-is_within : goal.returns-then-not-is_within
returns-then-not-is_within c =
    let a = c.args in
    let l : to_z w32 (of_z w32 a.low) ≡ a.low = search rules in
    let h : to_z w32 (of_z w32 a.high) ≡ a.high = search rules in
    sym (run_off a.low a.high _ _ _ (rw (l, h) at c.loop-n.invariant) c.loop-n-test.true _ c.in_default.not-Close (rw (l, h) at (sym c.if-not-is_within.ensures)))

pub loop-n-preserved : goal.loop-n-preserved
loop-n-preserved c =
    let a = c.args in
    let l : to_z w32 (of_z w32 a.low) ≡ a.low = search rules in
    let h : to_z w32 (of_z w32 a.high) ≡ a.high = search rules in
    rw (l, h) (run_more a.low a.high _ _ _ (rw (l, h) at c.loop-n.invariant) c.loop-n-test.true _ c.in_default.not-Close (rw (l, h) at (sym c.if-not-is_within.ensures)))

pub returns : goal.returns
returns c =
    let a = c.args in
    let l : to_z w32 (of_z w32 a.low) ≡ a.low = search rules in
    let h : to_z w32 (of_z w32 a.high) ≡ a.high = search rules in
    sym (run_end a.low a.high _ _ _ (rw (l, h) at c.loop-n.invariant) c.loop-n-test.false)
