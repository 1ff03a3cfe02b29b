-- `desktext::tokens::tokens_in` meets its contract. Assumes nothing.
use native.Mathlib.Omega.{arith}
use mathlib.Core.Path.{◌≡◌, ◌∙◌}
use lib.ListN.{length, length-set}
use Rattle.desktext.proofs.Eaten.{named_eats}
use Rattle.desktext.proofs.Steps.{begin_form, begin_none, all_read, none_read}
use Rattle.desktext.proofs.tokens.tokens_in.Goals as goal

pub returns-in_err-t : goal.returns-in_err-t
returns-in_err-t c = rw c.from_residual.ensures (begin_none _ c.in_err-t.ensures.shown)

pub form-requires : goal.form-requires
form-requires c =
    let l = named_eats _ _ _ c.in_ok-t.ensures.shown in
    let r = c.requires in
    (omega arith, rw length-set (omega arith))

pub returns-in_err-end : goal.returns-in_err-end
returns-in_err-end c =
    let f = c.in_ok-t.ensures in
    let h = begin_form _ _ _ c.args.out.now f.shown f.onward.0 c.requires in
    rw c.from_residual-in_err-end.ensures (c.in_err-end.ensures.reads _ h)

pub returns-then-is_end : goal.returns-then-is_end
returns-then-is_end c =
    let f = c.in_ok-t.ensures in
    let p = named_eats _ _ _ f.shown in
    let h = begin_form _ _ _ c.args.out.now f.shown f.onward.0 c.requires in
    let g = c.in_ok-end.ensures.goes in
    let a = g.1 in
    let r = c.requires in
    let l : length c.form.new.out ≡ length c.args.out.now = c.form.auto.out ∙ simp length-set in
    (all_read _ _ _ _ (c.in_ok-end.ensures.reads _ h) (rw (c.if-is_end.true) at c.is_end.ensures), omega arith)

pub returns-else-is_end : goal.returns-else-is_end
returns-else-is_end c =
    let f = c.in_ok-t.ensures in
    let h = begin_form _ _ _ c.args.out.now f.shown f.onward.0 c.requires in
    none_read _ _ _ _ (c.in_ok-end.ensures.reads _ h) (rw (c.if-is_end.false) at c.is_end.ensures)
