-- `desktext::form` and `desktext::item` meet their contracts, which are one: what was read so far, with what is read
-- from here, is the whole. Assumes nothing.
use native.Mathlib.Omega.{arith}
use Prim.Native.Nat.{ℕ, ◌-◌}
use mathlib.Core.Path.{◌≡◌, subst}
use lib.ListN.{length-set}
use Rattle.desktext.specs.Work.{StepReads}
use Rattle.desktext.proofs.Eaten.{item_eats}
use Rattle.desktext.proofs.Signed.{bracket_large, number_small}
use Rattle.desktext.proofs.Steps.{on_close_lem, on_number, on_form, on_deep, on_none, form_goes}
use Rattle.desktext.proofs.tokens.+form_item.Goals as goal

pub form-returns-in-Some-clause-reads : goal.form-returns-in-Some-clause-reads
form-returns-in-Some-clause-reads t c = λ s h.
    let l = c.loop-t in
    let a = l.invariant.2 in
    let b = l.invariant.3 in
    let r = c.requires.1 in
    on_close_lem s l.rest.now c.args.levels l.m l.out c.requires.0 (l.invariant.0 s h) _ _ c.in-Some.ensures.onward.0 (omega arith) c.in-Some.ensures.shown

pub item-returns-in_err-t-clause-reads : goal.item-returns-in_err-t-clause-reads
item-returns-in_err-t-clause-reads t c = λ s h. rw c.from_residual.ensures (on_none s _ _ _ _ c.requires.0 h c.requires.2 c.in_err-t.ensures.shown)

pub item-returns-in-Number-clause-reads : goal.item-returns-in-Number-clause-reads
item-returns-in-Number-clause-reads t c = λ s h.
    let p = c.requires in
    let f = c.in_ok-t.ensures in
    on_number s _ _ _ _ p.0 h _ _ f.onward.0 (omega arith) p.2 f.shown (number_small _ _ c.in-Number.is f.onward.1)

pub item-returns-in-Number-clause-goes : goal.item-returns-in-Number-clause-goes
item-returns-in-Number-clause-goes t c =
    let f = c.in_ok-t.ensures in
    let l = (item_eats _ _ _ f.shown).0 in
    (f.onward.0, omega arith)

pub item-form-requires : goal.item-form-requires
item-form-requires t c =
    let f = c.in_ok-t.ensures in
    let l = (item_eats _ _ _ f.shown).1 (bracket_large _ c.in_default.not-Number) in
    let r = c.requires in
    (omega arith, (omega arith, rw length-set (omega arith)))

pub item-returns-then-levels-eq0 : goal.item-returns-then-levels-eq0
item-returns-then-levels-eq0 t c =
    let p = c.requires in
    let f = c.in_ok-t.ensures in
    record {
      goes = tt;
      reads = λ s h. on_deep s _ _ _ _ p.0 h _ _ p.2 f.shown (bracket_large _ c.in_default.not-Number) c.if-levels-eq0.true;
    }

pub item-returns : goal.item-returns
item-returns t c =
    let p = c.requires in
    let f = c.in_ok-t.ensures in
    let n = c.args.levels in
    let i = p.0 in
    let j = c.if-levels-eq0.false in
    let e : 3 - (n - 1) ≡ 4 - n = omega arith in
    let l = (item_eats _ _ _ f.shown).1 (bracket_large _ c.in_default.not-Number) in
    record {
      goes = form_goes _ _ _ 1 0 _ f.onward.0 (omega arith) c.form.ensures.goes;
      reads = λ s h. subst (λ (k : ℕ). StepReads s k c.form.new.out c.form.result) e (c.form.ensures.reads s (on_form s _ _ _ _ p.0 h _ _ f.onward.0 (omega arith) p.2 f.shown (bracket_large _ c.in_default.not-Number) (omega arith)));
    }
