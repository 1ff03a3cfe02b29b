-- `writer::write_aht_channel` meets its contract. Assumes nothing.
use native.Mathlib.Omega.{arith}
use borrow.Author.Rules.{rules}
use borrow.Author.Tests.{leb-true, leb-false}
use Prim.Native.Nat.{◌+◌, ◌*◌, ◌≤◌, ◌<◌}
use mathlib.Core.Path.{◌≡◌, sym, ◌∙◌}
use lib.ListN.{length}
use lib.Seq.{length-take-le}
use Rattle.std.specs.Prelude.{None}
use Rattle.answers.proofs.Numbers.{passed_on, held, none_held}
use Rattle.bits.specs.Bits.{bit_at}
use Rattle.planner.specs.Planning.{total_of}
use Rattle.planner.specs.Fit.{plan_cause}
use Rattle.planner.proofs.Answer.{Fitting, plan_cause_none, plan_fitting}
use Rattle.writer.specs.Written.{field_of}
use Rattle.writer.proofs.Planned.{fits_long}
use Rattle.writer.proofs.Call.{call_cause, call_short, call_put}
use Rattle.writer.proofs.write_aht_channel.Goals as goal
use Rattle.writer.proofs.write_aht_channel.Goals.{In_ok-check_plan, Else-not-has_bits}

-- no cause stands against the plan
none : (c : In_ok-check_plan) → let a = c.args in plan_cause a.plan a.hebap.now a.start a.end a.x.now ≡ None
none c = none_held _ _ c.check_plan.ensures c.in_ok-check_plan.was

-- so it fits
fit : (c : In_ok-check_plan) → let a = c.args in Fitting a.plan a.hebap.now a.start a.end a.x.now
fit c = let a = c.args in plan_fitting a.plan a.hebap.now a.start a.end a.x.now (search rules) (none c)

-- and its field is as long as its total
long : (c : In_ok-check_plan) → let a = c.args in length (field_of a.plan a.hebap.now a.start a.end a.x.now) ≡ total_of a.plan
long c =
    let a = c.args in
    let f = plan_cause_none a.plan a.hebap.now a.start a.end a.x.now (none c) in
    fits_long a.plan a.hebap.now a.start a.end a.x.now (search rules) f.0 f.1

-- the output has room for the field
room : (c : Else-not-has_bits) → let a = c.args in bit_at a.pos + total_of a.plan ≤ 8 * length a.out.now
room c =
    let a = c.args in
    let h : bit_at a.pos + 1 * total_of a.plan ≤ 8 * length a.out.now = leb-true _ _ (sym c.has_bits.ensures ∙ c.if-not-has_bits.false) in
    omega arith

pub returns-in_err-check_plan : goal.returns-in_err-check_plan
returns-in_err-check_plan c =
    let a = c.args in
    let both = call_cause a.plan a.hebap.now a.start a.end a.x.now a.out.now (bit_at a.pos) _ (held _ _ c.check_plan.ensures c.in_err-check_plan.was) in
    rw (passed_on c.from_residual.ensures) record { value = both.0; out_after = both.1 }

pub returns-then-not-has_bits : goal.returns-then-not-has_bits
returns-then-not-has_bits c =
    let a = c.args in
    let over : 8 * length a.out.now < bit_at a.pos + 1 * total_of a.plan = leb-false _ _ (sym c.has_bits.ensures ∙ c.if-not-has_bits.true) in
    let both = call_short a.plan a.hebap.now a.start a.end a.x.now a.out.now (bit_at a.pos) (none (goal.at.returns-then-not-has_bits c).In_ok-check_plan) (omega arith) in
    record { value = both.0; out_after = both.1 }

pub slice_bounds-gains-end : goal.slice_bounds-gains-end
slice_bounds-gains-end c = sym (length-take-le c.args.plan.count c.args.plan.gains (fit (goal.at.slice_bounds-gains-end c).In_ok-check_plan).room)

pub shared_ref_as_front-gains : goal.shared_ref_as_front-gains
shared_ref_as_front-gains c = let r = (fit (goal.at.shared_ref_as_front-gains c).In_ok-check_plan).room in search rules

pub invariant_of-bins : goal.invariant_of-bins
invariant_of-bins c = let r = (fit (goal.at.invariant_of-bins c).In_ok-check_plan).within.row_ok in
    record { ordered = r.ordered; few = r.few; rows = r.rows; known = r.known }

pub invariant_of-write_field : goal.invariant_of-write_field
invariant_of-write_field c = record { vectors = (fit (goal.at.invariant_of-write_field c).In_ok-check_plan).within.vectors }

pub write_field-requires : goal.write_field-requires
write_field-requires c =
    let d = goal.at.write_field-requires c in
    let f = fit d.In_ok-check_plan in
    let w = c.new-writer.ensures in
    record { choice = f.choice; room = rw (w.place, w.bytes) (omega (arith, long d.In_ok-check_plan, room d.Else-not-has_bits)) }

pub returns : goal.returns
returns c =
    let a = c.args in
    let d = goal.at.returns c in
    let w = c.new-writer.ensures in
    let both =
    call_put a.plan a.hebap.now a.start a.end a.x.now a.out.now (bit_at a.pos) (none d.In_ok-check_plan) (room d.Else-not-has_bits) (long d.In_ok-check_plan) _ _ w.place w.bytes
    c.write_field.ensures _ (search rules) (λ i k. (c.type_inv.out i).fits) in
    record { value = both.0; out_after = both.1 }
