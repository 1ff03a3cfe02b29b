-- `pages::print_pages` meets its contract. Assumes nothing.
use native.Mathlib.Omega.{arith}
use borrow.Author.Rules.{rules}
use mathlib.Core.Path.{◌≡◌, refl, sym, ◌∙◌}
use lib.ListN.{length}
use lib.Seq.{length-take-le}
use Rattle.std.specs.Prelude.{None}
use Rattle.answers.proofs.Numbers.{passed_on, held, none_held}
use Rattle.planner.specs.Fit.{plan_cause}
use Rattle.planner.proofs.Answer.{Fitting, plan_fitting}
use Rattle.pages.specs.Pages.{page_count}
use Rattle.pages.proofs.Lines.{place_end}
use Rattle.pages.proofs.Call.{places_enough, call_cause, call_short, call_good}
use Rattle.pages.proofs.print_pages.Goals as goal
use Rattle.pages.proofs.print_pages.Goals.{In_ok-check_plan}

-- what the tests that were passed say
none : (c : In_ok-check_plan) → let a = c.args in plan_cause a.plan a.hebap.now a.start a.end a.x.now ≡ None
none c = none_held _ _ c.check_plan.ensures c.in_ok-check_plan.was

fit : (c : In_ok-check_plan) → let a = c.args in Fitting a.plan a.hebap.now a.start a.end a.x.now
fit c =
    let a = c.args in
    plan_fitting a.plan a.hebap.now a.start a.end a.x.now (search rules) (none c)

pub returns-in_err-check_plan : goal.returns-in_err-check_plan
returns-in_err-check_plan c =
    let a = c.args in
    let both = call_cause a.plan a.hebap.now a.start a.end a.x.now a.out.now _ (held _ _ c.check_plan.ensures c.in_err-check_plan.was) in
    rw (passed_on c.from_residual.ensures) record { value = both.0; out_after = both.1 }

pub overflow_sub-lines : goal.overflow_sub-lines
overflow_sub-lines c = let r = (fit c).within.row_ok in search rules

pub overflow_add-lines : goal.overflow_add-lines
overflow_add-lines c = let r = (fit c).within.row_ok in let f = r.few in search rules

pub overflow_mul-lines : goal.overflow_mul-lines
overflow_mul-lines c = let f = (fit c).within.row_ok.few in search rules

pub overflow_mul-lines-2 : goal.overflow_mul-lines-2
overflow_mul-lines-2 c = let f = (fit c).within.row_ok.few in search rules

pub returns-then-out-lines : goal.returns-then-out-lines
unfolding page_count
returns-then-out-lines c = let a = c.args in let both = call_short a.plan a.hebap.now a.start a.end a.x.now a.out.now (none (goal.at.returns-then-out-lines c).In_ok-check_plan) (omega arith) in record { value = both.0; out_after = both.1 }

pub slice_bounds-gains-end : goal.slice_bounds-gains-end
slice_bounds-gains-end c = let p = c.args.plan in sym (length-take-le p.count p.gains (fit (goal.at.slice_bounds-gains-end c).In_ok-check_plan).room)

pub shared_ref_as_front-gains : goal.shared_ref_as_front-gains
shared_ref_as_front-gains c = let r = (fit (goal.at.shared_ref_as_front-gains c).In_ok-check_plan).room in search rules

pub invariant_of-bins : goal.invariant_of-bins
invariant_of-bins c = let r = (fit (goal.at.invariant_of-bins c).In_ok-check_plan).within.row_ok in record { ordered = r.ordered; few = r.few; rows = r.rows; known = r.known }

pub invariant_of-put_cells : goal.invariant_of-put_cells
invariant_of-put_cells c = record { vectors = (fit (goal.at.invariant_of-put_cells c).In_ok-check_plan).within.vectors }

pub put_cells-requires : goal.put_cells-requires
unfolding page_count
put_cells-requires c = let a = c.args in
    let e : length c.put_blank.new.out ≡ length a.out.now = c.put_blank.auto.out in
    let q = places_enough a.start a.end in
    let p = place_end _ _ q in
    omega arith

pub overflow_mul-result : goal.overflow_mul-result
overflow_mul-result c = let w = (fit (goal.at.overflow_mul-result c).In_ok-check_plan).within.row_ok.few in
    search rules

pub shape_of-out : goal.shape_of-out
shape_of-out c = c.put_cells.auto.out ∙ c.put_blank.auto.out

pub returns : goal.returns
unfolding page_count
returns c = let a = c.args in let both = call_good a.plan a.hebap.now a.start a.end a.x.now a.out.now (none (goal.at.returns c).In_ok-check_plan) _ c.put_blank.new.out c.put_cells.new.out refl (omega arith) c.put_blank.ensures c.put_cells.ensures in record { value = both.0; out_after = both.1 }
