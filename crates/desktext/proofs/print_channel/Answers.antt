-- `desktext::print_channel` meets its contract. Assumes nothing.
use native.Mathlib.Nat.{le_of_eq}
use mathlib.Core.Path.{◌≡◌, refl, sym, ◌∙◌}
use Rattle.answers.proofs.Numbers.{passed_on}
use Rattle.desktext.specs.Desk.{view_of, plan_answer}
use Rattle.desktext.specs.Work.{Given}
use Rattle.desktext.proofs.Answers.{plan_refused, plan_shown, pages_given}
use Rattle.desktext.proofs.print_channel.Goals as goal
use Rattle.desktext.proofs.print_channel.Goals.{In_ok-plan}

-- the plan is the planner's
given : (c : In_ok-plan) → let a = c.args in Given c.in_ok-plan.plan a.row.now a.start a.end a.x.now
given c = sym c.plan_aht_channel.ensures ∙ c.in_ok-plan.was

-- and its view is what the answer shows
shown : (c : In_ok-plan) → let a = c.args in
    view_of a.view c.in_ok-plan.plan a.row.now a.start a.end a.x.now ≡ plan_answer a.view a.row.now a.start a.end a.x.now
shown c = let a = c.args in plan_shown a.view a.row.now a.start a.end a.x.now c.in_ok-plan.plan (given c)

pub returns-in_err-plan : goal.returns-in_err-plan
returns-in_err-plan c = let a = c.args in
    rw (passed_on c.from_residual.ensures) (plan_refused a.view a.row.now a.start a.end a.x.now _ (sym c.plan_aht_channel.ensures ∙ c.in_err-plan.was), refl)

pub returns-in-WithField : goal.returns-in-WithField
returns-in-WithField c =
    let e = rw c.in-WithField.is at (shown (goal.at.returns-in-WithField c).In_ok-plan) in
    rw (c.in-WithField.is, sym e) c.print_with_field.ensures

pub returns-in-OnPages : goal.returns-in-OnPages
returns-in-OnPages c =
    let a = c.args in
    let d = (goal.at.returns-in-OnPages c).In_ok-plan in
    let e = rw c.in-OnPages.is at (shown d) in
    let u = c.print_pages.ensures in
    rw (c.in-OnPages.is, sym e) (pages_given c.in_ok-plan.plan a.row.now a.start a.end a.x.now (given d) a.out.now (le_of_eq (sym c.told-out)) _ _ u.value u.out_after)
