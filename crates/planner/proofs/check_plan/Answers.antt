-- `planner::check_plan` meets its contract. Assumes nothing.
use mathlib.Core.Path.{sym, ◌∙◌}
use Rattle.answers.proofs.Numbers.{passed_on, held, none_held}
use Rattle.planner.specs.Work.{Within}
use Rattle.planner.proofs.Answer.{cause_none, plan_cause_row, plan_cause_fit}
use Rattle.planner.proofs.check_plan.Goals as goal
use Rattle.planner.proofs.check_plan.Goals.{In_ok-check_channel}

-- what the check that was passed says
within : (c : In_ok-check_channel) → let a = c.args in Within a.hebap.now a.start a.end a.x.now
within c = let a = c.args in (cause_none a.hebap.now a.start a.end a.x.now (none_held _ _ c.check_channel.ensures c.in_ok-check_channel.was)).0

pub returns-in_err-check_channel : goal.returns-in_err-check_channel
returns-in_err-check_channel c = let a = c.args in
    rw (passed_on c.from_residual.ensures, plan_cause_row a.p a.hebap.now a.start a.end a.x.now _ (held _ _ c.check_channel.ensures c.in_err-check_channel.was))

pub invariant_of-bins : goal.invariant_of-bins
invariant_of-bins c = let r = (within c).row_ok in record { ordered = r.ordered; few = r.few; rows = r.rows; known = r.known }

pub invariant_of-plan_fits : goal.invariant_of-plan_fits
invariant_of-plan_fits c = record { vectors = (within (goal.at.invariant_of-plan_fits c).In_ok-check_channel).vectors }

pub returns-then-not-plan_fits : goal.returns-then-not-plan_fits
returns-then-not-plan_fits c = let a = c.args in
    rw (plan_cause_fit a.p a.hebap.now a.start a.end a.x.now _ (none_held _ _ c.check_channel.ensures c.in_ok-check_channel.was) (sym c.if-not-plan_fits.true ∙ c.plan_fits.ensures))

pub returns : goal.returns
returns c = let a = c.args in
    rw (plan_cause_fit a.p a.hebap.now a.start a.end a.x.now _ (none_held _ _ c.check_channel.ensures c.in_ok-check_channel.was) (sym c.if-not-plan_fits.false ∙ c.plan_fits.ensures))
