-- `planner::plan_aht_channel` meets its contract. Assumes nothing.
use Rattle.answers.proofs.Numbers.{passed_on, held, none_held}
use Rattle.planner.specs.Work.{Within}
use Rattle.planner.proofs.Answer.{cause_none, planned_good, planned_refused}
use Rattle.planner.proofs.plan_aht_channel.Goals as goal
use Rattle.planner.proofs.plan_aht_channel.Goals.{In_ok-check_channel}

-- what the check that was passed says
within : (c : In_ok-check_channel) → let s = c.args in Within s.hebap.now s.start s.end s.x.now
within c = let s = c.args in (cause_none s.hebap.now s.start s.end s.x.now (none_held _ _ c.check_channel.ensures c.in_ok-check_channel.was)).0

pub returns-in_err-check_channel : goal.returns-in_err-check_channel
returns-in_err-check_channel c = let s = c.args in
    rw (passed_on c.from_residual.ensures) (planned_refused s.hebap.now s.start s.end s.x.now _ (held _ _ c.check_channel.ensures c.in_err-check_channel.was))

pub invariant_of-bins : goal.invariant_of-bins
invariant_of-bins c = let r = (within c).row_ok in record { ordered = r.ordered; few = r.few; rows = r.rows; known = r.known }

pub invariant_of-plan_bins : goal.invariant_of-plan_bins
invariant_of-plan_bins c = record { vectors = (within (goal.at.invariant_of-plan_bins c).In_ok-check_channel).vectors }

pub returns : goal.returns
returns c = let s = c.args in
    planned_good s.hebap.now s.start s.end s.x.now c.plan_bins.result c.plan_bins.ensures (none_held _ _ c.check_channel.ensures c.in_ok-check_channel.was)
