-- `planner::check_channel` meets its contract. Assumes nothing.
use mathlib.Core.Path.{sym, ◌∙◌}
use mathlib.Core.Bool.{true, false}
use Rattle.answers.proofs.Numbers.{passed_on, held, none_held}
use Rattle.planner.specs.Work.{Within}
use Rattle.planner.proofs.Answer.{cause_row, cause_rest, cause_within}
use Rattle.planner.proofs.check_channel.Goals as goal
use Rattle.planner.proofs.check_channel.Goals.{In_ok-check_row}

-- what the tests that were passed say
within : (c : In_ok-check_row) → let s = c.args in Within s.hebap.now s.start s.end s.x.now
within c = let s = c.args in cause_within s.hebap.now s.start s.end s.x.now (none_held _ _ c.check_row.ensures c.in_ok-check_row.was)

pub returns-in_err-check_row : goal.returns-in_err-check_row
returns-in_err-check_row c = let s = c.args in
    rw (passed_on c.from_residual.ensures, cause_row s.hebap.now s.start s.end s.x.now _ (held _ _ c.check_row.ensures c.in_err-check_row.was))

pub invariant_of-bins : goal.invariant_of-bins
invariant_of-bins c = let r = (within c).row_ok in record { ordered = r.ordered; few = r.few; rows = r.rows; known = r.known }

pub invariant_of-v : goal.invariant_of-v
invariant_of-v c = record { vectors = (within (goal.at.invariant_of-v c).In_ok-check_row).vectors }

pub returns-then-any_too_large : goal.returns-then-any_too_large
returns-then-any_too_large c = let s = c.args in
    rw (cause_rest s.hebap.now s.start s.end s.x.now (none_held _ _ c.check_row.ensures c.in_ok-check_row.was) true (sym c.any_too_large.ensures ∙ c.if-any_too_large.true))

pub returns : goal.returns
returns c = let s = c.args in
    rw (cause_rest s.hebap.now s.start s.end s.x.now (none_held _ _ c.check_row.ensures c.in_ok-check_row.was) false (sym c.any_too_large.ensures ∙ c.if-any_too_large.false))
