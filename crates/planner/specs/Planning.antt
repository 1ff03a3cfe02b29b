-- What plan_aht_channel answers: a plan, or a refusal. docs/FORMAT.md, Planner, 'Causes and refusals' (1 to 5, the
-- lowest number that holds), and Writer (gains as Gk in bin order, unused places 0).
use Rattle.std.specs.Prelude.{ℕ, ◌+◌, ◌*◌, Bool, cond, not, ◌&&◌, List, ◌++◌, eqb, ltb, length, get_or, take, drop, Float, Option, None, Some, Result}
use Rattle.answers.specs.Answers.{answered, value_or}
use Rattle.answers.specs.Causes.{first_of}
use Rattle.answers.specs.declared.Refusal.{Refusal}
use Rattle.answers.specs.declared.Refusal.TheVariants.{Component}
use Rattle.levels.specs.Component.{some_beyond, largest_size}
use Rattle.channel.specs.Bins.{some_over}
use Rattle.channel.specs.Row.{no_gains, six_of, row_cause}
use Rattle.planner.specs.Choice.{plan_mode, plan_gains, plan_payload}
use Rattle.planner.specs.declared.Plan.{Plan}

-- ---- the cause
-- 5 at the bin k: a component beyond the limit, and hebap not 0
unfoldable pub beyond_at : ℕ → List ℕ → List Float → ℕ → Bool
beyond_at limit row x k = not (eqb (get_or row k 0) 0) && some_beyond limit (six_of x k)

-- 1 to 5: the lowest that holds, if one does
unfoldable pub cause_up_to : ℕ → List ℕ → ℕ → ℕ → List Float → Option Refusal
cause_up_to limit row start end x =
    first_of (row_cause row start end (ltb (length x) (6 * end))) (cond (some_over (beyond_at limit row x) start end) (Some Component) None)

-- at the limit that holds
abbrev pub too_large_at : List ℕ → List Float → ℕ → Bool
too_large_at = beyond_at largest_size

abbrev pub cause_of : List ℕ → ℕ → ℕ → List Float → Option Refusal
cause_of = cause_up_to largest_size

-- ---- the answer
-- gains in bin order, unused places 0
unfoldable pub plan_of : List ℕ → List Float → ℕ → ℕ → Plan
plan_of row x start end = record {
  mode = plan_mode row x start end;
  gains = plan_gains row x start end ++ drop (length (plan_gains row x start end)) no_gains;
  count = length (plan_gains row x start end);
  payload = plan_payload row x start end;
}

-- the gains of a plan; its other places are not looked at
abbrev pub gains_of : Plan → List ℕ
gains_of p = take p.count p.gains

-- the total: the two bits of the mode and the payload
abbrev pub total_of : Plan → ℕ
total_of p = 2 + p.payload

unfoldable pub planned_up_to : ℕ → List ℕ → ℕ → ℕ → List Float → Result Plan Refusal
planned_up_to limit row start end x = answered (cause_up_to limit row start end x) (plan_of row x start end)

abbrev pub planned : List ℕ → ℕ → ℕ → List Float → Result Plan Refusal
planned = planned_up_to largest_size

-- what stands beside a refusal
abbrev pub no_plan : Plan
no_plan = record { mode = 0; gains = no_gains; count = 0; payload = 0 }

-- the plan that is answered; zeros where there is none
abbrev pub plan_answered : List ℕ → ℕ → ℕ → List Float → Plan
plan_answered row start end x = value_or no_plan (planned row start end x)
