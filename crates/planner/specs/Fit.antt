-- When a choice, and a plan, fits a row and its vectors, best or not; causes 1 to 6 of a plan. docs/FORMAT.md, Writer,
-- and 'Causes and refusals'.
use Rattle.std.specs.Prelude.{ℕ, Bool, cond, not, ◌&&◌, List, eqb, leb, get_or, Float, Option, None, Some}
use Rattle.answers.specs.Causes.{first_of}
use Rattle.answers.specs.declared.Refusal.{Refusal}
use Rattle.answers.specs.declared.Refusal.TheVariants.{PlanMisfit}
use Rattle.levels.specs.Component.{largest_size}
use Rattle.gains.specs.Gains.{allowed_gain}
use Rattle.channel.specs.Bins.{some_over}
use Rattle.channel.specs.Row.{active_count}
use Rattle.planner.specs.Choice.{payload_of}
use Rattle.planner.specs.Planning.{cause_up_to}
use Rattle.planner.specs.declared.Plan.{Plan}

-- the gain at place i is not allowed
unfoldable pub wrong_gain : ℕ → List ℕ → ℕ → Bool
wrong_gain mode gains i = not (allowed_gain mode (get_or gains i 0))

-- mode 0 to 3, and in the first count places a gain for each active bin, each allowed
unfoldable pub choice_fits : ℕ → List ℕ → ℕ → List ℕ → ℕ → ℕ → Bool
choice_fits mode gains count row start end =
    leb mode 3
    && (eqb count (active_count mode row start end)
    && not (some_over (wrong_gain mode gains) 0 count))

-- and the payload that they cost
unfoldable pub plan_fits : Plan → List ℕ → ℕ → ℕ → List Float → Bool
plan_fits p row start end x =
    choice_fits p.mode p.gains p.count row start end
    && eqb p.payload (payload_of p.mode p.gains row x start end)

-- 1 to 6, of every call that takes a plan: the lowest that holds, if one does
unfoldable pub plan_cause_up_to : ℕ → Plan → List ℕ → ℕ → ℕ → List Float → Option Refusal
plan_cause_up_to limit p row start end x =
    first_of (cause_up_to limit row start end x) (cond (plan_fits p row start end x) None (Some PlanMisfit))

abbrev pub plan_cause : Plan → List ℕ → ℕ → ℕ → List Float → Option Refusal
plan_cause = plan_cause_up_to largest_size
