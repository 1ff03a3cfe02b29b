-- What the planner answered at a limit, and a plan's cause, it answers at a wider one. Assumes nothing.
use Prim.Native.Nat.{ℕ, ◌*◌, ◌≤◌, ◌<◌}
use mathlib.Core.Path.{◌≡◌, refl, sym, ◌∙◌, subst}
use mathlib.Core.Bool.{Bool, true, false, cond, not, ◌&&◌}
use mathlib.Core.List.{List}
use mathlib.Core.Logic.{inl, inr}
use native.Mathlib.Omega.{arith}
use lib.Dec.{eqb, ltb, lit<}
use lib.ListN.{length, get_or}
use lib.Ieee.{Float}
use Rattle.std.specs.Prelude.{Option, None, Some}
use Rattle.answers.specs.Answers.{answered, answer_number}
use Rattle.answers.specs.Causes.{number, cause_number, first_of}
use Rattle.answers.specs.declared.Refusal.{Refusal}
use Rattle.answers.specs.declared.Refusal.TheVariants.{Component, PlanMisfit}
use Rattle.answers.proofs.Numbers.{answered_number}
use Rattle.levels.specs.Component.{some_beyond, Later, Widened}
use Rattle.levels.proofs.Wider.{all_wider, tested, made_of}
use Rattle.channel.specs.Bins.{some_over}
use Rattle.channel.specs.Row.{six_of, row_cause}
use Rattle.channel.proofs.Over.{none_there, none_over}
use Rattle.channel.proofs.Rows.{row_cause_most}
use Rattle.planner.specs.Planning.{beyond_at, cause_up_to, plan_of, planned_up_to}
use Rattle.planner.specs.Fit.{plan_fits, plan_cause_up_to}
use Rattle.planner.specs.declared.Plan.{Plan}

-- ---- causes behind another
not_five : (n : ℕ) → Later n → n ≡ 5 → ⊥
not_five n (inl z) e = omega arith
not_five n (inr z) e = omega arith

module _ (rest : Option Refusal) (late : Later (cause_number rest)) where
  behind_five : (c : Option Refusal) → cause_number c ≡ 5 → cause_number (first_of c rest) ≡ 5
  behind_five None e = absurd (omega arith)
  behind_five (Some k) e = e

  five_only : (c : Option Refusal) → cause_number (first_of c rest) ≡ 5 → cause_number c ≡ 5
  five_only None e = absurd (not_five (cause_number rest) late e)
  five_only (Some k) e = e

  behind_late : (c : Option Refusal) → Later (cause_number c) → Later (cause_number (first_of c rest))
  behind_late None h = late
  behind_late (Some k) h = h

  pub behind_widened : (over : Bool) (c d : Option Refusal) → Widened cause_number over c d → Widened cause_number over (first_of c rest) (first_of d rest)
  behind_widened = made_of cause_number cause_number (λ c. first_of c rest) behind_five five_only behind_late

-- nothing, or a cause from 6 on
pub own_late : (fine : Bool) (k : Refusal) → 5 < number k → Later (cause_number (cond fine None (Some k)))
own_late true k h = inl refl
own_late false k h = inr h

-- ----
module _ (l l' : ℕ) (w : l ≤ l') (row : List ℕ) (start end : ℕ) (x : List Float) where
  bin_wider : (k : ℕ) → beyond_at l row x k ≡ false → beyond_at l' row x k ≡ false
  unfolding beyond_at
  bin_wider k = go (not (eqb (get_or row k 0) 0))
    where
      go : (t : Bool) → t && some_beyond l (six_of x k) ≡ false → t && some_beyond l' (six_of x k) ≡ false
      go true e = all_wider l l' w (six_of x k) e
      go false e = refl

  bins_wider : some_over (beyond_at l row x) start end ≡ false → some_over (beyond_at l' row x) start end ≡ false
  bins_wider e = none_over (beyond_at l' row x) start end (λ k a b. bin_wider k (none_there (beyond_at l row x) start end e k a b))

  -- the cause
  pub cause_widened : Widened cause_number (some_over (beyond_at l' row x) start end) (cause_up_to l row start end x) (cause_up_to l' row start end x)
  unfolding cause_up_to
  cause_widened = go (row_cause row start end (ltb (length x) (6 * end))) (row_cause_most row start end (ltb (length x) (6 * end)))
    where
      go : (k : Option Refusal) → cause_number k ≤ 4 → Widened cause_number (some_over (beyond_at l' row x) start end)
          (first_of k (cond (some_over (beyond_at l row x) start end) (Some Component) None)) (first_of k (cond (some_over (beyond_at l' row x) start end) (Some Component) None))
      go None m = tested cause_number (Some Component) None None refl (inl refl) (λ e. omega arith) true (some_over (beyond_at l row x) start end) (some_over (beyond_at l' row x) start end) bins_wider
      go (Some k) m = record { kept = λ e. refl; still = λ e w. refl; former = λ e w. absurd (omega arith) }

  -- and that of a plan
  pub plan_cause_widened : (p : Plan) → Widened cause_number (some_over (beyond_at l' row x) start end) (plan_cause_up_to l p row start end x) (plan_cause_up_to l' p row start end x)
  unfolding plan_cause_up_to
  plan_cause_widened p = behind_widened _ (own_late (plan_fits p row start end x) PlanMisfit (lit< tt)) _ _ _ cause_widened

  -- plan_aht_channel
  pub planned_widened : Widened answer_number (some_over (beyond_at l' row x) start end) (planned_up_to l row start end x) (planned_up_to l' row start end x)
  unfolding planned_up_to
  planned_widened =
      let p = plan_of row x start end in
      made_of cause_number answer_number (λ (c : Option Refusal). answered c p)
      (λ c e. answered_number c p ∙ e) (λ c e. sym (answered_number c p) ∙ e)
      (λ c h. subst Later (sym (answered_number c p)) h)
      (some_over (beyond_at l' row x) start end) (cause_up_to l row start end x) (cause_up_to l' row start end x) cause_widened
