-- What the planner answers, case by case. Assumes nothing.
use mathlib.Core.Path.{◌≡◌, refl, sym, ap, ◌∙◌}
use mathlib.Core.Bool.{Bool, true, false, not, ◌&&◌, cond}
use mathlib.Core.List.{List, ◌++◌}
use Prim.Native.Nat.{ℕ, ◌+◌, ◌*◌, ◌/◌, ◌≤◌, ◌<◌}
use native.Mathlib.Omega.{arith}
use borrow.Author.Tests.{lt-ltb, le-ltb, ltb-true, ltb-false, ne_eqb}
use lib.Dec.{eqb, ltb}
use lib.ListN.{length, get_or, drop, length-append}
use lib.Ieee.{Float}
use Rattle.std.specs.Prelude.{Option, None, Some, Result, Ok, Err}
use Rattle.answers.specs.Answers.{answer_number, value_or}
use Rattle.answers.specs.Causes.{number, cause_number, first_of}
use Rattle.answers.specs.declared.Refusal.{Refusal}
use Rattle.answers.specs.declared.Refusal.TheVariants.{Component, PlanMisfit}
use Rattle.answers.proofs.Numbers.{numbered, none_of, first_none, no_number, answered_number}
use Rattle.levels.specs.Component.{some_too_large}
use Rattle.bits.proofs.Tests.{both}
use Rattle.channel.specs.Bins.{some_over}
use Rattle.channel.specs.Row.{no_gains, six_of, row_cause}
use Rattle.channel.proofs.Rows.{row_ok, cause_4_or_none, count_most, row_cause_most}
use Rattle.planner.specs.Choice.{least_up_to, least_of, plan_mode, plan_gains, plan_payload, payload_of, choice_bits, Choice, gains_over}
use Rattle.planner.specs.Work.{tally_at, TalliesOf, payload_in, payload_at, Within}
use Rattle.planner.specs.declared.tally.Tally.{Tally}
use Rattle.planner.specs.Planning.{too_large_at, beyond_at, plan_of, cause_of, cause_up_to, planned, planned_up_to, plan_answered, total_of, gains_of}
use Rattle.planner.specs.Fit.{plan_fits, plan_cause, plan_cause_up_to}
use Rattle.planner.specs.declared.Plan.{Plan}
use Rattle.planner.proofs.Optimal.{first_least, least_same, gains_length, plan_choice, plan_least, plan_lowest}
use Rattle.planner.proofs.Tallies.{payload_is}
use Rattle.planner.proofs.Chosen.{fits_parts, fits_choice, plan_fits_lem}

-- ---- the plan of what was kept of the modes
module _ (row : List ℕ) (x : List Float) (start end plain : ℕ) (ts : List Tally) (p : TalliesOf row x start end plain ts) (m : ℕ) (em : m ≡ least_up_to (payload_at plain ts) 3) where
  pub mode_is : m ≡ plan_mode row x start end
  unfolding plan_mode
  mode_is = em ∙ least_same (payload_at plain ts) (least_of row x start end) 3 (payload_is row x start end plain ts p)

  pub mode_most : m ≤ 3
  mode_most = let i = (first_least (payload_at plain ts) 3).inside in omega arith

  pub plan_is : (t : Tally) (b : ℕ) → t ≡ tally_at ts m → b ≡ payload_in plain m t → ◌≡◌ {A = Plan} (record { mode = m; gains = t.gains; count = t.count; payload = b }) (plan_of row x start end)
  unfolding plan_of plan_gains plan_payload
  plan_is t b et eb =
      let k = p m mode_most in
      let all = gains_over m row x start end in
      let n : t.count ≡ length all = ap (λ (u : Tally). u.count) et ∙ k.count_is ∙ sym (gains_length m row x start end) in
      let g : t.gains ≡ all ++ drop (length all) no_gains = ap (λ (u : Tally). u.gains) et ∙ k.gains_are ∙ ap (λ (i : ℕ). all ++ drop i no_gains) (ap (λ (u : Tally). u.count) (sym et) ∙ n) in
      let q : b ≡ least_of row x start end m = eb ∙ ap (payload_in plain m) et ∙ payload_is row x start end plain ts p m mode_most in
      rw (g, n, q, mode_is)

-- ---- cause 5 at a bin
pub too_large_none : (row : List ℕ) (x : List Float) (k : ℕ) → get_or row k 0 ≡ 0 → false ≡ too_large_at row x k
unfolding beyond_at
too_large_none row x k e = sym (ap (λ (z : ℕ). not (eqb z 0) && some_too_large (six_of x k)) e)

pub too_large_some : (row : List ℕ) (x : List Float) (k : ℕ) (r : Bool) → (get_or row k 0 ≡ 0 → ⊥) → r ≡ some_too_large (six_of x k) → r ≡ too_large_at row x k
unfolding beyond_at
too_large_some row x k r n e =
    e ∙ sym (ap (λ (t : Bool). not t && some_too_large (six_of x k)) (ne_eqb (get_or row k 0) 0 n))

-- ---- the cause
-- vectors too short, without a product that could be too large
short_is : (n e : ℕ) → ltb (n / 6) e ≡ ltb n (6 * e)
short_is n e = go (ltb n (6 * e)) refl
  where
    go : (t : Bool) → ltb n (6 * e) ≡ t → ltb (n / 6) e ≡ t
    go true q = let l = ltb-true n (6 * e) q in lt-ltb (n / 6) e (omega arith)
    go false q = let l = ltb-false n (6 * e) q in le-ltb (n / 6) e (omega arith)

module _ (row : List ℕ) (start end : ℕ) (x : List Float) where
  -- what check_channel asks by the quotient
  by_product : row_cause row start end (ltb (length x / 6) end) ≡ row_cause row start end (ltb (length x) (6 * end))
  by_product = ap (row_cause row start end) (short_is (length x) end)

  module _ (none : row_cause row start end (ltb (length x / 6) end) ≡ None) where
    pub cause_within : Within row start end x
    cause_within = let r = row_ok row start end (ltb (length x) (6 * end)) (sym by_product ∙ none) in record { row_ok = r.0; vectors = ltb-false (length x) (6 * end) r.1 }

    pub cause_rest : (t : Bool) → some_over (too_large_at row x) start end ≡ t → cause_of row start end x ≡ cond t (Some Component) None
    unfolding cause_up_to
    cause_rest t e = rw (sym by_product ∙ none, e) refl

  pub cause_row : (k : Refusal) → row_cause row start end (ltb (length x / 6) end) ≡ Some k → cause_of row start end x ≡ Some k
  unfolding cause_up_to
  cause_row k e = rw (sym by_product ∙ e)

  pub cause_0 : Within row start end x → some_over (too_large_at row x) start end ≡ false → cause_of row start end x ≡ None
  unfolding cause_up_to
  cause_0 w e =
      let r = w.row_ok in
      let z : row_cause row start end (ltb (length x) (6 * end)) ≡ None =
      cause_4_or_none row start end (ltb (length x) (6 * end)) r.ordered r.few r.rows false (le-ltb (length x) (6 * end) w.vectors) r.known in
      rw (z, e)

  -- Where no cause is named, none of the five holds.
  pub cause_none : cause_of row start end x ≡ None → Within row start end x × (some_over (too_large_at row x) start end ≡ false)
  unfolding cause_up_to
  cause_none h =
      let n = first_none (row_cause row start end (ltb (length x) (6 * end))) _ h in
      let r = row_ok row start end (ltb (length x) (6 * end)) n.0 in
      (record { row_ok = r.0; vectors = ltb-false (length x) (6 * end) r.1 }, (none_of (some_over (too_large_at row x) start end) Component None n.1).0)

  -- They are 1 to 5.
  pub cause_most : cause_number (cause_of row start end x) ≤ 5
  unfolding cause_up_to
  cause_most = go (row_cause row start end (ltb (length x) (6 * end))) (row_cause_most row start end (ltb (length x) (6 * end))) (some_over (too_large_at row x) start end)
    where
      go : (k : Option Refusal) → cause_number k ≤ 4 → (t : Bool) → cause_number (first_of k (cond t (Some Component) None)) ≤ 5
      go None h true = omega arith
      go None h false = omega arith
      go (Some k) h t = omega arith

  -- 5 is a component's
  pub cause_five : cause_of row start end x ≡ Some Component → some_over (too_large_at row x) start end ≡ true
  unfolding cause_up_to
  cause_five = go (row_cause row start end (ltb (length x) (6 * end))) (row_cause_most row start end (ltb (length x) (6 * end))) (some_over (too_large_at row x) start end)
    where
      go : (k : Option Refusal) → cause_number k ≤ 4 → (t : Bool) → first_of k (cond t (Some Component) None) ≡ Some Component → t ≡ true
      go k h true e = refl
      go None h false e = absurd (let z : ◌≡◌ {A = ℕ} 0 5 = ap cause_number e in omega arith)
      go (Some k) h false e = absurd (let z : ◌≡◌ {A = ℕ} (number k) 5 = ap cause_number e in omega arith)

-- ---- the answer
module _ (row : List ℕ) (start end : ℕ) (x : List Float) where
  pub planned_good : (p : Plan) → p ≡ plan_of row x start end → cause_of row start end x ≡ None → ◌≡◌ {A = Result Plan Refusal} (Ok p) (planned row start end x)
  unfolding planned_up_to
  planned_good p e h = ap Ok e ∙ sym (rw h)

  pub planned_refused : (k : Refusal) → cause_of row start end x ≡ Some k → ◌≡◌ {A = Result Plan Refusal} (Err k) (planned row start end x)
  unfolding planned_up_to
  planned_refused k e = sym (rw e)

  -- The refusal is the cause.
  pub refusal_is : answer_number (planned row start end x) ≡ cause_number (cause_of row start end x)
  unfolding planned_up_to
  refusal_is = answered_number (cause_of row start end x) (plan_of row x start end)

  -- Where none of causes 1 to 5 holds a plan is given.
  pub answer_given : Within row start end x → some_over (too_large_at row x) start end ≡ false → answer_number (planned row start end x) ≡ 0
  answer_given w e = refusal_is ∙ ap cause_number (cause_0 row start end x w e)

  -- ---- an answer that is no refusal is the plan,
  pub answer_plan : answer_number (planned row start end x) ≡ 0 → plan_answered row start end x ≡ plan_of row x start end
  answer_plan h = sym (ap (value_or _) (planned_good (plan_of row x start end) refl (no_number (cause_of row start end x) (sym refusal_is ∙ h))))

module _ (row : List ℕ) (start end : ℕ) (x : List Float) (h : answer_number (planned row start end x) ≡ 0) where
  -- none of the causes holds,
  pub answer_within : Within row start end x × (some_over (too_large_at row x) start end ≡ false)
  answer_within = cause_none row start end x (no_number (cause_of row start end x) (sym (refusal_is row start end x) ∙ h))

  -- its gains are in 256 places,
  pub answer_count : (plan_answered row start end x).count ≤ 256
  unfolding plan_of
  answer_count =
      let o = (plan_choice row x start end).one_each in
      let m = count_most (plan_mode row x start end) row start end in
      let f = answer_within.0.row_ok.few in
      rw (answer_plan row start end x h) (omega arith)

  -- it fits,
  pub answer_fits : plan_fits (plan_answered row start end x) row start end x ≡ true
  answer_fits = rw (answer_plan row start end x h) (plan_fits_lem row x start end)

  -- it is itself a choice, with the bits that it says,
  pub answer_choice : let p = plan_answered row start end x in Choice p.mode (gains_of p) row start end × (total_of p ≡ choice_bits p.mode (gains_of p) row x start end)
  unfolding plan_of choice_bits
  answer_choice =
      let p = plan_answered row start end x in
      let g = plan_gains row x start end in
      let n = length-append g (drop (length g) no_gains) in
      let r : p.count ≤ length p.gains = rw (answer_plan row start end x h) (omega arith) in
      let c = fits_choice p row start end x r answer_fits in
      (c.0, ap (λ (b : ℕ). 2 + b) c.1)

  -- no choice has fewer bits,
  pub answer_least : (mode : ℕ) (gains : List ℕ) → Choice mode gains row start end → total_of (plan_answered row start end x) ≤ choice_bits mode gains row x start end
  answer_least mode gains c = rw (answer_plan row start end x h) (plan_least mode gains row x start end c)

  -- and one of a lower mode has more.
  pub answer_lowest : (mode : ℕ) (gains : List ℕ) → Choice mode gains row start end → mode < (plan_answered row start end x).mode → total_of (plan_answered row start end x) < choice_bits mode gains row x start end
  unfolding plan_of
  answer_lowest mode gains c l = rw (answer_plan row start end x h) (plan_lowest mode gains row x start end c (rw (answer_plan row start end x h) at l))

-- a test that gives no cause
pub fine : (t : Bool) (k : Refusal) → cond t None (Some k) ≡ None → t ≡ true
fine true k h = refl
fine false k h = absurd (let z : ◌≡◌ {A = ℕ} (number k) 0 = ap cause_number h in let n = numbered k in omega arith)

-- ---- the cause of a plan that is given
module _ (p : Plan) (row : List ℕ) (start end : ℕ) (x : List Float) where
  pub plan_cause_row : (k : Refusal) → cause_of row start end x ≡ Some k → plan_cause p row start end x ≡ Some k
  unfolding plan_cause_up_to
  plan_cause_row k e = rw e

  pub plan_cause_fit : (t : Bool) → cause_of row start end x ≡ None → t ≡ plan_fits p row start end x → plan_cause p row start end x ≡ cond t None (Some PlanMisfit)
  unfolding plan_cause_up_to
  plan_cause_fit t z e = rw (z, sym e) refl

  -- Where none is named, none of the six holds.
  pub plan_cause_none : plan_cause p row start end x ≡ None → (cause_of row start end x ≡ None) × (plan_fits p row start end x ≡ true)
  unfolding plan_cause_up_to
  plan_cause_none h = let n = first_none (cause_of row start end x) _ h in (n.0, fine (plan_fits p row start end x) PlanMisfit n.1)

  -- They are 1 to 6.
  pub plan_cause_most : cause_number (plan_cause p row start end x) ≤ 6
  unfolding plan_cause_up_to
  plan_cause_most = go (cause_of row start end x) (cause_most row start end x) (plan_fits p row start end x)
    where
      go : (k : Option Refusal) → cause_number k ≤ 5 → (t : Bool) → cause_number (first_of k (cond t None (Some PlanMisfit))) ≤ 6
      go None h true = omega arith
      go None h false = omega arith
      go (Some k) h t = omega arith

-- ---- a plan that fits
module _ (p : Plan) (row : List ℕ) (start end : ℕ) (x : List Float) where
  -- has no more gains than there are places,
  pub fits_few : Within row start end x → plan_fits p row start end x ≡ true → p.count ≤ 256
  unfolding plan_fits
  fits_few within fits =
      let e = (fits_parts p.mode p.gains p.count row start end (both _ _ fits).0).1 in
      let m = count_most p.mode row start end in
      let f = within.row_ok.few in
      omega arith

-- what holds of it where none of causes 1 to 5 does: its gains stand in their places, and it is a choice of its total
pub record Fitting (p : Plan) (row : List ℕ) (start end : ℕ) (x : List Float) : Type 0 where
  pub within : Within row start end x
  pub inside : some_over (too_large_at row x) start end ≡ false
  pub room : p.count ≤ length p.gains
  pub choice : Choice p.mode (gains_of p) row start end
  pub payload : p.payload ≡ payload_of p.mode (gains_of p) row x start end
  pub bits : choice_bits p.mode (gains_of p) row x start end ≡ total_of p

module _ (p : Plan) (row : List ℕ) (start end : ℕ) (x : List Float) (places : length p.gains ≡ 256) where
  pub fitting : cause_of row start end x ≡ None → plan_fits p row start end x ≡ true → Fitting p row start end x
  unfolding choice_bits
  fitting none fits =
      let k = cause_none row start end x none in
      let few = fits_few p row start end x k.0 fits in
      let room : p.count ≤ length p.gains = omega arith in
      let c = fits_choice p row start end x room fits in
      record { within = k.0; inside = k.1; room = room; choice = c.0; payload = c.1; bits = ap (λ (b : ℕ). 2 + b) (sym c.1) }

  pub plan_fitting : plan_cause p row start end x ≡ None → Fitting p row start end x
  plan_fitting none = let f = plan_cause_none p row start end x none in fitting f.0 f.1
