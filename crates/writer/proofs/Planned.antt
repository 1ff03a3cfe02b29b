-- The field of a plan that fits has its total of bits, and the bits outside it are kept; the planner's plan, where it
-- gives one, fits and is written. Assumes nothing.
use Prim.Native.Nat.{ℕ, ◌+◌, ◌*◌, ◌≤◌}
use mathlib.Core.Path.{◌≡◌, refl, sym, ap, ◌∙◌}
use mathlib.Core.List.{List}
use mathlib.Core.Bool.{true, false}
use native.Mathlib.Nat.{le_trans, le_of_eq}
use native.Mathlib.Omega.{arith}
use lib.Ieee.{Float}
use lib.Dec.{leb}
use lib.ListN.{length, take, drop}
use borrow.Author.Tests.{leb-true}
use Rattle.bits.specs.Bits.{bits_of, splice, pos_of, bytes_with}
use Rattle.bits.proofs.Laws.{length_bits_of, bits_with, splice_before, splice_after}
use Rattle.channel.specs.Bins.{some_over}
use Rattle.channel.specs.Field.{lenient}
use Rattle.channel.proofs.Laws.{lenient_laws}
use Rattle.channel.proofs.Most.{field_most}
use Rattle.planner.specs.Choice.{choice_bits, Choice}
use Rattle.planner.specs.Planning.{too_large_at, cause_of, planned, plan_answered, total_of, gains_of}
use Rattle.planner.specs.Work.{Within}
use Rattle.planner.specs.Fit.{plan_fits, plan_cause}
use Rattle.planner.specs.declared.Plan.{Plan}
use Rattle.planner.proofs.Answer.{cause_none, refusal_is, answer_fits, answer_choice, fine, plan_cause_fit, plan_cause_none, fitting}
use Rattle.std.specs.Prelude.{Option, None, Some, Ok}
use Rattle.answers.specs.Answers.{answer_number}
use Rattle.answers.specs.Causes.{afterwards}
use Rattle.answers.specs.declared.Refusal.{Refusal}
use Rattle.answers.specs.declared.Refusal.TheVariants.{OutputFull}
use Rattle.answers.proofs.Numbers.{first_none, no_number}
use Rattle.writer.specs.Written.{written_of, field_of, write_cause, write_cause_up_to, channel_write, channel_written, channel_written_up_to}
use Rattle.writer.proofs.Channel.{channel_ok, channel_long}
use Rattle.writer.proofs.Call.{call_good}

-- ---- any plan
module _ (p : Plan) (row : List ℕ) (start end : ℕ) (x : List Float) (places : length p.gains ≡ 256) where
  pub fits_long : cause_of row start end x ≡ None → plan_fits p row start end x ≡ true → length (field_of p row start end x) ≡ total_of p
  fits_long none fits =
      let f = fitting p row start end x places none fits in
      channel_long p.mode (gains_of p) row x start end f.within f.inside f.choice ∙ f.bits

  -- The greatest field: no plan that fits has more than 31,152 bits.
  pub fits_most : cause_of row start end x ≡ None → plan_fits p row start end x ≡ true → total_of p ≤ 31152
  fits_most none fits =
      let f = fitting p row start end x places none fits in
      let o = channel_ok p.mode (gains_of p) row x start end f.within f.inside f.choice in
      le_trans (le_of_eq (sym (fits_long none fits))) (field_most lenient lenient_laws row start end (written_of p.mode (gains_of p) row x start end) o f.within.row_ok.few)

  -- where something is written, no cause holds
  pub written_when : (n at : ℕ) → write_cause p row start end x n at ≡ None → (cause_of row start end x ≡ None) × (plan_fits p row start end x ≡ true) × (at + total_of p ≤ n)
  unfolding write_cause_up_to
  written_when n at h =
      let c = first_none (plan_cause p row start end x) _ h in
      let f = plan_cause_none p row start end x c.0 in
      (f.0, f.1, leb-true _ _ (fine (leb (at + total_of p) n) OutputFull c.1))

  -- A bit outside the field is as it was before, whatever the call answers.
  pub outside_kept : (out : List ℕ) (at : ℕ)
      → (take at (bits_of (channel_written p row start end x out at)) ≡ take at (bits_of out))
      × (drop (at + total_of p) (bits_of (channel_written p row start end x out at)) ≡ drop (at + total_of p) (bits_of out))
  unfolding channel_written_up_to
  outside_kept out at = go (write_cause p row start end x (8 * length out) at) refl
    where
      go : (k : Option Refusal) → write_cause p row start end x (8 * length out) at ≡ k → let after = afterwards k (bytes_with out at (field_of p row start end x)) out in
          (take at (bits_of after) ≡ take at (bits_of out)) × (drop (at + total_of p) (bits_of after) ≡ drop (at + total_of p) (bits_of out))
      go None e =
          let w = written_when (8 * length out) at e in
          let f = field_of p row start end x in
          let l = fits_long w.0 w.1 in
          let r = w.2 in
          let n = length_bits_of out in
          let b = bits_with out at f (omega arith) in (
            ap (take at) b ∙ splice_before (bits_of out) f at (omega arith),
            ap (drop (at + total_of p)) b ∙ ap (λ (k : ℕ). drop (at + k) (splice (bits_of out) at f)) (sym l)
                ∙ splice_after (bits_of out) f at (omega arith) ∙ ap (λ (k : ℕ). drop (at + k) (bits_of out)) l,
          )
      go (Some k) e = (refl, refl)

-- ---- the planner's plan
module _ (row : List ℕ) (start end : ℕ) (x : List Float) (given : answer_number (planned row start end x) ≡ 0) where
  abbrev p : Plan
  p = plan_answered row start end x

  pub no_cause : cause_of row start end x ≡ None
  no_cause = no_number (cause_of row start end x) (sym (refusal_is row start end x) ∙ given)

  pub within : Within row start end x
  within = (cause_none row start end x no_cause).0

  pub inside : some_over (too_large_at row x) start end ≡ false
  inside = (cause_none row start end x no_cause).1

  pub fits : plan_fits p row start end x ≡ true
  fits = answer_fits row start end x given

  pub choice : Choice p.mode (gains_of p) row start end
  choice = (answer_choice row start end x given).0

  pub bits : choice_bits p.mode (gains_of p) row x start end ≡ total_of p
  bits = sym (answer_choice row start end x given).1

  -- ---- its field
  pub field_long : length (field_of p row start end x) ≡ total_of p
  field_long = channel_long p.mode (gains_of p) row x start end within inside choice ∙ bits

  pub few_bits : total_of p ≤ 31152
  few_bits =
      le_trans (le_of_eq (sym field_long))
      (field_most lenient lenient_laws row start end (written_of p.mode (gains_of p) row x start end) (channel_ok p.mode (gains_of p) row x start end within inside choice) within.row_ok.few)

  pub is_written : (out : List ℕ) (at : ℕ) → at + total_of p ≤ 8 * length out
      → (channel_write p row start end x out at ≡ Ok (pos_of (at + total_of p))) × (channel_written p row start end x out at ≡ bytes_with out at (field_of p row start end x))
  is_written out at space =
      let w =
      call_good p row start end x out at (plan_cause_fit p row start end x true no_cause (sym fits)) space field_long _ _ (rw field_long) refl in
      (sym w.0, sym w.1)
