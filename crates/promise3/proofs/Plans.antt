-- The planner's plan for an allowed row, bins and vectors: its field as it is written, and found again. Assumes
-- nothing.
use Prim.Native.Nat.{ℕ, ◌+◌, ◌*◌, ◌≤◌, ◌<◌}
use mathlib.Core.Path.{◌≡◌, refl, sym, ap, ◌∙◌}
use mathlib.Core.List.{List}
use mathlib.Core.Bool.{Bool, true, false, cond, not, ◌&&◌, ◌||◌}
use native.Mathlib.Omega.{arith}
use borrow.Author.Tests.{le-leb, eqb-false, le-ltb}
use lib.Dec.{eqb, ltb}
use lib.Ieee.{Float}
use lib.IntN.{ℤ}
use lib.ListN.{length, drop, get_or}
use lib.Seq.{get_or-take}
use Rattle.answers.specs.Answers.{answer_number}
use Rattle.bits.specs.Bits.{bits_of}
use Rattle.bits.specs.Format.{got}
use Rattle.bits.proofs.Laws.{bits_with, length_with}
use Rattle.gains.specs.Gains.{active}
use Rattle.levels.specs.Component.{some_too_large}
use Rattle.channel.specs.Bins.{some_over}
use Rattle.channel.specs.Row.{active_count, gain_at, six_of, unknown_at}
use Rattle.channel.proofs.Rows.{cause_4_or_none}
use Rattle.channel.proofs.Over.{none_over}
use Rattle.planner.specs.Choice.{plan_gains}
use Rattle.planner.specs.Planning.{too_large_at, beyond_at, plan_of, planned, total_of, gains_of, plan_answered}
use Rattle.planner.specs.Work.{Within}
use Rattle.planner.specs.declared.Plan.{Plan}
use Rattle.planner.proofs.Answer.{answer_given, answer_plan}
use Rattle.planner.proofs.Optimal.{rank_lt}
use Rattle.writer.specs.Written.{written_of, field_of, channel_written}
use Rattle.writer.proofs.Channel.{channel_read}
use Rattle.writer.proofs.Planned.{choice, bits, field_long, is_written}
use Rattle.reader.specs.Reading.{call, read_cause, found}
use Rattle.promise3.specs.Promise.{Allowed, LongEnough}
use Rattle.promise3.proofs.Places.{padded, padded_gains}

module _ (row : List ℕ) (start end : ℕ) (x : List Float) (a : Allowed row start end x) where
  abbrev p : Plan
  p = plan_answered row start end x

  -- ---- none of causes 1 to 5 holds
  known : some_over (unknown_at row) start end ≡ false
  unfolding unknown_at
  known = none_over (unknown_at row) start end (λ k l u. le-ltb 19 (get_or row k 0) (a.known k l u))

  inside : some_over (too_large_at row x) start end ≡ false
  unfolding beyond_at
  inside = none_over (too_large_at row x) start end (λ k l u. go k l u (eqb (get_or row k 0) 0) refl)
    where
      go : (k : ℕ) → start ≤ k → k < end → (t : Bool) → eqb (get_or row k 0) 0 ≡ t → not t && some_too_large (six_of x k) ≡ false
      go k l u true e = refl
      go k l u false e = a.components k l u (eqb-false (get_or row k 0) 0 e)

  vectors_in : Within row start end x
  vectors_in = record { row_ok = record { ordered = a.ordered; few = a.few; rows = a.rows; known = known }; vectors = a.vectors }

  -- ---- the plan
  pub given : answer_number (planned row start end x) ≡ 0
  given = answer_given row start end x vectors_in inside

  gains_are : gains_of p ≡ plan_gains row x start end
  unfolding plan_of
  gains_are = ap gains_of (answer_plan row start end x given) ∙ padded_gains (plan_gains row x start end)

  pub count_is : length (gains_of p) ≡ p.count
  unfolding plan_of
  count_is = ap length gains_are ∙ sym (ap (λ (q : Plan). q.count) (answer_plan row start end x given))

  pub gains_padded : padded (gains_of p) ≡ p.gains
  unfolding plan_of
  gains_padded = ap padded gains_are ∙ sym (ap (λ (q : Plan). q.gains) (answer_plan row start end x given))

  -- only the gains of the active bins are looked at
  pub gain_same : (k : ℕ) → start ≤ k → k < end → gain_at p.mode (gains_of p) row start k ≡ gain_at p.mode p.gains row start k
  unfolding gain_at
  gain_same k l u = go (active p.mode (get_or row k 0)) refl
    where
      go : (t : Bool) → active p.mode (get_or row k 0) ≡ t → let r = active_count p.mode row start k in cond t (get_or (gains_of p) r 0) 1 ≡ cond t (get_or p.gains r 0) 1
      go true e =
          let r = rank_lt p.mode row start k end l u e in
          let o = (choice row start end x given).one_each in
          let n = count_is in
          get_or-take p.count p.gains (active_count p.mode row start k) 0 (omega arith)
      go false e = refl

  -- ---- the reader finds what is written of it
  pub found_again : (out : List ℕ) (at : ℕ) → at + total_of p ≤ 8 * length out → (v : List Float) (e : List ℤ) (i : List ℕ)
      → let c = call (channel_written p row start end x out at) at v e i in
      LongEnough row start end c → found row start end c ≡ got (written_of p.mode (gains_of p) row x start end) (drop (at + total_of p) (bits_of out))
  unfolding found read_cause
  found_again out at space v e i long =
      let s = channel_written p row start end x out at in
      let f = field_of p row start end x in
      let n = field_long row start end x given in
      let w = (is_written row start end x given out at space).1 in
      let short : ltb (length v) (6 * end) || (ltb (length e) (6 * end) || ltb (length i) end) ≡ false = rw (le-ltb (length v) (6 * end) long.0, le-ltb (length e) (6 * end) long.1, le-ltb (length i) end long.2) in
      let cause = cause_4_or_none row start end _ a.ordered a.few a.rows false short known in
      let same : length s ≡ length out = ap length w ∙ length_with out at f in
      let put = ap bits_of w ∙ bits_with out at f (omega arith) in
      let r = channel_read p.mode (gains_of p) row x start end vectors_in inside (choice row start end x given) out s at (omega arith) put in
      rw (cause, le-leb at (8 * length s) (omega arith)) (r ∙ ap (λ (b : ℕ). got (written_of p.mode (gains_of p) row x start end) (drop (at + b) (bits_of out))) (bits row start end x given))
