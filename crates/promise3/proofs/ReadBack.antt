-- What the reader answers to the field of the planner's plan, and shows of it. Assumes nothing.
use Prim.Native.Nat.{ℕ, ◌+◌, ◌-◌, ◌*◌, ◌≤◌, ◌<◌}
use mathlib.Core.Path.{◌≡◌, sym, ap, ◌∙◌, subst}
use mathlib.Core.List.{List}
use native.Mathlib.Omega.{arith}
use lib.Ieee.{Float, nan}
use lib.IntN.{ℤ, pos}
use lib.ListN.{length, drop, get_or}
use Rattle.answers.specs.Answers.{answer_number, value_or}
use Rattle.bits.specs.Bits.{bits_of, splice}
use Rattle.bits.specs.Format.{Got}
use Rattle.bits.proofs.Laws.{length_bits_of, bits_with, splice_read}
use Rattle.levels.specs.Exact.{exact_of}
use Rattle.books.proofs.First.{search_answer}
use Rattle.quantiser.specs.Quantise.{picked, quantised, picked_value}
use Rattle.channel.specs.Row.{gain_at, six_of}
use Rattle.channel.specs.Field.{Channel}
use Rattle.planner.specs.Planning.{planned, total_of, gains_of, plan_answered}
use Rattle.planner.specs.declared.Plan.{Plan}
use Rattle.writer.specs.Written.{field_of, written_of, channel_written}
use Rattle.writer.proofs.Planned.{choice, field_long, is_written}
use Rattle.reader.specs.Reading.{Call, call, read_answer, answer_to, values_after, exact_after, channel_answered}
use Rattle.promise3.specs.Promise.{Allowed, accepted_field, LongEnough, ShowsPlan}
use Rattle.promise3.proofs.Calls.{Found, answer_mode, answer_count, answer_gains, answer_bits, index_after, values_after_lem, exacts_after}
use Rattle.promise3.proofs.Bins.{index_shown, value_shown, exact_shown, pick_given}
use Rattle.promise3.proofs.Plans.{given, count_is, gains_padded, gain_same, found_again}

module _ (row : List ℕ) (start end : ℕ) (x : List Float) (a : Allowed row start end x) where
  abbrev p : Plan
  p = plan_answered row start end x

  module _ (out : List ℕ) (at : ℕ) (space : at + total_of p ≤ 8 * length out) (v : List Float) (e : List ℤ) (i : List ℕ) where
    abbrev c : Call
    c = call (channel_written p row start end x out at) at v e i

    module _ (long : LongEnough row start end c) where
      abbrev found : Found row start end c
      found = record {
        channel = written_of p.mode (gains_of p) row x start end;
        rest = drop (at + total_of p) (bits_of out);
        is = found_again row start end x a out at space v e i long;
      }

      plan_given : answer_number (planned row start end x) ≡ 0
      plan_given = given row start end x a

      total : (channel_answered row start end c).bits ≡ total_of p
      total = answer_bits row start end c found ∙ field_long row start end x plan_given

      -- what stands there is the field of the plan
      there : accepted_field row start end c ≡ field_of p row start end x
      there =
          let f = field_of p row start end x in
          let l = field_long row start end x plan_given in
          let n = length_bits_of out in
          let w = (is_written row start end x plan_given out at space).1 in
          let b : bits_of c.src ≡ splice (bits_of out) at f = ap bits_of w ∙ bits_with out at f (omega arith) in
          rw (total, b, ← l) (splice_read (bits_of out) f at (omega arith))

      pub answered : (answer_number (answer_to row start end c) ≡ 0) × ((channel_answered row start end c).bits ≡ total_of p) × (accepted_field row start end c ≡ field_of p row start end x)
      answered = (ap (λ (t : Got Channel). answer_number (read_answer (8 * length c.src - at) t)) found.is, total, there)

      -- a scalar bin, at the gain that the writer has for it
      abbrev Scalar : ℕ → ℕ → ℕ → Type 0
      Scalar k j g =
          let h = get_or row k 0 in
          let q = picked h g (get_or x (6 * k + j) nan) in
          (answer_number (quantised h g (get_or x (6 * k + j) nan)) ≡ 0)
          × (picked_value nan (quantised h g (get_or x (6 * k + j) nan)) ≡ get_or (values_after row start end c) (6 * k + j) nan)
          × (exact_of h g q.0 ≡ get_or (exact_after row start end c) (6 * k + j) (pos 0))

      scalar : (k : ℕ) → start ≤ k → k < end → 8 ≤ get_or row k 0 → get_or row k 0 ≤ 19 → (j : ℕ) → j < 6 → Scalar k j (gain_at p.mode (gains_of p) row start k)
      scalar k l u low high j few =
          let m = p.mode in
          let gs = gains_of p in
          let h = choice row start end x plan_given in
          let fine = a.components k l u (λ z. omega arith) in
          let e = pick_given m gs row x start end a.vectors h k l u low high j few fine in (
            ap answer_number e,
            ap (picked_value nan) e ∙ sym (values_after_lem row start end c found k l u j few ∙ value_shown m gs row x start end a.vectors h k l u low high j few),
            sym (exacts_after row start end c found k l u j few ∙ exact_shown m gs row x start end a.vectors h k l u low high j few),
          )

      pub shows : ShowsPlan p row start end x c
      shows = record {
        mode = answer_mode row start end c found;
        count = answer_count row start end c found ∙ count_is row start end x a;
        gains = answer_gains row start end c found ∙ gains_padded row start end x a;
        index = λ k l u low high.
            let e = search_answer (get_or row k 0) (six_of x k) low high (a.components k l u (λ z. omega arith)) in (
              ap answer_number e,
              ap (value_or 0) e ∙ sym (index_after row start end c found k l u
                  ∙ index_shown p.mode (gains_of p) row x start end a.vectors (choice row start end x plan_given) k l u low high),
            );
        values = λ k l u low high j few. subst (Scalar k j) (gain_same row start end x a k l u) (scalar k l u low high j few);
      }
