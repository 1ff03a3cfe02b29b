-- The greatest field has 31,152 bits: 256 bins of hebap 16 at Gk 4, every component behind a tag, in mode 3. That no
-- plan that fits has more is writer's `fits_most`. Assumes nothing.
use Prim.Native.Nat.{ℕ, zero, suc, ◌+◌, ◌*◌, ◌≤◌, ◌<◌}
use mathlib.Core.Path.{◌≡◌, refl, sym, ap, ◌∙◌}
use mathlib.Core.List.{List}
use mathlib.Core.Bool.{true, false}
use native.Mathlib.Nat.{le_trans, le_of_eq, suc-mul}
use native.Mathlib.Omega.{arith}
use lib.Ieee.{Float, nan, sub, mul, div, le, of_int, of_bits, is_nan}
use lib.ListN.{length, length-replicate, get_or, get_or-replicate, drop, replicate}
use lib.Seq.{get_or-take, get_or-drop, ext_get_or}
use Rattle.answers.specs.Answers.{answer_number}
use Rattle.tables.specs.Numbers.{mant_bits_table, gaq_remap_table}
use Rattle.tables.specs.Tables.{mant_bits, gaq_remap_at}
use Rattle.gains.specs.Gains.{endbap, active, other_gains, allowed_gain, word_bits, sections, gain_word_bits}
use Rattle.levels.specs.Component.{beyond, some_too_large}
use Rattle.levels.specs.Value.{f1, q15, offset_at, gaq_remap, divided}
use Rattle.channel.specs.Bins.{sum_over, some_over}
use Rattle.channel.specs.Row.{active_at, active_count, gain_at, six_of}
use Rattle.channel.specs.Field.{lenient}
use Rattle.channel.proofs.Over.{sum_next, sum_none, none_over}
use Rattle.channel.proofs.Laws.{lenient_laws}
use Rattle.channel.proofs.Most.{field_most}
use Rattle.channel.proofs.Parts.{parts_ok}
use Rattle.quantiser.specs.Round.{round_mag, round_away}
use Rattle.quantiser.specs.Quantise.{abs_f, value_at, probed, best_of, slope_at, est_large, best_large, small_of, large_code, tagged_code, picked, codes_bits}
use Rattle.planner.specs.Cost.{bin_bits}
use Rattle.planner.specs.Choice.{chosen_at, payload_of}
use Rattle.planner.specs.Fit.{wrong_gain, choice_fits, plan_fits}
use Rattle.planner.specs.declared.Plan.{Plan}
use Rattle.writer.specs.Written.{field_of}
use Rattle.writer.proofs.Channel.{six_long}
use Rattle.writer.proofs.Planned.{fits_long}
use Rattle.reader.specs.Reading.{Call, answer_to, channel_answered}
use Rattle.promise3.specs.Promise.{Allowed}
use Rattle.promise3.proofs.Allowing.{allowed_exactly}
use Rattle.promise3.proofs.Calls.{accepted_found, stands, ok, answer_bits}

-- No field that the channel reader accepts has more bits either.
pub accepted_most : (row : List ℕ) (start end : ℕ) (c : Call) → answer_number (answer_to row start end c) ≡ 0 → (channel_answered row start end c).bits ≤ 31152
accepted_most row start end c h =
    let f = accepted_found row start end c h in
    let o = parts_ok lenient row start end f.channel (ok row start end c f) in
    le_trans (le_of_eq (answer_bits row start end c f)) (field_most lenient lenient_laws row start end f.channel o (stands row start end c f).row_is.few)

-- ---- it is reached
abbrev pub widest_row : List ℕ
widest_row = replicate 256 16

abbrev pub widest_vectors : List Float
widest_vectors = replicate 1536 f1

abbrev pub widest_plan : Plan
widest_plan = record { mode = 3; gains = replicate 256 4; count = 256; payload = 31150 }

-- sums of one number
sum_const : (f : ℕ → ℕ) (c end : ℕ) → ((k : ℕ) → k < end → f k ≡ c) → sum_over f 0 end ≡ end * c
sum_const f c zero h = sum_none f 0 0 (omega arith) ∙ omega arith
sum_const f c (suc e) h =
    let r = sum_const f c e (λ k u. h k (omega arith)) in
    let l = h e (omega arith) in
    let n = sum_next f 0 e (omega arith) in
    let m = suc-mul e c in
    omega arith

six_same : (k : ℕ) → k < 256 → six_of widest_vectors k ≡ replicate 6 f1
six_same k u =
    let l = length-replicate 1536 f1 in
    let n = six_long widest_vectors k (omega arith) in
    ext_get_or nan (six_of widest_vectors k) (replicate 6 f1) n
    (λ i v. get_or-take 6 (drop (6 * k) widest_vectors) i nan (omega arith) ∙ get_or-drop (6 * k) widest_vectors i nan ∙ get_or-replicate 1536 (6 * k + i) f1 nan (omega arith)
    ∙ sym (get_or-replicate 6 i f1 nan (omega arith)))

hebap_16 : (k : ℕ) → k < 256 → get_or widest_row k 0 ≡ 16
hebap_16 k u = get_or-replicate {A = ℕ} 256 k 16 0 u

all_active : (k : ℕ) → k < 256 → active_at 3 widest_row k ≡ 1
unfolding active_at active endbap
all_active k u = rw (hebap_16 k u)

count_to : (end : ℕ) → end ≤ 256 → active_count 3 widest_row 0 end ≡ end
unfolding active_count
count_to end l = sum_const (active_at 3 widest_row) 1 end (λ k u. all_active k (omega arith)) ∙ omega arith

-- one bin: six tags of 9 bits and six codes of 11
bin_120 : bin_bits 16 4 (replicate 6 f1) ≡ 120
unfolding sub mul div le of_int of_bits is_nan mant_bits_table gaq_remap_table mant_bits gaq_remap_at q15 offset_at gaq_remap divided round_mag round_away abs_f value_at probed best_of
    slope_at est_large best_large small_of large_code tagged_code picked codes_bits bin_bits
bin_120 = refl

chosen_120 : (k : ℕ) → k < 256 → chosen_at 3 (replicate 256 4) widest_row widest_vectors 0 k ≡ 120
unfolding chosen_at gain_at active endbap
chosen_120 k u = rw (hebap_16 k u, six_same k u, count_to k (omega arith), get_or-replicate {A = ℕ} 256 k 4 0 u) bin_120

widest_payload : payload_of 3 (replicate 256 4) widest_row widest_vectors 0 256 ≡ 31150
unfolding payload_of gain_word_bits word_bits sections
widest_payload = rw (sum_const (chosen_at 3 (replicate 256 4) widest_row widest_vectors 0) 120 256 chosen_120, count_to 256 (omega arith))

gains_right : some_over (wrong_gain 3 (replicate 256 4)) 0 256 ≡ false
unfolding wrong_gain allowed_gain other_gains
gains_right = none_over (wrong_gain 3 (replicate 256 4)) 0 256 (λ k l u. rw (get_or-replicate {A = ℕ} 256 k 4 0 u))

pub widest_fits : plan_fits widest_plan widest_row 0 256 widest_vectors ≡ true
unfolding plan_fits choice_fits
widest_fits = rw (count_to 256 (omega arith), gains_right, widest_payload)

pub widest_allowed : Allowed widest_row 0 256 widest_vectors
unfolding beyond of_bits
widest_allowed = record {
  ordered = omega arith;
  few = omega arith;
  rows = let l = length-replicate {A = ℕ} 256 16 in omega arith;
  vectors = let l = length-replicate 1536 f1 in omega arith;
  known = λ k l u. let e = hebap_16 k u in omega arith;
  components = λ k l u n. ap some_too_large (six_same k u);
}

-- The greatest field is reached.
pub greatest_reached : length (field_of widest_plan widest_row 0 256 widest_vectors) ≡ 31152
greatest_reached = fits_long widest_plan widest_row 0 256 widest_vectors (length-replicate {A = ℕ} 256 4) ((allowed_exactly widest_row 0 256 widest_vectors).0 widest_allowed) widest_fits
