-- Reading a channel is the functions of aht.rs one after another. Assumes nothing.
use Prim.Native.Nat.{ℕ, zero, suc, ◌+◌, ◌-◌, ◌*◌, ◌≤◌, ◌<◌}
use mathlib.Core.Path.{◌≡◌, refl, sym, ap, ◌∙◌}
use mathlib.Core.List.{List, ◌∷◌, ◌++◌, append-nil, map}
use mathlib.Core.Bool.{Bool, cond}
use native.Mathlib.Omega.{arith}
use borrow.Author.Tests.{le-leb, ne_eqb}
use lib.IntN.{pos}
use lib.ListN.{length, length-append, length-replicate, get_or, take, drop, replicate, drop_of_length-le}
use lib.Seq.{drop-cons, take-length}
use Rattle.answers.specs.Answers.{value_or, answer_number}
use Rattle.bits.specs.Bits.{bits_n, bits_of, splice}
use Rattle.bits.specs.Format.{Got, number, each_enc}
use Rattle.bits.proofs.Laws.{length_bits_n, splice_read}
use Rattle.gains.specs.Gains.{marked, gaqbin_of, marked_bins, active, sections, gain_value, gaq_gain_value, gaq_sections, fill_gaqbin, gaqbin_after}
use Rattle.channel.specs.Bins.{from, sum_over}
use Rattle.channel.specs.Row.{active_at, active_count}
use Rattle.channel.specs.Field.{lenient, item, gain_words, Channel, field}
use Rattle.channel.specs.Shown.{bins_in, values_shown}
use Rattle.channel.proofs.Over.{sum_none, sum_first, sum_same}
use Rattle.channel.proofs.Rows.{known_hebap, none_active, count_start}
use Rattle.channel.proofs.Laws.{lenient_laws, field_lawful}
use Rattle.channel.proofs.Parts.{Parts, gain_words_count}
use Rattle.channel.proofs.Shown.{values_long}
use Rattle.reader.specs.Reading.{Call, answer_to, values_after, with_shown, channel_answered}
use Rattle.promise3.proofs.Places.{padded_gains}
use Rattle.promise3.proofs.Calls.{accepted_found, stands, ok, answer_mode, answer_count, answer_gains, answer_bits}
use Rattle.promise3.specs.Aht.{took, aht_behind, aht_read}
use Rattle.promise3.proofs.Taken.{Stand, stand_parts, number_taken_lem, gains_taken}
use Rattle.promise3.proofs.TakenBins.{bins_taken}

-- ---- the hebaps of the bins
from_row : (row : List ℕ) (n k : ℕ) → k + n ≤ length row → take n (drop k row) ≡ from (λ j. get_or row j 0) k n
unfolding from
from_row row zero k h = refl
from_row row (suc n) k h = rw (drop-cons row k 0 (omega arith)) (ap (λ (l : List ℕ). get_or row k 0 ∷ l) (from_row row n (suc k) (omega arith)))

-- fill_gaqbin counts the active bins, but in mode 0
marked_sum : (mode : ℕ) (h : ℕ → ℕ) (n k : ℕ) → marked_bins mode (from h k n) ≡ sum_over (λ j. cond (marked mode (h j)) 1 0) k (k + n)
unfolding from marked_bins
marked_sum mode h zero k = sym (sum_none (λ j. cond (marked mode (h j)) 1 0) k (k + 0) (omega arith))
marked_sum mode h (suc n) k = ap (λ (r : ℕ). cond (marked mode (h k)) 1 0 + r) (marked_sum mode h n (suc k)) ∙ sym (sum_first (λ j. cond (marked mode (h j)) 1 0) k n)

marked_active : (mode : ℕ) (row : List ℕ) (start end : ℕ) → start ≤ end → (mode ≡ 0 → ⊥) → marked_bins mode (from (λ j. get_or row j 0) start (end - start)) ≡ active_count mode row start end
unfolding active_count active_at active
marked_active mode row start end o n =
    let e : start + (end - start) ≡ end = omega arith in
    marked_sum mode (λ j. get_or row j 0) (end - start) start
    ∙ ap (sum_over (λ j. cond (marked mode (get_or row j 0)) 1 0) start) e
    ∙ sum_same (λ j. cond (marked mode (get_or row j 0)) 1 0) (active_at mode row) start end (λ k a b. rw (ne_eqb mode 0 n))

-- ---- what the small functions answer
module _ (mode : ℕ) (few : mode ≤ 3) (hs : List ℕ) where
  count_is : value_or 0 (fill_gaqbin mode hs (length hs)) ≡ marked_bins mode hs
  unfolding fill_gaqbin
  count_is = rw (le-leb mode 3 few, take-length hs)

  sections_are : (n : ℕ) → value_or 0 (gaq_sections mode n) ≡ sections mode n
  unfolding gaq_sections
  sections_are n = rw (le-leb mode 3 few)

  marks_are : gaqbin_after mode hs (replicate (length hs) (pos 0)) ≡ map (gaqbin_of mode) hs
  unfolding gaqbin_after
  marks_are =
      let l = length-replicate (length hs) (pos 0) in
      rw (le-leb mode 3 few, l, take-length hs, drop_of_length-le (replicate (length hs) (pos 0)) {i = length hs} (omega arith), append-nil)

  values_are : (codes : List ℕ) → map (λ code. value_or 0 (gaq_gain_value code mode)) codes ≡ map (λ code. gain_value code mode) codes
  unfolding gaq_gain_value
  values_are codes = rw (le-leb mode 3 few)

-- ---- a channel of the layout at a position
module _ (row : List ℕ) (start end : ℕ) (ch : Channel) (p : Parts lenient row start end ch) (ordered : start ≤ end) (rows : end ≤ length row)
    (known : (k : ℕ) → start ≤ k → k < end → get_or row k 0 ≤ 19) (s : List ℕ) where
  abbrev hs : List ℕ
  hs = from (λ j. get_or row j 0) start (end - start)

  abbrev words : List Bool
  words = (gain_words ch.mode (active_count ch.mode row start end)).enc ch.gains

  abbrev items : List Bool
  items = each_enc (item lenient) (bins_in row start end ch) ch.items

  behind_taken : (at : ℕ) (rest : List Bool) → Stand s at (words ++ items) rest
      → aht_behind s hs ch.mode at ≡ took (record { mode = ch.mode; gains = ch.gains; values = values_shown row start end ch }) (at + length (words ++ items))
  unfolding aht_behind
  behind_taken at rest st =
      let m = ch.mode in
      let q = stand_parts s at words items rest st in
      let g = gains_taken s m (active_count m row start end) (marked_bins m hs) at ch.gains (items ++ rest) p.mode_is (marked_active m row start end ordered) p.gains_ok q.0 in
      let c = gain_words_count m (active_count m row start end) p.mode_is (none_active m row start end) ch.gains p.gains_ok in
      let e : start + (end - start) ≡ end = omega arith in
      let z = count_start m row start in
      let b = bins_taken m row ch.gains start end c s p.mode_is known (end - start) start (at + length words) g.codes ch.items rest (omega arith) e (rw z g.gains) p.items_ok q.1 in
      let t : at + length words + length items ≡ at + length (words ++ items) = rw length-append (omega arith) in
      rw (count_is m p.mode_is hs, sections_are m p.mode_is hs (marked_bins m hs), marks_are m p.mode_is hs, g.is, b, values_are m p.mode_is hs g.codes, g.gains, t)

  channel_taken : (at : ℕ) (rest : List Bool) → Stand s at ((field row start end).enc ch) rest
      → aht_read row start end s at ≡ took (record { mode = ch.mode; gains = ch.gains; values = values_shown row start end ch }) (at + length ((field row start end).enc ch))
  unfolding aht_read number
  channel_taken at rest st =
      let m = ch.mode in
      let few = p.mode_is in
      let q = stand_parts s at (bits_n 2 m) (words ++ items) rest st in
      let n = number_taken_lem s at 2 m ((words ++ items) ++ rest) (omega arith) q.0 (omega arith) in
      let l = length_bits_n 2 m in
      let b = behind_taken (at + 2) rest (rw l at q.1) in
      let t : at + 2 + length (words ++ items) ≡ at + length (bits_n 2 m ++ (words ++ items)) = rw (length-append (bits_n 2 m) (words ++ items), l) (omega arith) in
      rw (n, from_row row (end - start) start (omega arith), b, t)

-- Wherever the channel reader accepts, the functions of aht.rs, one after another from the same position, give the same
-- mode, the same gains and the same f32, and end at the same position.
pub reading_is_aht : (row : List ℕ) (start end : ℕ) (c : Call) → answer_number (answer_to row start end c) ≡ 0
    → let r = channel_answered row start end c in
    aht_read row start end c.src c.at
    ≡ took (record { mode = r.mode; gains = take r.count r.gains; values = take (6 * (end - start)) (drop (6 * start) (values_after row start end c)) }) (c.at + r.bits)
reading_is_aht row start end c h =
    let f = accepted_found row start end c h in
    let ch = f.channel in
    let w = stands row start end c f in
    let k = w.row_is in
    let o = ((field_lawful lenient lenient_laws row start end).sole (drop c.at (bits_of c.src)) f.rest ch w.is).0 in
    let p = ok row start end c f in
    let t =
    channel_taken row start end ch p k.ordered k.rows (λ j l u. known_hebap row start end j k.known l u) c.src c.at f.rest
    (record { inside = w.inside; bits = o }) in
    let g : take (channel_answered row start end c).count (channel_answered row start end c).gains ≡ ch.gains =
    rw (answer_count row start end c f, answer_gains row start end c f) (padded_gains ch.gains) in
    let n = values_long lenient row start end ch p in
    let i = w.long.0 in
    let v : take (6 * (end - start)) (drop (6 * start) (values_after row start end c)) ≡ values_shown row start end ch =
    ap (λ (r : Got Channel). take (6 * (end - start)) (drop (6 * start) (with_shown (values_shown row start end) (6 * start) c.values r))) f.is
    ∙ ap (λ (m : ℕ). take m (drop (6 * start) (splice c.values (6 * start) (values_shown row start end ch)))) (sym n)
    ∙ splice_read c.values (values_shown row start end ch) (6 * start) (let o = k.ordered in omega arith) in
    t ∙ sym (rw (answer_mode row start end c f, g, v, answer_bits row start end c f))
