-- What a call of the channel reader answers and shows, by the channel that it finds. Assumes nothing.
use Prim.Native.Nat.{ℕ, ◌+◌, ◌-◌, ◌*◌, ◌≤◌, ◌<◌}
use mathlib.Core.Path.{◌≡◌, refl, sym, ap, ◌∙◌}
use mathlib.Core.List.{List}
use mathlib.Core.Bool.{Bool}
use native.Mathlib.Omega.{arith}
use lib.IntN.{pos}
use lib.Ieee.{nan}
use lib.ListN.{length, drop, get_or, length-drop}
use Rattle.answers.specs.declared.Refusal.{Refusal}
use Rattle.std.specs.Prelude.{Result}
use Rattle.answers.proofs.Numbers.{numbered}
use Rattle.answers.specs.Answers.{answer_number, value_or}
use Rattle.bits.specs.Bits.{bits_of}
use Rattle.bits.specs.Format.{Got, got, refused}
use Rattle.bits.proofs.Laws.{length_bits_of}
use Rattle.channel.specs.Row.{no_gains}
use Rattle.reader.specs.declared.ChannelRead.{ChannelRead}
use Rattle.channel.specs.Field.{Bin, lenient, bin_at, Channel, field}
use Rattle.channel.specs.Shown.{values_of, exacts_of, index_of, values_shown, exacts_shown, indices_shown, item_at}
use Rattle.channel.proofs.Laws.{lenient_laws, field_lawful}
use Rattle.channel.proofs.Parts.{Parts, parts}
use Rattle.channel.proofs.Shown.{values_long, exacts_long, indices_long, values_at, exacts_at_lem, index_at}
use Rattle.channel.proofs.Fields.{field_used}
use Rattle.reader.specs.Reading.{Call, found, answer_to, values_after, exact_after, indices_after, read_answer, with_shown, channel_answered}
use Rattle.reader.proofs.Causes.{FoundAt, found_got}
use Rattle.promise3.proofs.Places.{one_place, six_place, padded}

-- what is answered, or zeros
abbrev shown_of : Result ChannelRead Refusal → ChannelRead
shown_of = value_or (record { mode = 0; gains = no_gains; count = 0; bits = 0 })

module _ (row : List ℕ) (start end : ℕ) (c : Call) where
  abbrev bits : List Bool
  bits = drop c.at (bits_of c.src)

  abbrev left : ℕ
  left = 8 * length c.src - c.at

  -- ---- an accepted call finds a channel
  pub record Found : Type 0 where
    pub channel : Channel
    pub rest : List Bool
    pub is : found row start end c ≡ got channel rest

  pub accepted_found : answer_number (answer_to row start end c) ≡ 0 → Found
  accepted_found h = go (found row start end c) refl h
    where
      go : (t : Got Channel) → found row start end c ≡ t → answer_number (read_answer left t) ≡ 0 → Found
      go (got ch rest) e q = record { channel = ch; rest = rest; is = e }
      go (refused k) e q = absurd (let n = numbered k in omega arith)

  -- ---- and where it finds one,
  module _ (f : Found) where
    abbrev ch : Channel
    ch = f.channel

    -- none of causes 1 to 4 holds, and the channel stands at the position
    pub stands : FoundAt row start end c ch f.rest
    stands = found_got row start end c ch f.rest f.is

    pub ok : Parts lenient row start end ch
    ok = parts lenient row start end ch ((field_lawful lenient lenient_laws row start end).sole bits f.rest ch stands.is).1

    -- ---- the answer
    pub answer_mode : (channel_answered row start end c).mode ≡ ch.mode
    answer_mode = ap (λ (t : Got Channel). (shown_of (read_answer left t)).mode) f.is

    pub answer_count : (channel_answered row start end c).count ≡ length ch.gains
    answer_count = ap (λ (t : Got Channel). (shown_of (read_answer left t)).count) f.is

    pub answer_gains : (channel_answered row start end c).gains ≡ padded ch.gains
    answer_gains = ap (λ (t : Got Channel). (shown_of (read_answer left t)).gains) f.is

    pub answer_bits : (channel_answered row start end c).bits ≡ length ((field row start end).enc ch)
    answer_bits =
        let l : length bits ≡ left = length-drop c.at (bits_of c.src) ∙ ap (λ (n : ℕ). n - c.at) (length_bits_of c.src) in
        ap (λ (t : Got Channel). (shown_of (read_answer left t)).bits) f.is ∙ ap (λ (n : ℕ). n - length f.rest) (sym l)
        ∙ field_used lenient lenient_laws row start end bits f.rest ch stands.is

    -- ---- the outputs at the bin k
    module _ (k : ℕ) (low : start ≤ k) (high : k < end) where
      abbrev bin : Bin
      bin = bin_at ch.mode ch.gains row start k

      pub index_after : get_or (indices_after row start end c) k 0 ≡ index_of bin (item_at start ch k)
      index_after =
          let i = stands.long.2 in
          let n = indices_long lenient row start end ch ok in
          ap (λ (t : Got Channel). get_or (with_shown (indices_shown row start end) start c.indices t) k 0) f.is
          ∙ one_place c.indices (indices_shown row start end ch) 0 start k (omega arith) low (omega arith) ∙ index_at lenient row start end ch ok k low high

      module _ (j : ℕ) (few : j < 6) where
        pub values_after_lem : get_or (values_after row start end c) (6 * k + j) nan ≡ get_or (values_of bin (item_at start ch k)) j nan
        values_after_lem =
            let i = stands.long.0 in
            let n = values_long lenient row start end ch ok in
            ap (λ (t : Got Channel). get_or (with_shown (values_shown row start end) (6 * start) c.values t) (6 * k + j) nan) f.is
            ∙ six_place c.values (values_shown row start end ch) nan start k j (omega arith) low (omega arith) ∙ values_at lenient row start end ch ok k low high j nan few

        pub exacts_after : get_or (exact_after row start end c) (6 * k + j) (pos 0) ≡ get_or (exacts_of bin (item_at start ch k)) j (pos 0)
        exacts_after =
            let i = stands.long.1 in
            let n = exacts_long lenient row start end ch ok in
            ap (λ (t : Got Channel). get_or (with_shown (exacts_shown row start end) (6 * start) c.exact t) (6 * k + j) (pos 0)) f.is
            ∙ six_place c.exact (exacts_shown row start end ch) (pos 0) start k j (omega arith) low (omega arith) ∙ exacts_at_lem lenient row start end ch ok k low high j few
