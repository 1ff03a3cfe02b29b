-- Two calls that find channels show the same exactly where the channels are the same. Assumes nothing.
use Prim.Native.Nat.{ℕ}
use mathlib.Core.Path.{◌≡◌, sym, ap, ◌∙◌}
use mathlib.Core.List.{List}
use mathlib.Core.Logic.{◌↔◌}
use lib.IntN.{pos}
use lib.ListN.{length, get_or}
use Rattle.channel.specs.Field.{lenient, bin_at, Channel}
use Rattle.channel.specs.Shown.{exacts_of, index_of, item_at}
use Rattle.channel.proofs.Laws.{lenient_laws}
use Rattle.channel.proofs.Shown.{same_channel}
use Rattle.channel.proofs.Fields.{field_in, fields_same}
use Rattle.channel.specs.Shown.{field_at}
use Rattle.reader.specs.Reading.{Call}
use Rattle.promise3.specs.Promise.{accepted_field, SameShown}
use Rattle.promise3.proofs.Places.{padded, same_gains}
use Rattle.promise3.proofs.Calls.{Found, stands, ok, answer_mode, answer_count, answer_gains, answer_bits, index_after, exacts_after}

module _ (row : List ℕ) (start end : ℕ) where
  field_is : (c : Call) (f : Found row start end c) → accepted_field row start end c ≡ field_in lenient lenient_laws row start end c.src c.at f.channel
  field_is c f = ap (field_at c.src c.at) (answer_bits row start end c f)

  module _ (c c' : Call) (f : Found row start end c) (f' : Found row start end c') where
    -- of the channel, what is compared at the bin k
    abbrev index_in : ℕ → Channel → ℕ
    index_in k d = index_of (bin_at d.mode d.gains row start k) (item_at start d k)

    to_calls : f.channel ≡ f'.channel → SameShown row start end c c'
    to_calls s = record {
      mode = answer_mode row start end c f ∙ ap (λ (d : Channel). d.mode) s ∙ sym (answer_mode row start end c' f');
      count = answer_count row start end c f ∙ ap (λ (d : Channel). length d.gains) s ∙ sym (answer_count row start end c' f');
      gains = answer_gains row start end c f ∙ ap (λ (d : Channel). padded d.gains) s ∙ sym (answer_gains row start end c' f');
      index = λ k l u a b. index_after row start end c f k l u ∙ ap (index_in k) s ∙ sym (index_after row start end c' f' k l u);
      exacts = λ k l u a b j v.
          exacts_after row start end c f k l u j v
          ∙ ap (λ (d : Channel). get_or (exacts_of (bin_at d.mode d.gains row start k) (item_at start d k)) j (pos 0)) s ∙ sym (exacts_after row start end c' f' k l u j v);
    }

    of_calls : SameShown row start end c c' → f.channel ≡ f'.channel
    of_calls s =
        let m : f.channel.mode ≡ f'.channel.mode = sym (answer_mode row start end c f) ∙ s.mode ∙ answer_mode row start end c' f' in
        let g =
        same_gains f.channel.gains f'.channel.gains (sym (answer_count row start end c f) ∙ s.count ∙ answer_count row start end c' f')
        (sym (answer_gains row start end c f) ∙ s.gains ∙ answer_gains row start end c' f') in
        same_channel lenient lenient_laws row start end f.channel f'.channel (ok row start end c f) (ok row start end c' f') m g
        (λ k l u.
        let e : bin_at f'.channel.mode f'.channel.gains row start k ≡ bin_at f.channel.mode f.channel.gains row start k = cc in
        record {
          index = λ a b. sym (index_after row start end c f k l u) ∙ s.index k l u a b ∙ index_after row start end c' f' k l u ∙ rw e;
          exacts = λ a b j v. sym (exacts_after row start end c f k l u j v) ∙ s.exacts k l u a b j v ∙ exacts_after row start end c' f' k l u j v ∙ rw e;
        })

    pub found_same : (accepted_field row start end c ≡ accepted_field row start end c') ↔ SameShown row start end c c'
    found_same =
        let e = field_is c f in
        let e' = field_is c' f' in
        let s =
        fields_same lenient lenient_laws row start end c.src c'.src c.at c'.at f.channel f'.channel f.rest f'.rest (stands row start end c f).is
        (stands row start end c' f').is in
        (λ q. to_calls (s.0 (sym e ∙ q ∙ e')), λ q. e ∙ s.1 (of_calls q) ∙ sym e')
