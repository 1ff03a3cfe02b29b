-- Why a field is refused, and that more bits would decide. Assumes nothing.
use Prim.Native.Nat.{ℕ, zero, suc}
use mathlib.Core.Path.{◌≡◌, refl, sym, ap, ◌∙◌, subst}
use mathlib.Core.List.{List, [], ◌∷◌, ◌++◌}
use mathlib.Core.Bool.{Bool, true, false, cond}
use mathlib.Core.Logic.{◌⊎◌, inl, inr}
use native.Mathlib.Omega.{arith}
use lib.Dec.{eqb, leb}
use lib.ListN.{drop, replicate}
use Rattle.answers.specs.Causes.{number as number_of_cause}
use Rattle.answers.specs.declared.Refusal.{Refusal}
use Rattle.answers.specs.declared.Refusal.TheVariants.{InputEnds, GroupWord, UnusedCode}
use Rattle.bits.specs.Bits.{bits_n}
use Rattle.bits.specs.Format.{Got, got, refused, and_then, Format, number, only, both, tested, shown, each}
use Rattle.bits.proofs.Lawful.{number_lawful}
use Rattle.tables.specs.Tables.{mant_bits, vq_bits}
use Rattle.gains.specs.Gains.{gain_value}
use Rattle.levels.specs.Codes.{tag, small_bits, large_bits, to_code, of_code, of_large, tagged, coded}
use Rattle.levels.specs.declared.Code.{Code}
use Rattle.levels.proofs.CodeLaws.{coded_lawful}
use Rattle.channel.specs.Row.{active_count}
use Rattle.channel.specs.Field.{one_gain, two_gains, gain_code, gain_bit, grpgain, first, second, third, packed, group_words, gain_words, Bin, none, book, scalar, Item, nothing, index, codes, of_index, of_codes, lenient, item, bins_of, Channel, from_parts, to_parts, behind_mode, field}
use Rattle.channel.proofs.Laws.{lenient_laws, by_mode, gain_bit_lawful, group_word_lawful, gain_words_lawful, item_lawful, field_lawful}
use Rattle.channel.specs.Standing.{WordAbove26, PaddingNotZero, FieldThere, WordThere, PaddingThere, Decided, RunsOut}
use Rattle.bits.proofs.Refusals.{Eight, Eights, number_eights, got_not, Ends, number_ends, only_ends, both_ends, shown_ends, tested_ends, Rule, eights_rule, ends_rule}
use Rattle.channel.proofs.GroupRefusals.{Why, groups_why, word_above, padding_there}

-- ---- bins: 8 is their only refusal
abbrev behind_tag : ℕ → ℕ → ℕ → Format ℕ
behind_tag w w' s = cond (eqb s (tag w)) (number w') (only 0)

module _ (P : (A : Type 0) → Format A → Type 0) (rule : Rule P) where
  code_rule : (m g : ℕ) → P Code (coded m g)
  unfolding coded tagged
  code_rule m g = go (eqb g 1)
    where
      second_rule : (t : Bool) → P ℕ (cond t (number (large_bits m g)) (only 0))
      second_rule true = rule.numbers (large_bits m g)
      second_rule false = rule.nothings 0

      go : (t : Bool) → let w = small_bits m g in
          P Code (cond t (shown (number m) Code.Large of_large) (shown (both (number w) (behind_tag w (large_bits m g))) (to_code w) (of_code w)))
      go true = rule.showns (number m) Code.Large of_large (rule.numbers m)
      go false =
          let w = small_bits m g in
          rule.showns (both (number w) (behind_tag w (large_bits m g))) (to_code w) (of_code w)
          (rule.boths (number w) (behind_tag w (large_bits m g)) (number_lawful w) (rule.numbers w) (λ s. second_rule (eqb s (tag w))))

  item_rule : (b : Bin) → P Item (item lenient b)
  item_rule none = rule.nothings nothing
  item_rule (book h) = rule.showns (number (vq_bits h)) index of_index (rule.numbers (vq_bits h))
  item_rule (scalar h g) =
      rule.showns (each (λ (k : ℕ). lenient h g) (replicate 6 0)) codes of_codes
      (rule.eachs (λ (k : ℕ). lenient h g) (λ k. coded_lawful (mant_bits h) g) (λ k. code_rule (mant_bits h) g) (replicate 6 0))

  items_rule : (bins : List Bin) → P (List Item) (each (item lenient) bins)
  items_rule bins = rule.eachs (item lenient) (item_lawful lenient lenient_laws) item_rule bins

  bits_rule : (mode n : ℕ) → (mode ≡ 1) ⊎ (mode ≡ 2) → P (List ℕ) (each (λ (k : ℕ). gain_bit mode) (replicate n 0))
  bits_rule mode n m =
      rule.eachs (λ (k : ℕ). gain_bit mode) (λ k. gain_bit_lawful mode m) (λ k. rule.showns (number 1) (λ c. gain_value c mode) (λ g. gain_code g mode) (rule.numbers 1)) (replicate n 0)

-- ---- 9 and 10 are no 8
not_ends_9 : GroupWord ≡ InputEnds → ⊥
not_ends_9 e = let z : ◌≡◌ {A = ℕ} 9 8 = ap number_of_cause e in omega arith

not_ends_10 : UnusedCode ≡ InputEnds → ⊥
not_ends_10 e = let z : ◌≡◌ {A = ℕ} 10 8 = ap number_of_cause e in omega arith

same : {A : Type 0} {j k : Refusal} → ◌≡◌ {A = Got A} (refused j) (refused k) → j ≡ k
same e = cc

-- ---- gain words
-- behind the mode, the gain words and the items; the words refuse with 9 and 10 in mode 3 alone
abbrev GainsWhy : ℕ → ℕ → List Bool → Got (List ℕ) → Type 0
GainsWhy mode n bs (got gs rest) = Unit {0}
GainsWhy mode n bs (refused k) = (k ≡ InputEnds) ⊎ ((mode ≡ 3) × (((k ≡ GroupWord) × WordAbove26 n bs) ⊎ ((k ≡ UnusedCode) × PaddingNotZero n bs)))

gains_why : (mode n : ℕ) (bs : List Bool) → GainsWhy mode n bs ((gain_words mode n).dec bs)
gains_why mode n bs = by_mode (λ F. GainsWhy mode n bs (F.dec bs)) mode n bits words (λ p q r. tt)
  where
    eight : (t : Got (List ℕ)) → Eight t → GainsWhy mode n bs t
    eight (got gs rest) e = tt
    eight (refused k) e = inl e

    bits : (mode ≡ 1) ⊎ (mode ≡ 2) → GainsWhy mode n bs ((each (λ (k : ℕ). gain_bit mode) (replicate n 0)).dec bs)
    bits m = eight ((each (λ (k : ℕ). gain_bit mode) (replicate n 0)).dec bs) (bits_rule (λ A F. Eights F) eights_rule mode n m bs)

    three : mode ≡ 3 → (t : Got (List ℕ)) → Why n bs t → GainsWhy mode n bs t
    three e (got gs rest) y = tt
    three e (refused k) (inl y) = inl y
    three e (refused k) (inr y) = inr (e, y)

    words : mode ≡ 3 → GainsWhy mode n bs ((group_words n).dec bs)
    words e = three e ((group_words n).dec bs) (groups_why n bs)

word_ends : Ends grpgain
word_ends = tested_ends (number 5) (λ w. leb w 26) GroupWord not_ends_9 (number_ends 5)

groups_end : (n : ℕ) → Ends (group_words n)
unfolding group_words
groups_end zero = only_ends []
groups_end (suc zero) = shown_ends (tested grpgain one_gain UnusedCode) (λ w. first w ∷ []) packed (tested_ends grpgain one_gain UnusedCode not_ends_10 word_ends)
groups_end (suc (suc zero)) =
    shown_ends (tested grpgain two_gains UnusedCode) (λ w. first w ∷ second w ∷ []) packed (tested_ends grpgain two_gains UnusedCode not_ends_10 word_ends)
groups_end (suc (suc (suc n))) =
    shown_ends (both grpgain (λ w. group_words n)) (λ p. first p.0 ∷ second p.0 ∷ third p.0 ∷ p.1) (λ gs. (packed gs, drop 3 gs))
    (both_ends grpgain (λ w. group_words n) group_word_lawful word_ends (λ w. groups_end n))

gains_end : (mode n : ℕ) → Ends (gain_words mode n)
gains_end mode n = by_mode Ends mode n (bits_rule (λ A F. Ends F) ends_rule mode n) (λ e. groups_end n) (λ p q r. only_ends [])

-- ---- the field
module _ (row : List ℕ) (start end : ℕ) where
  abbrev count : ℕ → ℕ
  count mode = active_count mode row start end

  field_ends : Ends (field row start end)
  field_ends =
      shown_ends (both (number 2) (behind_mode lenient row start end)) from_parts to_parts
      (both_ends (number 2) (behind_mode lenient row start end) (number_lawful 2) (number_ends 2)
      (λ mode. both_ends (gain_words mode (count mode)) (λ gs. each (item lenient) (bins_of mode gs row start end)) (gain_words_lawful mode (count mode)) (gains_end mode (count mode))
      (λ gs. items_rule (λ A F. Ends F) ends_rule (bins_of mode gs row start end))))

  abbrev pub FieldWhy : List Bool → Got Channel → Type 0
  FieldWhy bs (got c rest) = Unit {0}
  FieldWhy bs (refused k) = (k ≡ InputEnds) ⊎ (((k ≡ GroupWord) × WordThere row start end bs) ⊎ ((k ≡ UnusedCode) × PaddingThere row start end bs))

  abbrev with_items : ℕ → Got (List ℕ) → Got (List ℕ × List Item)
  with_items mode t = and_then {B = List ℕ × List Item} t (λ gs r. and_then {B = List ℕ × List Item} ((each (item lenient) (bins_of mode gs row start end)).dec r) (λ xs r'. got (gs, xs) r'))

  abbrev with_mode : ℕ → Got (List ℕ × List Item) → Got Channel
  with_mode mode t = and_then (and_then {B = ℕ × (List ℕ × List Item)} t (λ b r. got (mode, b) r)) (λ p r. got (from_parts p) r)

  pub field_why : (bs : List Bool) → FieldWhy bs ((field row start end).dec bs)
  unfolding number
  field_why bs = go ((number 2).dec bs) refl (number_eights 2 bs)
    where
      D : ℕ → List Bool → Got (ℕ × (List ℕ × List Item))
      D mode r = and_then {B = ℕ × (List ℕ × List Item)} ((behind_mode lenient row start end mode).dec r) (λ b r'. got (mode, b) r')

      whole : Got ℕ → Got Channel
      whole t = and_then (and_then {B = ℕ × (List ℕ × List Item)} t D) (λ p r. got (from_parts p) r)

      last : (mode : ℕ) (gs : List ℕ) (t : Got (List Item)) → Eight t → FieldWhy bs (with_mode mode (and_then {B = List ℕ × List Item} t (λ xs r'. got (gs, xs) r')))
      last mode gs (got xs r) e = tt
      last mode gs (refused k) e = inl e

      words : (mode : ℕ) (rest : List Bool) → bs ≡ bits_n 2 mode ++ rest → (t : Got (List ℕ)) → GainsWhy mode (count mode) rest t → FieldWhy bs (with_mode mode (with_items mode t))
      words mode rest s (got gs r) y = last mode gs ((each (item lenient) (bins_of mode gs row start end)).dec r) (items_rule (λ A F. Eights F) eights_rule (bins_of mode gs row start end) r)
      words mode rest s (refused k) (inl y) = inl y
      words mode rest s (refused k) (inr (e, inl y)) =
          inr (inl (y.0, record { rest = rest; bits = s ∙ ap (λ (m : ℕ). bits_n 2 m ++ rest) e; is = subst (λ (m : ℕ). WordAbove26 (count m) rest) e y.1 }))
      words mode rest s (refused k) (inr (e, inr y)) =
          inr (inr (y.0, record { rest = rest; bits = s ∙ ap (λ (m : ℕ). bits_n 2 m ++ rest) e; is = subst (λ (m : ℕ). PaddingNotZero (count m) rest) e y.1 }))

      go : (t : Got ℕ) → (number 2).dec bs ≡ t → Eight t → FieldWhy bs (whole ((number 2).dec bs))
      go (got mode rest) e y =
          subst (λ (t : Got ℕ). FieldWhy bs (whole t)) (sym e) (words mode rest ((number_lawful 2).sole bs rest mode e).0 ((gain_words mode (count mode)).dec rest) (gains_why mode (count mode) rest))
      go (refused k) e y = subst (λ (t : Got ℕ). FieldWhy bs (whole t)) (sym e) (inl y)

  -- ---- and the other way round
  mode_3 : (bs rest : List Bool) (k : Refusal) → bs ≡ bits_n 2 3 ++ rest → (group_words (count 3)).dec rest ≡ refused k → (field row start end).dec bs ≡ refused k
  unfolding number gain_words
  mode_3 bs rest k s e =
      let D : ℕ → List Bool → Got (ℕ × (List ℕ × List Item)) = λ mode r. and_then {B = ℕ × (List ℕ × List Item)} ((behind_mode lenient row start end mode).dec r) (λ b r'. got (mode, b) r') in
      ap (λ (l : List Bool). (field row start end).dec l) s
      ∙ ap (λ (t : Got ℕ). and_then (and_then {B = ℕ × (List ℕ × List Item)} t D) (λ p r. got (from_parts p) r)) ((number_lawful 2).back 3 rest (omega arith))
      ∙ ap (λ (t : Got (List ℕ)). with_mode 3 (with_items 3 t)) e

  pub word_refused : (bs : List Bool) → WordThere row start end bs → (field row start end).dec bs ≡ refused GroupWord
  word_refused bs w = mode_3 bs w.rest GroupWord w.bits (word_above (count 3) w.rest w.is)

  pub padding_refused : (bs : List Bool) → PaddingThere row start end bs → (field row start end).dec bs ≡ refused UnusedCode
  padding_refused bs w = mode_3 bs w.rest UnusedCode w.bits (padding_there (count 3) w.rest w.is)

  pub field_read : (bs : List Bool) (f : FieldThere row start end bs) → (field row start end).dec bs ≡ got f.channel f.behind
  field_read bs f = ap (field row start end).dec f.bits ∙ (field_lawful lenient lenient_laws row start end).back f.channel f.behind f.ok

  pub field_there : (bs rest : List Bool) (c : Channel) → (field row start end).dec bs ≡ got c rest → FieldThere row start end bs
  field_there bs rest c e =
      let s = (field_lawful lenient lenient_laws row start end).sole bs rest c e in
      record { channel = c; behind = rest; ok = s.1; bits = s.0 }

  -- ---- 8: nothing is decided yet
  decided : (bs : List Bool) → ((field row start end).dec bs ≡ refused InputEnds → ⊥) → Decided row start end bs
  decided bs n = go ((field row start end).dec bs) refl (field_why bs)
    where
      go : (t : Got Channel) → (field row start end).dec bs ≡ t → FieldWhy bs t → Decided row start end bs
      go (got c rest) e y = inl (field_there bs rest c e)
      go (refused k) e (inl y) = absurd (n (e ∙ ap refused y))
      go (refused k) e (inr (inl y)) = inr (inl y.1)
      go (refused k) e (inr (inr y)) = inr (inr y.1)

  not_eight : (bs : List Bool) → Decided row start end bs → (field row start end).dec bs ≡ refused InputEnds → ⊥
  not_eight bs (inl f) e = got_not f.channel f.behind InputEnds (sym (field_read bs f) ∙ e)
  not_eight bs (inr (inl w)) e = not_ends_9 (same (sym (word_refused bs w) ∙ e))
  not_eight bs (inr (inr w)) e = not_ends_10 (same (sym (padding_refused bs w) ∙ e))

  pub runs_out : (bs : List Bool) → (field row start end).dec bs ≡ refused InputEnds → RunsOut row start end bs
  runs_out bs e = record {
    not_yet = λ d. not_eight bs d e;
    more = (field_ends bs).more;
    then = decided (bs ++ (field_ends bs).more) (field_ends bs).done;
  }

  pub ran_out : (bs : List Bool) → RunsOut row start end bs → (field row start end).dec bs ≡ refused InputEnds
  ran_out bs r = go ((field row start end).dec bs) refl (field_why bs)
    where
      go : (t : Got Channel) → (field row start end).dec bs ≡ t → FieldWhy bs t → (field row start end).dec bs ≡ refused InputEnds
      go (got c rest) e y = absurd (r.not_yet (inl (field_there bs rest c e)))
      go (refused k) e (inl y) = e ∙ ap refused y
      go (refused k) e (inr (inl y)) = absurd (r.not_yet (inr (inl y.1)))
      go (refused k) e (inr (inr y)) = absurd (r.not_yet (inr (inr y.1)))
