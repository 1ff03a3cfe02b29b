-- A field has a mode up to 3, a gain for each active bin and an item for each bin. Assumes nothing.
use Prim.Native.Nat.{ℕ, zero, suc, ◌-◌, ◌≤◌}
use mathlib.Core.Path.{◌≡◌, refl, sym, ap, ◌∙◌}
use mathlib.Core.List.{List, [], ◌∷◌}
use mathlib.Core.Logic.{◌⊎◌}
use native.Mathlib.Omega.{arith}
use lib.ListN.{length, length-replicate, replicate, drop}
use Rattle.bits.specs.Format.{Format, number, each, each_Ok}
use Rattle.channel.specs.Row.{active_count}
use Rattle.channel.specs.Field.{gain_bit, group_words, gain_words, Coder, item, bin_at, Channel, field_by}
use Rattle.channel.specs.Shown.{bins_in}
use Rattle.channel.proofs.Over.{length_from}
use Rattle.channel.proofs.Laws.{by_mode}

pub each_count : {R A : Type 0} (F : R → Format A) (rs : List R) (xs : List A) → (each F rs).Ok xs → length xs ≡ length rs
unfolding each_Ok
each_count F [] [] o = refl
each_count F [] (x ∷ xs) o = absurd o
each_count F (r ∷ rs) [] o = absurd o
each_count F (r ∷ rs) (x ∷ xs) o = ap suc (each_count F rs xs o.1)

group_words_count : (n : ℕ) (gs : List ℕ) → (group_words n).Ok gs → length gs ≡ n
unfolding group_words
group_words_count zero gs o = ap length o
group_words_count (suc zero) gs o = sym (ap length o.1)
group_words_count (suc (suc zero)) gs o = sym (ap length o.1)
group_words_count (suc (suc (suc n))) gs o = sym (ap length o.1) ∙ ap (λ (k : ℕ). suc (suc (suc k))) (group_words_count n (drop 3 gs) o.0.1)

pub gain_words_count : (mode n : ℕ) → mode ≤ 3 → (mode ≡ 0 → n ≡ 0) → (gs : List ℕ) → (gain_words mode n).Ok gs → length gs ≡ n
gain_words_count mode n few zeroes gs = by_mode (λ F. F.Ok gs → length gs ≡ n) mode n bits (λ e. group_words_count n gs) neither
  where
    bits : (mode ≡ 1) ⊎ (mode ≡ 2) → (each (λ (k : ℕ). gain_bit mode) (replicate n 0)).Ok gs → length gs ≡ n
    bits m o = each_count (λ (k : ℕ). gain_bit mode) (replicate n 0) gs o ∙ length-replicate n 0

    neither : (mode ≡ 1 → ⊥) → (mode ≡ 2 → ⊥) → (mode ≡ 3 → ⊥) → gs ≡ [] → length gs ≡ n
    neither p q r o = let z : mode ≡ 0 = omega arith in ap length o ∙ sym (zeroes z)

-- what is known of a channel of the layout
pub record Parts (F : Coder) (row : List ℕ) (start end : ℕ) (c : Channel) : Type 0 where
  pub mode_is : c.mode ≤ 3
  pub gains_ok : (gain_words c.mode (active_count c.mode row start end)).Ok c.gains
  pub items_ok : each_Ok (item F) (bins_in row start end c) c.items

module _ (F : Coder) (row : List ℕ) (start end : ℕ) (c : Channel) where
  pub parts : (field_by F row start end).Ok c → Parts F row start end c
  unfolding number
  parts o = record { mode_is = omega (arith, o.0.0); gains_ok = o.0.1.0; items_ok = o.0.1.1 }

  pub parts_ok : Parts F row start end c → (field_by F row start end).Ok c
  unfolding number
  parts_ok p = ((omega (arith, p.mode_is), (p.gains_ok, p.items_ok)), refl)

  module _ (p : Parts F row start end c) where
    pub field_items : length c.items ≡ end - start
    field_items = each_count (item F) (bins_in row start end c) c.items p.items_ok ∙ length_from (bin_at c.mode c.gains row start) start (end - start)
