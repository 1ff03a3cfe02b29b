-- The field reads back what it writes, and reads nothing else. Assumes nothing.
use Prim.Native.Nat.{ℕ, zero, suc, ◌≤◌, ◌<◌, ◌^◌}
use mathlib.Core.Path.{◌≡◌, refl, ap}
use mathlib.Core.List.{List, [], ◌∷◌}
use mathlib.Core.Bool.{Bool, true, false, cond, ◌&&◌, ◌||◌}
use mathlib.Core.Logic.{◌⊎◌, inl, inr}
use native.Mathlib.Omega.{arith}
use lib.ListN.{replicate, drop}
use lib.Dec.{leb, eqb, T, leb→le, eqb→eq}
use borrow.Author.Tests.{eqb-true, eqb-false}
use Rattle.answers.specs.declared.Refusal.TheVariants.{GroupWord, UnusedCode}
use Rattle.bits.specs.Format.{Format, number, only, both, tested, each}
use Rattle.bits.proofs.Lawful.{Lawful, number_lawful, only_lawful, both_lawful, tested_lawful, shown_lawful, each_lawful}
use Rattle.tables.specs.Tables.{mant_bits, vq_bits}
use Rattle.gains.specs.Gains.{gain_value, first_code, second_code, third_code, group_of}
use Rattle.levels.specs.declared.Code.{Code}
use Rattle.levels.proofs.CodeLaws.{coded_lawful}
use Rattle.channel.specs.Row.{active_count}
use Rattle.channel.specs.Field.{one_gain, two_gains, gain_code, gain_bit, grpgain, first, second, third, packed, group_words, gain_words, Bin, none, book, scalar, nothing, index, codes, of_index, of_codes, Coder, lenient, item, bins_of, from_parts, to_parts, behind_mode, field_by}

-- ---- gain words
bit_kept : (mode : ℕ) → (mode ≡ 1) ⊎ (mode ≡ 2) → (c : ℕ) → c < 2 ^ 1 → gain_code (gain_value c mode) mode ≡ c
unfolding gain_value
bit_kept mode m zero h = refl
bit_kept mode (inl e) (suc zero) h = rw e
bit_kept mode (inr e) (suc zero) h = rw e
bit_kept mode m (suc (suc c)) h = absurd (omega arith)

pub gain_bit_lawful : (mode : ℕ) → (mode ≡ 1) ⊎ (mode ≡ 2) → Lawful (gain_bit mode)
unfolding number
gain_bit_lawful mode m = shown_lawful (number 1) (λ c. gain_value c mode) (λ g. gain_code g mode) (number_lawful 1) (bit_kept mode m)

pub group_word_lawful : Lawful grpgain
group_word_lawful = tested_lawful (number 5) (λ w. leb w 26) GroupWord (number_lawful 5)

code_kept : (c : ℕ) → c ≤ 2 → gain_code (gain_value c 3) 3 ≡ c
unfolding gain_value
code_kept zero h = refl
code_kept (suc zero) h = refl
code_kept (suc (suc zero)) h = refl
code_kept (suc (suc (suc c))) h = absurd (omega arith)

-- the three codes of a word
three_codes : (w : ℕ) → T (leb w 26) → (first_code w ≤ 2) × (second_code w ≤ 2) × (third_code w ≤ 2)
three_codes w t = let h = leb→le w 26 t in (omega arith, omega arith, omega arith)

-- make the word
word_made : (w : ℕ) → T (leb w 26) → group_of (first_code w) (second_code w) (third_code w) ≡ w
word_made w t = let h = leb→le w 26 t in omega arith

both_zero : (a b : ℕ) → T (eqb a 0 && eqb b 0) → (a ≡ 0) × (b ≡ 0)
both_zero a b h = go (eqb a 0) refl h
  where
    go : (t : Bool) → eqb a 0 ≡ t → T (t && eqb b 0) → (a ≡ 0) × (b ≡ 0)
    go true e k = (eqb-true a 0 e, eqb→eq b 0 k)
    go false e k = absurd k

one_kept : (w : ℕ) → (tested grpgain one_gain UnusedCode).Ok w → packed (first w ∷ []) ≡ w
one_kept w h =
    let s = three_codes w h.0.1 in
    let m = word_made w h.0.1 in
    let z = both_zero (second_code w) (third_code w) h.1 in
    rw (code_kept (first_code w) s.0) (omega arith)

two_kept : (w : ℕ) → (tested grpgain two_gains UnusedCode).Ok w → packed (first w ∷ second w ∷ []) ≡ w
two_kept w h =
    let s = three_codes w h.0.1 in
    let m = word_made w h.0.1 in
    let z : third_code w ≡ 0 = eqb→eq _ _ h.1 in
    rw (code_kept (first_code w) s.0, code_kept (second_code w) s.1) (omega arith)

three_kept : (w : ℕ) (gs : List ℕ) → grpgain.Ok w → packed (first w ∷ second w ∷ third w ∷ gs) ≡ w
three_kept w gs h =
    let s = three_codes w h.1 in
    rw (code_kept (first_code w) s.0, code_kept (second_code w) s.1, code_kept (third_code w) s.2) (word_made w h.1)

pub group_words_lawful : (n : ℕ) → Lawful (group_words n)
unfolding group_words
group_words_lawful zero = only_lawful []
group_words_lawful (suc zero) =
    shown_lawful (tested grpgain one_gain UnusedCode) (λ w. first w ∷ []) packed
    (tested_lawful grpgain one_gain UnusedCode group_word_lawful) one_kept
group_words_lawful (suc (suc zero)) =
    shown_lawful (tested grpgain two_gains UnusedCode) (λ w. first w ∷ second w ∷ []) packed
    (tested_lawful grpgain two_gains UnusedCode group_word_lawful) two_kept
group_words_lawful (suc (suc (suc n))) =
    shown_lawful (both grpgain (λ w. group_words n)) (λ p. first p.0 ∷ second p.0 ∷ third p.0 ∷ p.1) (λ gs. (packed gs, drop 3 gs))
    (both_lawful grpgain (λ w. group_words n) group_word_lawful (λ w. group_words_lawful n))
    (λ p h. ap {B = ℕ × List ℕ} (λ (x : ℕ). (x, p.1)) (three_kept p.0 p.1 h.0))

-- the gain words, by the mode
pub by_mode : (P : Format (List ℕ) → Type 0) (mode n : ℕ) → ((mode ≡ 1) ⊎ (mode ≡ 2) → P (each (λ (k : ℕ). gain_bit mode) (replicate n 0)))
    → (mode ≡ 3 → P (group_words n)) → ((mode ≡ 1 → ⊥) → (mode ≡ 2 → ⊥) → (mode ≡ 3 → ⊥) → P (only [])) → P (gain_words mode n)
unfolding gain_words
by_mode P mode n bits words neither = go (eqb mode 1) refl (eqb mode 2) refl (eqb mode 3) refl
  where
    go : (a : Bool) → eqb mode 1 ≡ a → (b : Bool) → eqb mode 2 ≡ b → (c : Bool) → eqb mode 3 ≡ c
        → P (cond (a || b) (each (λ (k : ℕ). gain_bit mode) (replicate n 0)) (cond c (group_words n) (only [])))
    go true p b q c r = bits (inl (eqb-true mode 1 p))
    go false p true q c r = bits (inr (eqb-true mode 2 q))
    go false p false q true r = words (eqb-true mode 3 r)
    go false p false q false r = neither (eqb-false mode 1 p) (eqb-false mode 2 q) (eqb-false mode 3 r)

pub gain_words_lawful : (mode n : ℕ) → Lawful (gain_words mode n)
gain_words_lawful mode n =
    by_mode Lawful mode n (λ m. each_lawful (λ (k : ℕ). gain_bit mode) (λ k. gain_bit_lawful mode m) (replicate n 0)) (λ e. group_words_lawful n) (λ p q r. only_lawful [])

-- ---- bins
-- a coder's laws: it reads back what it writes, and its codes are among those of the lenient one, with the same bits
pub record CoderLaws (F : Coder) : Type 0 where
  pub lawful : (h g : ℕ) → Lawful (F h g)
  pub among : (h g : ℕ) (c : Code) → (F h g).Ok c → (lenient h g).Ok c
  pub alike : (h g : ℕ) (c : Code) → (F h g).enc c ≡ (lenient h g).enc c

pub lenient_laws : CoderLaws lenient
lenient_laws = record { lawful = λ h g. coded_lawful (mant_bits h) g; among = λ h g c o. o; alike = λ h g c. refl }

module _ (F : Coder) (laws : CoderLaws F) where
  pub item_lawful : (b : Bin) → Lawful (item F b)
  item_lawful none = only_lawful nothing
  item_lawful (book h) = shown_lawful (number (vq_bits h)) index of_index (number_lawful (vq_bits h)) (λ a h. refl)
  item_lawful (scalar h g) =
      shown_lawful (each (λ (k : ℕ). F h g) (replicate 6 0)) codes of_codes (each_lawful (λ (k : ℕ). F h g) (λ k. laws.lawful h g) (replicate 6 0)) (λ a h. refl)

  pub behind_lawful : (row : List ℕ) (start end mode : ℕ) → Lawful (behind_mode F row start end mode)
  behind_lawful row start end mode =
      both_lawful (gain_words mode (active_count mode row start end)) (λ gains. each (item F) (bins_of mode gains row start end))
      (gain_words_lawful mode (active_count mode row start end)) (λ gains. each_lawful (item F) item_lawful (bins_of mode gains row start end))

  -- The whole field reads back what it writes, and reads nothing else.
  pub field_lawful : (row : List ℕ) (start end : ℕ) → Lawful (field_by F row start end)
  field_lawful row start end =
      shown_lawful (both (number 2) (behind_mode F row start end)) from_parts to_parts
      (both_lawful (number 2) (behind_mode F row start end) (number_lawful 2) (behind_lawful row start end)) (λ p o. refl)
