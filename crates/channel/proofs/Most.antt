-- How many bits a field has: those of its mode, its gain words and its bins, and not many. Assumes nothing.
use Prim.Native.Nat.{ℕ, zero, suc, ◌+◌, ◌-◌, ◌*◌, ◌/◌, ◌≤◌}
use mathlib.Core.Path.{◌≡◌, refl, sym, ap, ◌∙◌}
use mathlib.Core.List.{List, [], ◌∷◌}
use mathlib.Core.Bool.{Bool, true, false, cond}
use mathlib.Core.Logic.{◌⊎◌, inl, inr}
use native.Mathlib.Nat.{mul-one, one-mul, mul-suc, le_trans, le_of_eq}
use native.Mathlib.Omega.{arith}
use lib.Dec.{eqb, leb}
use lib.ListN.{length, length-append, drop, replicate}
use Rattle.answers.specs.declared.Refusal.TheVariants.{GroupWord}
use Rattle.bits.specs.Format.{Format, number, only, each, each_Ok, each_enc}
use Rattle.bits.proofs.Laws.{length_bits_n}
use Rattle.bits.proofs.Sized.{Sized, number_sized, both_sized, tested_sized, each_sized, sizes_same}
use Rattle.tables.specs.Tables.{mant_bits, vq_bits}
use Rattle.tables.proofs.Rules.{mant_bits_lem, mant_active, vq_most}
use Rattle.gains.specs.Gains.{word_bits, sections, gain_word_bits}
use Rattle.levels.specs.declared.Code.{Code}
use Rattle.levels.specs.Codes.{small_bits, large_bits, code_bits}
use Rattle.levels.proofs.CodeLaws.{coded_sized}
use Rattle.levels.proofs.Signed.{small_width}
use Rattle.channel.specs.Bins.{from, sum_over}
use Rattle.channel.specs.Row.{active_count}
use Rattle.channel.specs.Field.{gain_bit, grpgain, packed, group_words, gain_words, Bin, Item, of_codes, Coder, item, bin_of, bin_at, Channel, field_by}
use Rattle.channel.specs.Shown.{bins_in}
use Rattle.channel.proofs.Over.{sum_none, sum_first}
use Rattle.channel.proofs.Rows.{count_most}
use Rattle.channel.proofs.Laws.{CoderLaws, by_mode}
use Rattle.channel.proofs.Parts.{Parts, parts}
use Rattle.channel.proofs.Same.{Scalar, by_bin}

-- ---- gain words
group_word_sized : Sized grpgain (λ w. 5)
group_word_sized = tested_sized (number 5) (λ w. leb w 26) GroupWord (λ w. 5) (number_sized 5)

group_words_sized : (n : ℕ) → Sized (group_words n) (λ gs. 5 * ((n + 2) / 3))
unfolding group_words
group_words_sized zero gs o = refl
group_words_sized (suc zero) gs o = group_word_sized (packed gs) o.0.0
group_words_sized (suc (suc zero)) gs o = group_word_sized (packed gs) o.0.0
group_words_sized (suc (suc (suc n))) gs o =
    both_sized grpgain (λ w. group_words n) (λ w. 5) (λ w l. 5 * ((n + 2) / 3)) group_word_sized (λ w. group_words_sized n) (packed gs, drop 3 gs) o.0 ∙ next n
  where
    next : (n : ℕ) → 5 + 5 * ((n + 2) / 3) ≡ 5 * ((suc (suc (suc n)) + 2) / 3)
    next n = omega arith

gain_bits_sized : (mode n : ℕ) → Sized (each (λ (k : ℕ). gain_bit mode) (replicate n 0)) (λ gs. n)
gain_bits_sized mode n gs o =
    each_sized (λ (k : ℕ). gain_bit mode) (λ k g. 1) (λ k g o. number_sized 1 _ o.0) (replicate n 0) gs o
    ∙ sizes_same (λ (k : ℕ). gain_bit mode) 1 n gs o ∙ mul-one n

pub gain_words_sized : (mode n : ℕ) → mode ≤ 3 → Sized (gain_words mode n) (λ gs. gain_word_bits mode n)
unfolding gain_word_bits word_bits sections
gain_words_sized mode n few = by_mode (λ F. Sized F (λ gs. gain_word_bits mode n)) mode n bits words neither
  where
    bits : (mode ≡ 1) ⊎ (mode ≡ 2) → Sized (each (λ (k : ℕ). gain_bit mode) (replicate n 0)) (λ gs. gain_word_bits mode n)
    bits (inl e) gs o = gain_bits_sized mode n gs o ∙ rw e (sym (one-mul n))
    bits (inr e) gs o = gain_bits_sized mode n gs o ∙ rw e (sym (one-mul n))

    words : mode ≡ 3 → Sized (group_words n) (λ gs. gain_word_bits mode n)
    words e gs o = group_words_sized n gs o ∙ rw e

    neither : (mode ≡ 1 → ⊥) → (mode ≡ 2 → ⊥) → (mode ≡ 3 → ⊥) → Sized {A = List ℕ} (only []) (λ gs. gain_word_bits mode n)
    neither p q r gs o = let z : mode ≡ 0 = omega arith in rw z

either_most : (t : Bool) (a b n : ℕ) → a ≤ n → b ≤ n → cond t a b ≤ n
either_most true a b n h k = h
either_most false a b n h k = k

-- mode 3 has the most
words_most : (mode n : ℕ) → gain_word_bits mode n ≤ 5 * ((n + 2) / 3)
unfolding gain_word_bits word_bits sections
words_most mode n = go (eqb mode 3) (eqb mode 0)
  where
    go : (t z : Bool) → cond t 5 1 * cond z 0 (cond t ((n + 2) / 3) n) ≤ 5 * ((n + 2) / 3)
    go true true = omega arith
    go true false = omega arith
    go false true = omega arith
    go false false = omega arith

-- ---- a list of bins and their items
-- at places: the sum of what each has
pub bins_long : (F : Coder) (b : ℕ → Bin) (x : ℕ → Item) (k n : ℕ)
    → length (each_enc (item F) (from b k n) (from x k n)) ≡ sum_over (λ j. length ((item F (b j)).enc (x j))) k (k + n)
unfolding from each_enc
bins_long F b x k zero = sym (sum_none (λ j. length ((item F (b j)).enc (x j))) k (k + 0) (omega arith))
bins_long F b x k (suc n) =
    length-append ((item F (b k)).enc (x k)) (each_enc (item F) (from b (suc k) n) (from x (suc k) n))
    ∙ ap (λ (r : ℕ). length ((item F (b k)).enc (x k)) + r) (bins_long F b x (suc k) n) ∙ sym (sum_first (λ j. length ((item F (b j)).enc (x j))) k n)

-- at most m bits each
each_most : {R A : Type 0} (F : R → Format A) (m : ℕ) (rs : List R) (xs : List A) → ((r : R) (a : A) → (F r).Ok a → length ((F r).enc a) ≤ m)
    → each_Ok F rs xs → length (each_enc F rs xs) ≤ m * length rs
unfolding each_Ok each_enc
each_most F m [] xs f o = omega arith
each_most F m (r ∷ rs) [] f o = absurd o
each_most F m (r ∷ rs) (x ∷ xs) f o =
    let a = f r x o.0 in
    let b = each_most F m rs xs f o.1 in
    let s = mul-suc m (length rs) in
    le_trans (le_of_eq (length-append ((F r).enc x) (each_enc F rs xs))) (omega arith)

module _ (F : Coder) (laws : CoderLaws F) where
  -- a code has at most 20 bits: the tag and l at hebap 16
  code_most : (h g : ℕ) → Scalar h g → (c : Code) → (F h g).Ok c → length ((F h g).enc c) ≤ 20
  code_most h g a c o =
      let m = mant_bits_lem h a.0 a.1 in
      le_trans (le_of_eq (ap length (laws.alike h g c) ∙ coded_sized (mant_bits h) g c (laws.among h g c o))) (few m.0 m.1 a.2 c)
    where
      both : (t : Bool) → mant_bits h ≤ 11 → cond t (mant_bits h - 1) (mant_bits h - 2) + cond t (mant_bits h - 1) (mant_bits h) ≤ 20
      both true u = omega arith
      both false u = omega arith

      few : 3 ≤ mant_bits h → mant_bits h ≤ 16 → (g ≡ 1) ⊎ (h ≤ 16) → (c : Code) → code_bits (mant_bits h) g c ≤ 20
      few l u k (Code.Small s) = omega (arith, (small_width (mant_bits h) g l u).1)
      few l u (inl e) (Code.Large n) = rw e (omega arith)
      few l u (inr k) (Code.Large n) = either_most (eqb g 1) (mant_bits h) (small_bits (mant_bits h) g + large_bits (mant_bits h) g) 20 (omega arith) (both (eqb g 2) (mant_active h a.0 k))

  pub item_most : (mode h g : ℕ) (x : Item) → (item F (bin_of mode h g)).Ok x → length ((item F (bin_of mode h g)).enc x) ≤ 120
  unfolding number
  item_most mode h g x =
      by_bin (λ b. (item F b).Ok x → length ((item F b).enc x) ≤ 120) mode h g (λ o. omega arith)
      (λ l u o. le_trans (le_of_eq (length_bits_n (vq_bits h) _)) (omega (arith, vq_most h)))
      (λ g a o. each_most (λ (k : ℕ). F h g) 20 (replicate 6 0) (of_codes x) (λ k c o. code_most h g a c o) o.0)

  bins_most : (b : ℕ → Bin) → ((k : ℕ) (x : Item) → (item F (b k)).Ok x → length ((item F (b k)).enc x) ≤ 120) → (k n : ℕ) (xs : List Item)
      → each_Ok (item F) (from b k n) xs → length (each_enc (item F) (from b k n) xs) ≤ 120 * n
  unfolding from each_Ok each_enc
  bins_most b f k zero xs o = omega arith
  bins_most b f k (suc n) [] o = absurd o
  bins_most b f k (suc n) (x ∷ xs) o =
      let a = f k x o.0 in
      let r = bins_most b f (suc k) n xs o.1 in
      le_trans (le_of_eq (length-append ((item F (b k)).enc x) (each_enc (item F) (from b (suc k) n) xs))) (omega arith)

  module _ (row : List ℕ) (start end : ℕ) (c : Channel) (o : (field_by F row start end).Ok c) where
    p : Parts F row start end c
    p = parts F row start end c o

    -- The field of a channel has two bits for its mode, those of its gain words and those of its bins.
    pub field_bits : length ((field_by F row start end).enc c)
        ≡ 2 + gain_word_bits c.mode (active_count c.mode row start end) + length (each_enc (item F) (bins_in row start end c) c.items)
    unfolding number
    field_bits =
        let n = active_count c.mode row start end in
        let m = length_bits_n 2 c.mode in
        let g = gain_words_sized c.mode n p.mode_is c.gains p.gains_ok in
        rw (length-append, m, length-append, g) (omega arith)

    -- The field of up to 256 bins has at most 31,152 bits: 2, 86 gain words of 5, and 120 for each bin.
    pub field_most : end ≤ 256 → length ((field_by F row start end).enc c) ≤ 31152
    unfolding bin_at
    field_most few =
        let n = active_count c.mode row start end in
        let w = words_most c.mode n in
        let a = count_most c.mode row start end in
        let b = bins_most (bin_at c.mode c.gains row start) (λ k x q. item_most _ _ _ x q) start (end - start) c.items p.items_ok in
        let l = field_bits in
        omega arith
