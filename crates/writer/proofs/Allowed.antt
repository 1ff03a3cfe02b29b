-- Gains that a mode allows stand in gain words. Assumes nothing.
use Prim.Native.Nat.{ℕ, zero, suc, ◌≤◌, ◌<◌}
use mathlib.Core.Path.{◌≡◌, refl, sym, ◌∙◌, subst}
use mathlib.Core.List.{List, [], ◌∷◌}
use mathlib.Core.Bool.{Bool, true, false, true≢false, ◌||◌}
use native.Mathlib.Omega.{arith}
use lib.ListN.{length, get_or, replicate}
use lib.Dec.{eqb, le→leb}
use borrow.Author.Tests.{eqb-true}
use Rattle.bits.specs.Format.{number, each_Ok}
use Rattle.gains.specs.Gains.{gain_value, other_gains, member, allowed_gain, first_code, second_code, third_code, group_of}
use Rattle.channel.specs.Field.{gain_code, gain_bit, grpgain, packed, group_words, gain_words}

-- what holds of each number of a list holds of a member
abbrev Each : (ℕ → Type 0) → List ℕ → Type 0
Each P [] = Unit {0}
Each P (k ∷ ks) = P k × Each P ks

of_member : (P : ℕ → Type 0) (g : ℕ) (ks : List ℕ) → member g ks ≡ true → Each P ks → P g
of_member P g [] h a = absurd (true≢false (sym h))
of_member P g (k ∷ ks) h a = go (eqb g k) refl h (λ q. of_member P g ks q a.1)
  where
    go : (t : Bool) → eqb g k ≡ t → t || member g ks ≡ true → (member g ks ≡ true → P g) → P g
    go true e q more = subst P (sym (eqb-true g k e)) a.0
    go false e q more = more q

-- ---- modes 1 and 2
bits_ok : (mode n : ℕ) (gs : List ℕ) → length gs ≡ n → ((i : ℕ) → i < length gs → (gain_bit mode).Ok (get_or gs i 0)) → each_Ok (λ (k : ℕ). gain_bit mode) (replicate n 0) gs
unfolding each_Ok
bits_ok mode zero [] l a = tt
bits_ok mode zero (g ∷ gs) l a = absurd (omega arith)
bits_ok mode (suc n) [] l a = absurd (omega arith)
bits_ok mode (suc n) (g ∷ gs) l a = (a 0 (omega arith), bits_ok mode n gs (omega arith) (λ i u. a (suc i) (omega arith)))

-- ---- mode 3
abbrev Coded : ℕ → Type 0
Coded g = (gain_code g 3 ≤ 2) × (gain_value (gain_code g 3) 3 ≡ g)

word_ok : (w : ℕ) → w ≤ 26 → grpgain.Ok w
unfolding number
word_ok w h = (omega arith, le→leb w 26 h)

-- the codes of a word are those that it was made of
codes_back : (a b c : ℕ) → a ≤ 2 → b ≤ 2 → c ≤ 2 → (first_code (group_of a b c) ≡ a) × (second_code (group_of a b c) ≡ b) × (third_code (group_of a b c) ≡ c)
codes_back a b c p q r = (omega arith, omega arith, omega arith)

groups_ok : (n : ℕ) (gs : List ℕ) → length gs ≡ n → ((i : ℕ) → i < length gs → Coded (get_or gs i 0)) → (group_words n).Ok gs
unfolding group_words
groups_ok zero [] l a = refl
groups_ok zero (x ∷ gs) l a = absurd (omega arith)
groups_ok (suc zero) [] l a = absurd (omega arith)
groups_ok (suc zero) (x ∷ []) l a =
    let i = a 0 (omega arith) in
    let p = i.0 in
    let w = codes_back (gain_code x 3) 0 0 p (omega arith) (omega arith) in
    ((word_ok (packed (x ∷ [])) (omega arith), rw (w.1, w.2) tt), rw (w.0, i.1))
groups_ok (suc zero) (x ∷ y ∷ gs) l a = absurd (omega arith)
groups_ok (suc (suc zero)) [] l a = absurd (omega arith)
groups_ok (suc (suc zero)) (x ∷ []) l a = absurd (omega arith)
groups_ok (suc (suc zero)) (x ∷ y ∷ []) l a =
    let i = a 0 (omega arith) in
    let j = a 1 (omega arith) in
    let p = i.0 in
    let q = j.0 in
    let w = codes_back (gain_code x 3) (gain_code y 3) 0 p q (omega arith) in
    ((word_ok (packed (x ∷ y ∷ [])) (omega arith), rw w.2 tt), rw (w.0, w.1, i.1, j.1))
groups_ok (suc (suc zero)) (x ∷ y ∷ z ∷ gs) l a = absurd (omega arith)
groups_ok (suc (suc (suc n))) [] l a = absurd (omega arith)
groups_ok (suc (suc (suc n))) (x ∷ []) l a = absurd (omega arith)
groups_ok (suc (suc (suc n))) (x ∷ y ∷ []) l a = absurd (omega arith)
groups_ok (suc (suc (suc n))) (x ∷ y ∷ z ∷ gs) l a =
    let i = a 0 (omega arith) in
    let j = a 1 (omega arith) in
    let k = a 2 (omega arith) in
    let p = i.0 in
    let q = j.0 in
    let r = k.0 in
    let w = codes_back (gain_code x 3) (gain_code y 3) (gain_code z 3) p q r in
    ((word_ok (packed (x ∷ y ∷ z ∷ gs)) (omega arith), groups_ok n gs (omega arith) (λ m u. a (suc (suc (suc m))) (omega arith))), rw (w.0, w.1, w.2, i.1, j.1, k.1))

-- ---- any mode
pub gains_ok : (mode n : ℕ) (gs : List ℕ) → mode ≤ 3 → (mode ≡ 0 → n ≡ 0) → length gs ≡ n → ((i : ℕ) → i < length gs → allowed_gain mode (get_or gs i 0) ≡ true) → (gain_words mode n).Ok gs
unfolding gain_words allowed_gain other_gains gain_value number
gains_ok zero n gs m z l a = none gs (l ∙ z refl)
  where
    none : (gs : List ℕ) → length gs ≡ 0 → gs ≡ []
    none [] l = refl
    none (g ∷ gs) l = absurd (omega arith)
gains_ok (suc zero) n gs m z l a = bits_ok 1 n gs l (λ i u. of_member (λ g. (gain_bit 1).Ok g) (get_or gs i 0) (1 ∷ 2 ∷ []) (a i u) ((omega arith, refl), ((omega arith, refl), tt)))
gains_ok (suc (suc zero)) n gs m z l a = bits_ok 2 n gs l (λ i u. of_member (λ g. (gain_bit 2).Ok g) (get_or gs i 0) (1 ∷ 4 ∷ []) (a i u) ((omega arith, refl), ((omega arith, refl), tt)))
gains_ok (suc (suc (suc zero))) n gs m z l a =
    groups_ok n gs l (λ i u. of_member Coded (get_or gs i 0) (1 ∷ 2 ∷ 4 ∷ []) (a i u) ((omega arith, refl), ((omega arith, refl), ((omega arith, refl), tt))))
gains_ok (suc (suc (suc (suc mode)))) n gs m z l a = absurd (omega arith)
