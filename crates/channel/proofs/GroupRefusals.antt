-- When the group words of mode 3 are refused, and with what. Assumes nothing.
use Prim.Native.Nat.{ℕ, zero, suc, ◌+◌, ◌*◌, ◌≤◌, ◌<◌, ◌^◌}
use mathlib.Core.Path.{◌≡◌, refl, sym, ap, ◌∙◌, subst}
use mathlib.Core.List.{List, [], ◌∷◌, ◌++◌, append_assoc}
use mathlib.Core.Bool.{Bool, true, false, cond, ◌&&◌}
use mathlib.Core.Logic.{◌⊎◌, inl, inr}
use native.Mathlib.Omega.{arith}
use borrow.Author.Tests.{le-leb, lt-leb, leb-true, leb-false, eqb-false, ne_eqb}
use lib.Dec.{eqb, leb}
use lib.ListN.{length, get_or}
use Rattle.answers.specs.declared.Refusal.{Refusal}
use Rattle.answers.specs.declared.Refusal.TheVariants.{InputEnds, GroupWord, UnusedCode}
use Rattle.bits.specs.Bits.{bits_n}
use Rattle.bits.specs.Format.{Got, got, refused, and_then, number}
use Rattle.bits.proofs.Lawful.{number_lawful}
use Rattle.gains.specs.Gains.{sections, second_code, third_code, word_codes}
use Rattle.gains.proofs.Laws.{group_codes_lem}
use Rattle.channel.specs.Field.{grpgain, first, second, third, one_gain, two_gains, group_words}
use Rattle.channel.specs.Standing.{words_bits, Fine, Words, WordAbove26, PaddingNotZero}
use Rattle.bits.proofs.Refusals.{Eight, number_eights}

-- ---- one word
-- a word of five bits is not there, is above 26, or is fine
pub data WordCase (bs : List Bool) : Type 0 where
  short : grpgain.dec bs ≡ refused InputEnds → WordCase bs
  above : (w : ℕ) (rest : List Bool) → bs ≡ bits_n 5 w ++ rest → w < 32 → 26 < w → grpgain.dec bs ≡ refused GroupWord → WordCase bs
  fine : (w : ℕ) (rest : List Bool) → bs ≡ bits_n 5 w ++ rest → w ≤ 26 → grpgain.dec bs ≡ got w rest → WordCase bs

word_case : (bs : List Bool) → WordCase bs
unfolding number
word_case bs = go ((number 5).dec bs) refl (number_eights 5 bs)
  where
    test : (w : ℕ) (rest : List Bool) (t : Bool) → leb w 26 ≡ t → grpgain.dec bs ≡ cond t (got w rest) (refused GroupWord) → (bs ≡ bits_n 5 w ++ rest) × (w < 2 ^ 5) → WordCase bs
    test w rest true l e s = fine w rest s.0 (leb-true w 26 l) e
    test w rest false l e s = above w rest s.0 (let u = s.1 in omega arith) (leb-false w 26 l) e

    go : (t : Got ℕ) → (number 5).dec bs ≡ t → (Eight t) → WordCase bs
    go (got w rest) e q =
        test w rest (leb w 26) refl (ap (λ (t : Got ℕ). and_then t (λ a r. cond (leb a 26) (got a r) (refused GroupWord))) e) ((number_lawful 5).sole bs rest w e)
    go (refused k) e q = short (ap (λ (t : Got ℕ). and_then t (λ a r. cond (leb a 26) (got a r) (refused GroupWord))) e ∙ ap refused q)

-- ---- words up to one
-- the first
first_word : {bs : List Bool} (w : ℕ) (rest : List Bool) → bs ≡ bits_n 5 w ++ rest → Words bs
unfolding words_bits
first_word w rest s = record { before = []; word = w; behind = rest; fine = tt; bits = s }

-- and one behind a word that is fine
one_more_lem : {bs : List Bool} (w : ℕ) (rest : List Bool) → bs ≡ bits_n 5 w ++ rest → w ≤ 26 → Words rest → Words bs
unfolding words_bits
one_more_lem w rest s l a = record {
  before = w ∷ a.before;
  word = a.word;
  behind = a.behind;
  fine = (l, a.fine);
  bits = s ∙ ap (λ (t : List Bool). bits_n 5 w ++ t) a.bits ∙ sym (append_assoc (bits_n 5 w) (words_bits a.before) (bits_n 5 a.word ++ a.behind));
}

-- ---- words of n gains: why they are refused
abbrev pub Why : ℕ → List Bool → Got (List ℕ) → Type 0
Why n bs (got gs rest) = Unit {0}
Why n bs (refused k) = (k ≡ InputEnds) ⊎ (((k ≡ GroupWord) × WordAbove26 n bs) ⊎ ((k ≡ UnusedCode) × PaddingNotZero n bs))

-- a last word that is not full: code is missing, and not 0
record Missing (n w : ℕ) : Type 0 where
  code : ℕ
  third : code < 3
  missing : n ≤ 3 * 0 + code
  not_zero : get_or (word_codes 3 w) code 0 ≡ 0 → ⊥

one_missing : (w : ℕ) → one_gain w ≡ false → Missing 1 w
one_missing w h = go (eqb (second_code w) 0) refl h
  where
    go : (t : Bool) → eqb (second_code w) 0 ≡ t → t && eqb (third_code w) 0 ≡ false → Missing 1 w
    go true e q = record { code = 2; third = omega arith; missing = omega arith; not_zero = rw (group_codes_lem 3 w refl) (eqb-false (third_code w) 0 q) }
    go false e q = record { code = 1; third = omega arith; missing = omega arith; not_zero = rw (group_codes_lem 3 w refl) (eqb-false (second_code w) 0 e) }

two_missing : (w : ℕ) → two_gains w ≡ false → Missing 2 w
two_missing w h = record { code = 2; third = omega arith; missing = omega arith; not_zero = rw (group_codes_lem 3 w refl) (eqb-false (third_code w) 0 h) }

module _ (n : ℕ) (one : sections 3 n ≡ 1) (ok : ℕ → Bool) (to : ℕ → List ℕ) where
  abbrev last_word : Got ℕ → Got (List ℕ)
  last_word t = and_then (and_then t (λ w rest. cond (ok w) (got w rest) (refused UnusedCode))) (λ w rest. got (to w) rest)

  last_why : ((w : ℕ) → ok w ≡ false → Missing n w) → (bs : List Bool) → Why n bs (last_word (grpgain.dec bs))
  unfolding first_word
  last_why miss bs = go (word_case bs)
    where
      test : (w : ℕ) (rest : List Bool) → bs ≡ bits_n 5 w ++ rest → w ≤ 26 → (t : Bool) → ok w ≡ t → Why n bs (and_then (cond t (got w rest) (refused UnusedCode)) (λ w rest. got (to w) rest))
      test w rest s l true e = tt
      test w rest s l false e =
          let m = miss w e in
          inr (inr (
            refl,
            record {
              words = first_word w rest s;
              last = sym one;
              most = l;
              code = m.code;
              third = m.third;
              missing = m.missing;
              not_zero = m.not_zero;
            },
          ))

      go : WordCase bs → Why n bs (last_word (grpgain.dec bs))
      go (short e) = subst (λ (t : Got ℕ). Why n bs (last_word t)) (sym e) (inl refl)
      go (above w rest s u l e) =
          subst (λ (t : Got ℕ). Why n bs (last_word t)) (sym e)
          (inr (inl (refl, record { words = first_word w rest s; due = rw one (omega arith); above = l; five = u })))
      go (fine w rest s l e) = subst (λ (t : Got ℕ). Why n bs (last_word t)) (sym e) (test w rest s l (ok w) refl)

-- a full word, and the words behind it
more_sections : (n : ℕ) → sections 3 (suc (suc (suc n))) ≡ suc (sections 3 n)
unfolding sections
more_sections n = omega arith

module _ (n : ℕ) where
  abbrev m : ℕ
  m = suc (suc (suc n))

  abbrev full_word : Got ℕ → Got (List ℕ)
  full_word t =
      and_then (and_then {B = ℕ × List ℕ} t (λ w rest. and_then ((group_words n).dec rest) (λ gs rest'. got (w, gs) rest')))
      (λ p rest. got (first p.0 ∷ second p.0 ∷ third p.0 ∷ p.1) rest)

  abbrev behind_word : ℕ → Got (List ℕ) → Got (List ℕ)
  behind_word w t = and_then (and_then {B = ℕ × List ℕ} t (λ gs rest'. got (w, gs) rest')) (λ p rest. got (first p.0 ∷ second p.0 ∷ third p.0 ∷ p.1) rest)

  full_why : ((bs : List Bool) → Why n bs ((group_words n).dec bs)) → (bs : List Bool) → Why m bs (full_word (grpgain.dec bs))
  unfolding first_word one_more_lem
  full_why why bs = go (word_case bs)
    where
      later : (w : ℕ) (rest : List Bool) → bs ≡ bits_n 5 w ++ rest → w ≤ 26 → (t : Got (List ℕ)) → Why n rest t → Why m bs (behind_word w t)
      later w rest s l (got gs r) y = tt
      later w rest s l (refused k) (inl y) = inl y
      later w rest s l (refused k) (inr (inl y)) =
          let a = y.1 in
          let d = a.due in
          inr (inl (y.0, record { words = one_more_lem w rest s l a.words; due = rw (more_sections n) (omega arith); above = a.above; five = a.five }))
      later w rest s l (refused k) (inr (inr y)) =
          let a = y.1 in
          let d = a.missing in
          inr (inr (
            y.0,
            record {
              words = one_more_lem w rest s l a.words;
              last = ap suc a.last ∙ sym (more_sections n);
              most = a.most;
              code = a.code;
              third = a.third;
              missing = omega arith;
              not_zero = a.not_zero;
            },
          ))

      go : WordCase bs → Why m bs (full_word (grpgain.dec bs))
      go (short e) = subst (λ (t : Got ℕ). Why m bs (full_word t)) (sym e) (inl refl)
      go (above w rest s u l e) =
          subst (λ (t : Got ℕ). Why m bs (full_word t)) (sym e)
          (inr (inl (refl, record { words = first_word w rest s; due = rw (more_sections n) (omega arith); above = l; five = u })))
      go (fine w rest s l e) = subst (λ (t : Got ℕ). Why m bs (full_word t)) (sym e) (later w rest s l ((group_words n).dec rest) (why rest))

pub groups_why : (n : ℕ) (bs : List Bool) → Why n bs ((group_words n).dec bs)
unfolding group_words sections
groups_why zero bs = tt
groups_why (suc zero) bs = last_why 1 refl one_gain (λ w. first w ∷ []) one_missing bs
groups_why (suc (suc zero)) bs = last_why 2 refl two_gains (λ w. first w ∷ second w ∷ []) two_missing bs
groups_why (suc (suc (suc n))) bs = full_why n (groups_why n) bs

-- ---- and where they are
word_refused : (w : ℕ) (rest : List Bool) → w < 32 → 26 < w → grpgain.dec (bits_n 5 w ++ rest) ≡ refused GroupWord
unfolding number
word_refused w rest u l =
    ap (λ (t : Got ℕ). and_then t (λ a r. cond (leb a 26) (got a r) (refused GroupWord))) ((number_lawful 5).back w rest (omega arith))
    ∙ ap (λ (t : Bool). cond t (got w rest) (refused GroupWord)) (lt-leb w 26 l)

word_read : (w : ℕ) (rest : List Bool) → w ≤ 26 → grpgain.dec (bits_n 5 w ++ rest) ≡ got w rest
unfolding number
word_read w rest l =
    ap (λ (t : Got ℕ). and_then t (λ a r. cond (leb a 26) (got a r) (refused GroupWord))) ((number_lawful 5).back w rest (omega arith))
    ∙ ap (λ (t : Bool). cond t (got w rest) (refused GroupWord)) (le-leb w 26 l)

-- the word u is read, and the words behind it refused
behind_refused : (n u : ℕ) (k : Refusal) (us : List ℕ) (l : List Bool) → u ≤ 26 → (group_words n).dec (words_bits us ++ l) ≡ refused k
    → full_word n (grpgain.dec ((bits_n 5 u ++ words_bits us) ++ l)) ≡ refused k
behind_refused n u k us l f e =
    ap (λ (t : List Bool). full_word n (grpgain.dec t)) (append_assoc (bits_n 5 u) (words_bits us) l)
    ∙ ap (full_word n) (word_read u (words_bits us ++ l) f)
    ∙ ap (behind_word n u) e

above_back : (n : ℕ) (ws : List ℕ) (w : ℕ) (rest : List Bool) → Fine ws → 26 < w → w < 32 → length ws < sections 3 n
    → (group_words n).dec (words_bits ws ++ (bits_n 5 w ++ rest)) ≡ refused GroupWord
unfolding group_words words_bits sections
above_back zero ws w rest f l u d = absurd (omega arith)
above_back (suc zero) [] w rest f l u d = ap (last_word 1 refl one_gain (λ w. first w ∷ [])) (word_refused w rest u l)
above_back (suc zero) (v ∷ ws) w rest f l u d = absurd (omega arith)
above_back (suc (suc zero)) [] w rest f l u d = ap (last_word 2 refl two_gains (λ w. first w ∷ second w ∷ [])) (word_refused w rest u l)
above_back (suc (suc zero)) (v ∷ ws) w rest f l u d = absurd (omega arith)
above_back (suc (suc (suc n))) [] w rest f l u d = ap (full_word n) (word_refused w rest u l)
above_back (suc (suc (suc n))) (v ∷ ws) w rest f l u d = behind_refused n v GroupWord ws (bits_n 5 w ++ rest) f.0 (above_back n ws w rest f.1 l u (omega arith))

one_padded : (w code : ℕ) → code < 3 → 1 ≤ code → (get_or (word_codes 3 w) code 0 ≡ 0 → ⊥) → one_gain w ≡ false
one_padded w zero l m z = absurd (omega arith)
one_padded w (suc zero) l m z = let y : second_code w ≡ 0 → ⊥ = rw (group_codes_lem 3 w refl) at z in rw (ne_eqb (second_code w) 0 y)
one_padded w (suc (suc zero)) l m z = let y : third_code w ≡ 0 → ⊥ = rw (group_codes_lem 3 w refl) at z in rw (ne_eqb (third_code w) 0 y) (go (eqb (second_code w) 0))
  where
    go : (t : Bool) → t && false ≡ false
    go true = refl
    go false = refl
one_padded w (suc (suc (suc code))) l m z = absurd (omega arith)

two_padded : (w code : ℕ) → code < 3 → 2 ≤ code → (get_or (word_codes 3 w) code 0 ≡ 0 → ⊥) → two_gains w ≡ false
two_padded w zero l m z = absurd (omega arith)
two_padded w (suc zero) l m z = absurd (omega arith)
two_padded w (suc (suc zero)) l m z = let y : third_code w ≡ 0 → ⊥ = rw (group_codes_lem 3 w refl) at z in rw (ne_eqb (third_code w) 0 y)
two_padded w (suc (suc (suc code))) l m z = absurd (omega arith)

last_refused : (n : ℕ) (one : sections 3 n ≡ 1) (ok : ℕ → Bool) (to : ℕ → List ℕ) (w : ℕ) (rest : List Bool) → w ≤ 26 → ok w ≡ false
    → last_word n one ok to (grpgain.dec (bits_n 5 w ++ rest)) ≡ refused UnusedCode
last_refused n one ok to w rest l e =
    ap (last_word n one ok to) (word_read w rest l) ∙ ap (λ (t : Bool). and_then (cond t (got w rest) (refused UnusedCode)) (λ w rest. got (to w) rest)) e

padding_back : (n : ℕ) (ws : List ℕ) (w code : ℕ) (rest : List Bool) → Fine ws → w ≤ 26 → suc (length ws) ≡ sections 3 n → code < 3 → n ≤ 3 * length ws + code
    → (get_or (word_codes 3 w) code 0 ≡ 0 → ⊥) → (group_words n).dec (words_bits ws ++ (bits_n 5 w ++ rest)) ≡ refused UnusedCode
unfolding group_words words_bits sections
padding_back zero ws w code rest f l d c m z = absurd (omega arith)
padding_back (suc zero) [] w code rest f l d c m z = last_refused 1 refl one_gain (λ w. first w ∷ []) w rest l (one_padded w code c (omega arith) z)
padding_back (suc zero) (v ∷ ws) w code rest f l d c m z = absurd (omega arith)
padding_back (suc (suc zero)) [] w code rest f l d c m z = last_refused 2 refl two_gains (λ w. first w ∷ second w ∷ []) w rest l (two_padded w code c (omega arith) z)
padding_back (suc (suc zero)) (v ∷ ws) w code rest f l d c m z = absurd (omega arith)
padding_back (suc (suc (suc n))) [] w code rest f l d c m z = absurd (omega arith)
padding_back (suc (suc (suc n))) (v ∷ ws) w code rest f l d c m z =
    behind_refused n v UnusedCode ws (bits_n 5 w ++ rest) f.0 (padding_back n ws w code rest f.1 l (omega arith) c (omega arith) z)

pub word_above : (n : ℕ) (bs : List Bool) → WordAbove26 n bs → (group_words n).dec bs ≡ refused GroupWord
word_above n bs a =
    let w = a.words in
    ap (group_words n).dec w.bits ∙ above_back n w.before w.word w.behind w.fine a.above a.five a.due

pub padding_there : (n : ℕ) (bs : List Bool) → PaddingNotZero n bs → (group_words n).dec bs ≡ refused UnusedCode
padding_there n bs a =
    let w = a.words in
    ap (group_words n).dec w.bits ∙ padding_back n w.before w.word a.code w.behind w.fine a.most a.last a.third a.missing a.not_zero
