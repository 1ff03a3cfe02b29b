-- The loops that read gain words: what is known before each turn, and what a turn does. Assumes nothing.
use Prim.Native.Nat.{ℕ, zero, suc, ◌+◌, ◌-◌, ◌≤◌, ◌<◌, min}
use mathlib.Core.Path.{◌≡◌, refl, sym, ap, ◌∙◌}
use mathlib.Core.Bool.{Bool, true, false, cond, not}
use mathlib.Core.List.{List, [], ◌∷◌, ◌++◌, append_assoc, append-nil}
use native.Mathlib.Nat.{zero-add}
use native.Mathlib.Omega.{arith}
use lib.ListN.{length, take, set, replicate, length-append, length-take}
use lib.Seq.{take_all}
use borrow.Author.Tests.{le-leb, lt-leb, ne_eqb}
use Rattle.bits.specs.Bits.{splice}
use Rattle.bits.specs.Takes.{ahead, Takes}
use Rattle.bits.specs.declared.field_reader.FieldReader.{FieldReader}
use Rattle.bits.proofs.Taking.{takes_got, takes_refused}
use Rattle.bits.specs.Format.{Got, got, refused, and_then, Format, number, each_dec}
use Rattle.bits.specs.Work.{resume}
use Rattle.bits.proofs.Laws.{splice_none, splice_one, splice_more, length_splice}
use Rattle.bits.proofs.Copying.{put_next}
use Rattle.bits.proofs.Lawful.{resume_none, resume_next, resume_stop}
use Rattle.gains.specs.Gains.{gain_value}
use Rattle.channel.specs.Field.{gain_bit, grpgain, first, second, third, one_gain, two_gains, group_words, gain_words}
use Rattle.channel.proofs.Laws.{by_mode}
use Rattle.std.specs.Prelude.{Ok, Err}
use Rattle.answers.specs.declared.Refusal.{Refusal}
use Rattle.answers.specs.declared.Refusal.TheVariants.{GroupWord, UnusedCode}
use Rattle.reader.specs.Work.{GainsPut, missing_code, three_gains}

-- what is read after xs and ys
resume_both : {A : Type 0} (xs ys : List A) (g : Got (List A)) → resume xs (resume ys g) ≡ resume (xs ++ ys) g
resume_both xs ys (got zs rest) = rw append_assoc
resume_both xs ys (refused k) = refl

-- ---- a loop over words: F n is the format of n gains
module _ (F : ℕ → Format (List ℕ)) (n : ℕ) (before : List Bool) (out : List ℕ) where
  -- the gains read so far, and the bits that are left
  pub record SoFar (left : List Bool) (i : ℕ) (out' : List ℕ) : Type 0 where
    pub gs : List ℕ
    pub count : length gs ≡ min i n
    pub rest : (F n).dec before ≡ resume gs ((F (n - i)).dec left)
    pub gains : out' ≡ splice out 0 gs
    pub long : length out' ≡ length out

  pub none_yet : SoFar before 0 out
  none_yet =
      let z : n - 0 ≡ n = omega arith in
      record {
        gs = [];
        count = omega arith;
        rest = rw z (sym (resume_none _));
        gains = sym (splice_none out 0);
        long = refl;
      }

module _ {F : ℕ → Format (List ℕ)} {n : ℕ} {before : List Bool} {out : List ℕ} {left : List Bool} {i : ℕ} {out' : List ℕ} (f : SoFar F n before out left i out') where
  -- a word of j gains, or of as many as are left
  pub word_more : (q : FieldReader) (j : ℕ) (out'' xs : List ℕ) → i < n → n ≤ length out → length xs ≡ min j (n - i)
      → (F (n - i)).dec left ≡ resume xs ((F (n - i - j)).dec (ahead q)) → out'' ≡ splice out' i xs → SoFar F n before out (ahead q) (i + j) out''
  word_more q j out'' xs less room k e o =
      let c = f.count in
      let l = f.long in
      let i-is : i ≡ 0 + length f.gs = omega arith in
      let less' : n - i - j ≡ n - (i + j) = omega arith in
      record {
        gs = f.gs ++ xs;
        count = length-append f.gs xs ∙ omega arith;
        rest = f.rest ∙ ap (resume f.gs) e ∙ resume_both f.gs xs ((F (n - i - j)).dec (ahead q)) ∙ rw less';
        gains = o ∙ rw (i-is, f.gains) (splice_more out f.gs xs 0 (omega arith));
        long = ap length o ∙ length_splice out' xs i (omega arith) ∙ l;
      }

  module _ (first q : FieldReader) (out'' : List ℕ) where
    pub word_refused : (k : Refusal) → (F (n - i)).dec left ≡ refused k → Takes (λ gs. tt {0}) ((F n).dec before) (Err k) (GainsPut out out'') first q
    word_refused k e = takes_refused (λ gs. tt {0}) ((F n).dec before) (GainsPut out out'') first q k (f.rest ∙ ap (resume f.gs) e)

  pub words_done : (first p : FieldReader) → n ≤ i → p.src.now ≡ first.src.now → left ≡ ahead p → (F 0).dec left ≡ got [] left → Takes (λ gs. tt {0}) ((F n).dec before) (Ok (tt {0})) (GainsPut out out') first p
  unfolding splice
  words_done first p h same here e =
      let z : n - i ≡ 0 = omega arith in
      takes_got (λ gs. tt {0}) ((F n).dec before) (GainsPut out out') first p f.gs (f.rest ∙ rw (z, e, append-nil) (ap (got f.gs) here)) same (f.gains ∙ rw zero-add)

-- ---- by the mode
pub words_zero : (mode n : ℕ) (bs : List Bool) → mode ≡ 0 → (gain_words mode n).dec bs ≡ got [] bs
unfolding gain_words
words_zero mode n bs e = rw e

pub words_three : (mode n : ℕ) → mode ≡ 3 → gain_words mode n ≡ group_words n
unfolding gain_words
words_three mode n e = rw e

-- ---- modes 1 and 2
module _ (mode : ℕ) (m : (1 ≤ mode) × (mode ≤ 2)) where
  bits_each : (n : ℕ) (bs : List Bool) → (gain_words mode n).dec bs ≡ each_dec (λ (k : ℕ). gain_bit mode) (replicate n 0) bs
  bits_each n bs =
      by_mode (λ G. G.dec bs ≡ each_dec (λ (k : ℕ). gain_bit mode) (replicate n 0) bs) mode n (λ k. refl) (λ e. absurd (omega arith))
      (λ a b c. absurd (omega (arith, a, b)))

  pub bits_none : (bs : List Bool) → (gain_words mode 0).dec bs ≡ got [] bs
  unfolding each_dec
  bits_none bs = bits_each 0 bs

  -- by what is read
  module _ (n : ℕ) (h : 1 ≤ n) (bs : List Bool) where
    left : replicate {A = ℕ} n 0 ≡ 0 ∷ replicate (n - 1) 0
    left = let e : n ≡ suc (n - 1) = omega arith in ap (λ (k : ℕ). replicate {A = ℕ} k 0) e

    pub bit_short : (k : Refusal) → (number 1).dec bs ≡ refused k → (gain_words mode n).dec bs ≡ refused k
    bit_short k e = bits_each n bs ∙ rw left (sym (resume_none _) ∙ resume_stop (λ (k : ℕ). gain_bit mode) 0 (replicate (n - 1) 0) bs [] k (rw e))

    pub bit_next : (c g : ℕ) (rest : List Bool) → (number 1).dec bs ≡ got c rest → g ≡ gain_value c mode → (gain_words mode n).dec bs ≡ resume (g ∷ []) ((gain_words mode (n - 1)).dec rest)
    bit_next c g rest e f =
        bits_each n bs
        ∙ rw (left, bits_each (n - 1) rest) (sym (resume_none _) ∙ resume_next (λ (k : ℕ). gain_bit mode) 0 (replicate (n - 1) 0) bs rest [] g (rw (e, f)))

-- ---- mode 3
-- a word of one gain or two, the last
last_word_lem : (ok : ℕ → Bool) (gs : ℕ → List ℕ) (t : Got ℕ)
    → and_then (and_then t (λ w rest. cond (ok w) (got w rest) (refused UnusedCode))) (λ w rest. got (gs w) rest) ≡ and_then t (λ w rest. cond (not (ok w)) (refused UnusedCode) (got (gs w) rest))
last_word_lem ok gs (got w rest) = go (ok w)
  where
    go : (b : Bool) → and_then (cond b (got w rest) (refused UnusedCode)) (λ w rest. got (gs w) rest) ≡ cond (not b) (refused UnusedCode) (got (gs w) rest)
    go true = refl
    go false = refl
last_word_lem ok gs (refused k) = refl

-- a word, then the rest
group_first : (n : ℕ) → 1 ≤ n → (bs : List Bool)
    → (group_words n).dec bs ≡ and_then (grpgain.dec bs) (λ w rest. cond (missing_code w n) (refused UnusedCode) (resume (take n (three_gains w)) ((group_words (n - 3)).dec rest)))
unfolding group_words missing_code
group_first zero h bs = absurd (omega arith)
group_first (suc zero) h bs = last_word_lem one_gain (λ w. first w ∷ []) (grpgain.dec bs)
group_first (suc (suc zero)) h bs = last_word_lem two_gains (λ w. first w ∷ second w ∷ []) (grpgain.dec bs)
group_first (suc (suc (suc n))) h bs = word (grpgain.dec bs)
  where
    rest_of : (w : ℕ) (t : Got (List ℕ))
        → and_then (and_then {A = List ℕ} {B = ℕ × List ℕ} t (λ gs rest. got (w, gs) rest)) (λ p rest. got (first p.0 ∷ second p.0 ∷ third p.0 ∷ p.1) rest) ≡ resume (three_gains w) t
    rest_of w (got gs rest) = refl
    rest_of w (refused k) = refl

    word : (t : Got ℕ)
        → and_then (and_then t (λ w rest. and_then {A = List ℕ} {B = ℕ × List ℕ} ((group_words n).dec rest) (λ gs rest'. got (w, gs) rest'))) (λ p rest. got (first p.0 ∷ second p.0 ∷ third p.0 ∷ p.1) rest)
        ≡ and_then t (λ w rest. cond (missing_code w (suc (suc (suc n)))) (refused UnusedCode) (resume (take (suc (suc (suc n))) (three_gains w)) ((group_words (suc (suc (suc n)) - 3)).dec rest)))
    word (got w rest) =
        let e : suc (suc (suc n)) - 3 ≡ n = omega arith in
        rw (ne_eqb (suc (suc (suc n))) 1 (λ z. omega arith), ne_eqb (suc (suc (suc n))) 2 (λ z. omega arith), e, take_all {A = ℕ} n [] (omega arith)) (rest_of w ((group_words n).dec rest))
    word (refused k) = refl

pub groups_none : (bs : List Bool) → (group_words 0).dec bs ≡ got [] bs
unfolding group_words
groups_none bs = refl

-- by what is read
module _ (n : ℕ) (h : 1 ≤ n) (bs : List Bool) where
  pub group_short : (k : Refusal) → (number 5).dec bs ≡ refused k → (group_words n).dec bs ≡ refused k
  group_short k e = group_first n h bs ∙ rw e

  module _ (w : ℕ) (rest : List Bool) (e : (number 5).dec bs ≡ got w rest) where
    pub group_high : 26 < w → (group_words n).dec bs ≡ refused GroupWord
    group_high l = group_first n h bs ∙ rw (e, lt-leb w 26 l)

    pub group_missing : w ≤ 26 → missing_code w n ≡ true → (group_words n).dec bs ≡ refused UnusedCode
    group_missing l m = group_first n h bs ∙ rw (e, le-leb w 26 l, m)

    pub group_next : w ≤ 26 → missing_code w n ≡ false → (group_words n).dec bs ≡ resume (take n (three_gains w)) ((group_words (n - 3)).dec rest)
    group_next l m = group_first n h bs ∙ rw (e, le-leb w 26 l, m)

pub three_long : (n w : ℕ) → length (take n (three_gains w)) ≡ min 3 n
three_long n w = length-take n (three_gains w) ∙ omega arith

-- the gains of a word put in their places
module _ (l : List ℕ) (i left w : ℕ) (room : i + left ≤ length l) (a : ℕ) (ea : a ≡ first w) where
  pub put_one : left ≡ 1 → set l i a ≡ splice l i (take left (three_gains w))
  put_one h = rw (h, ea) (sym (splice_one l i (first w) (omega arith)))

  module _ (b : ℕ) (eb : b ≡ second w) where
    two_are : 2 ≤ left → set (set l i a) (i + 1) b ≡ splice l i (first w ∷ second w ∷ [])
    two_are h = rw (ea, eb, ← splice_one l i (first w) (omega arith)) (put_next l (first w ∷ []) i (second w) (omega arith))

    pub put_two : left ≡ 2 → set (set l i a) (i + 1) b ≡ splice l i (take left (three_gains w))
    put_two h = two_are (omega arith) ∙ rw h

    pub put_three : (c : ℕ) → c ≡ third w → 3 ≤ left → set (set (set l i a) (i + 1) b) (i + 2) c ≡ splice l i (take left (three_gains w))
    put_three c ec h = rw (ec, two_are (omega arith), take_all left (three_gains w) h) (put_next l (first w ∷ second w ∷ []) i (third w) (omega arith))
