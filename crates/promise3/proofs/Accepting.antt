-- When the channel reader accepts, and when and why it refuses, said of the bits at its position. Assumes nothing.
use Prim.Native.Nat.{ℕ, ◌-◌, ◌*◌, ◌≤◌, ◌<◌}
use mathlib.Core.Path.{◌≡◌, refl, sym, ap, ◌∙◌}
use mathlib.Core.List.{List}
use mathlib.Core.Bool.{Bool, true, false, ◌||◌}
use mathlib.Core.Logic.{◌⊎◌, inl, inr, ◌↔◌}
use native.Mathlib.Omega.{arith}
use borrow.Author.Tests.{le-ltb, leb-true, leb-false}
use lib.Dec.{ltb, leb}
use lib.ListN.{length}
use Rattle.answers.specs.declared.Refusal.TheVariants.{InputEnds, GroupWord, UnusedCode}
use Rattle.answers.specs.declared.Refusal.{Refusal}
use Rattle.std.specs.Prelude.{Some, None, Option}
use Rattle.answers.proofs.Numbers.{numbered}
use Rattle.answers.specs.Answers.{answer_number}
use Rattle.answers.specs.Causes.{number, cause_number}
use Rattle.bits.specs.Format.{Got, got, refused}
use Rattle.channel.specs.Field.{Channel, field}
use Rattle.channel.specs.Standing.{FieldThere, WordThere, PaddingThere, RunsOut}
use Rattle.channel.proofs.Rows.{cause_4_or_none, row_cause_most}
use Rattle.channel.proofs.Refusals.{FieldWhy, field_why, field_there, field_read, word_refused, padding_refused, runs_out, ran_out}
use Rattle.reader.specs.Reading.{Call, read_cause, found, answer_to, read_answer}
use Rattle.reader.proofs.Causes.{read_none, found_cause, found_past, found_field}
use Rattle.promise3.specs.Promise.{Readable, bits_there}

-- ---- causes 1 to 4
module _ (row : List ℕ) (start end : ℕ) (c : Call) where
  abbrev refusal : ℕ
  refusal = answer_number (answer_to row start end c)

  abbrev There : Type 0
  There = c.at ≤ 8 * length c.src

  read_most : cause_number (read_cause row start end c) ≤ 4
  unfolding read_cause
  read_most = row_cause_most row start end (ltb (length c.values) (6 * end) || (ltb (length c.exact) (6 * end) || ltb (length c.indices) end))

  pub readable_exactly : Readable row start end c ↔ (read_cause row start end c ≡ None)
  unfolding read_cause
  readable_exactly = (
    λ r.
        let k = r.row_is in
        let l = r.long in
        let short : ltb (length c.values) (6 * end) || (ltb (length c.exact) (6 * end) || ltb (length c.indices) end) ≡ false =
        rw (le-ltb (length c.values) (6 * end) l.0, le-ltb (length c.exact) (6 * end) l.1, le-ltb (length c.indices) end l.2) in
        cause_4_or_none row start end _ k.ordered k.few k.rows false short k.known,
    λ e. let n = read_none row start end c e in record { row_is = n.0; long = n.1 },
  )

  -- ---- the number that is answered
  number_is : (t : Got Channel) → found row start end c ≡ t → refusal ≡ answer_number (read_answer (8 * length c.src - c.at) t)
  number_is t e = ap (λ (g : Got Channel). answer_number (read_answer (8 * length c.src - c.at) g)) e

  -- a row's cause, a position past the end, or what the bits there give
  pub data Outcome : Type 0 where
    by_row : (k : Refusal) → read_cause row start end c ≡ Some k → refusal ≡ number k → Outcome
    past : Readable row start end c → 8 * length c.src < c.at → refusal ≡ 8 → Outcome
    by_bits : Readable row start end c → There → found row start end c ≡ (field row start end).dec (bits_there row start end c) → Outcome

  outcome : Outcome
  outcome = go (read_cause row start end c) refl (leb c.at (8 * length c.src)) refl
    where
      go : (k : Option Refusal) → read_cause row start end c ≡ k → (u : Bool) → leb c.at (8 * length c.src) ≡ u → Outcome
      go None e true l =
          let i = leb-true _ _ l in
          by_bits (readable_exactly.1 e) i (found_field row start end c e i)
      go None e false l =
          let i = leb-false _ _ l in
          past (readable_exactly.1 e) i (number_is (refused InputEnds) (found_past row start end c e i))
      go (Some k) e u l = by_row k e (number_is (refused k) (found_cause row start end c k e))

  -- a row's cause is 1 to 4
  most : (k : Refusal) → read_cause row start end c ≡ Some k → number k ≤ 4
  most k e = let m = read_most in let z : cause_number (read_cause row start end c) ≡ number k = ap cause_number e in omega arith

  -- ---- what the bits there give
  abbrev bs : List Bool
  bs = bits_there row start end c

  abbrev number_of : Got Channel → ℕ
  number_of t = answer_number (read_answer (8 * length c.src - c.at) t)

  found_there : Readable row start end c → There → found row start end c ≡ (field row start end).dec (bits_there row start end c)
  found_there r i = found_field row start end c (readable_exactly.0 r) i

  -- Refusal 0 exactly when none of causes 1 to 4 holds, the position is inside, and the bits there are those of a
  -- channel of the layout with something behind it.
  pub accepts_exactly : (refusal ≡ 0) ↔ (Readable row start end c × There × FieldThere row start end bs)
  accepts_exactly = (to outcome, of)
    where
      field_of : (t : Got Channel) → (field row start end).dec bs ≡ t → FieldWhy row start end bs t → number_of t ≡ 0 → FieldThere row start end bs
      field_of (got d rest) e y z = field_there row start end bs rest d e
      field_of (refused k) e (inl y) z = let n = numbered k in absurd (omega arith)
      field_of (refused k) e (inr (inl (y, w))) z = let n = numbered k in absurd (omega arith)
      field_of (refused k) e (inr (inr (y, w))) z = let n = numbered k in absurd (omega arith)

      to : Outcome → refusal ≡ 0 → Readable row start end c × There × FieldThere row start end bs
      to (by_row k p q) e = let n = numbered k in absurd (omega arith)
      to (past r p q) e = absurd (omega arith)
      to (by_bits r i q) e = (r, i, field_of ((field row start end).dec bs) refl (field_why row start end bs) (sym (number_is ((field row start end).dec bs) q) ∙ e))

      of : Readable row start end c × There × FieldThere row start end bs → refusal ≡ 0
      of (r, i, f) = number_is (got f.channel f.behind) (found_there r i ∙ field_read row start end bs f)

  -- Refusal 8 exactly when none of causes 1 to 4 holds and the position is past the end, or the bits there run out.
  pub refused_8 : (refusal ≡ 8) ↔ (Readable row start end c × ((8 * length c.src < c.at) ⊎ (There × RunsOut row start end bs)))
  refused_8 = (to outcome, λ h. of h.0 h.1)
    where
      short : (t : Got Channel) → (field row start end).dec bs ≡ t → FieldWhy row start end bs t → number_of t ≡ 8 → RunsOut row start end bs
      short (got d rest) e y z = absurd (omega arith)
      short (refused k) e (inl y) z = runs_out row start end bs (e ∙ ap refused y)
      short (refused k) e (inr (inl (y, w))) z = let n : number k ≡ 9 = ap number y in absurd (omega arith)
      short (refused k) e (inr (inr (y, w))) z = let n : number k ≡ 10 = ap number y in absurd (omega arith)

      to : Outcome → refusal ≡ 8 → Readable row start end c × ((8 * length c.src < c.at) ⊎ (There × RunsOut row start end bs))
      to (by_row k p q) e = let m = most k p in absurd (omega arith)
      to (past r p q) e = (r, inl p)
      to (by_bits r i q) e = (r, inr (i, short ((field row start end).dec bs) refl (field_why row start end bs) (sym (number_is ((field row start end).dec bs) q) ∙ e)))

      of : Readable row start end c → (8 * length c.src < c.at) ⊎ (There × RunsOut row start end bs) → refusal ≡ 8
      of r (inl p) = number_is (refused InputEnds) (found_past row start end c (readable_exactly.0 r) p)
      of r (inr (i, s)) = number_is (refused InputEnds) (found_there r i ∙ ran_out row start end bs s)

  -- Refusal 9 exactly when none of causes 1 to 4 holds, the position is inside, and there stands mode 3 with a group
  -- word above 26, the words before it being fine.
  pub refused_9 : (refusal ≡ 9) ↔ (Readable row start end c × There × WordThere row start end bs)
  refused_9 = (to outcome, of)
    where
      word : (t : Got Channel) → FieldWhy row start end bs t → number_of t ≡ 9 → WordThere row start end bs
      word (got d rest) y z = absurd (omega arith)
      word (refused k) (inl y) z = let n : number k ≡ 8 = ap number y in absurd (omega arith)
      word (refused k) (inr (inl (y, w))) z = w
      word (refused k) (inr (inr (y, w))) z = let n : number k ≡ 10 = ap number y in absurd (omega arith)

      to : Outcome → refusal ≡ 9 → Readable row start end c × There × WordThere row start end bs
      to (by_row k p q) e = let m = most k p in absurd (omega arith)
      to (past r p q) e = absurd (omega arith)
      to (by_bits r i q) e = (r, i, word ((field row start end).dec bs) (field_why row start end bs) (sym (number_is ((field row start end).dec bs) q) ∙ e))

      of : Readable row start end c × There × WordThere row start end bs → refusal ≡ 9
      of (r, i, w) = number_is (refused GroupWord) (found_there r i ∙ word_refused row start end bs w)

  -- Refusal 10 exactly when none of causes 1 to 4 holds, the position is inside, and there stand mode 3 and fine group
  -- words, the last one with a missing code that is not 0.
  pub refused_10 : (refusal ≡ 10) ↔ (Readable row start end c × There × PaddingThere row start end bs)
  refused_10 = (to outcome, of)
    where
      padding : (t : Got Channel) → FieldWhy row start end bs t → number_of t ≡ 10 → PaddingThere row start end bs
      padding (got d rest) y z = absurd (omega arith)
      padding (refused k) (inl y) z = let n : number k ≡ 8 = ap number y in absurd (omega arith)
      padding (refused k) (inr (inl (y, w))) z = let n : number k ≡ 9 = ap number y in absurd (omega arith)
      padding (refused k) (inr (inr (y, w))) z = w

      to : Outcome → refusal ≡ 10 → Readable row start end c × There × PaddingThere row start end bs
      to (by_row k p q) e = let m = most k p in absurd (omega arith)
      to (past r p q) e = absurd (omega arith)
      to (by_bits r i q) e = (r, i, padding ((field row start end).dec bs) (field_why row start end bs) (sym (number_is ((field row start end).dec bs) q) ∙ e))

      of : Readable row start end c × There × PaddingThere row start end bs → refusal ≡ 10
      of (r, i, w) = number_is (refused UnusedCode) (found_there r i ∙ padding_refused row start end bs w)

  -- Every refusal is 1 to 4, the row's, or 8, 9 or 10.
  pub refusals : (refusal ≡ 0) ⊎ (((1 ≤ refusal) × (refusal ≤ 4) × (refusal ≡ cause_number (read_cause row start end c))) ⊎ ((refusal ≡ 8) ⊎ ((refusal ≡ 9) ⊎ (refusal ≡ 10))))
  refusals = go outcome
    where
      bits : (t : Got Channel) → FieldWhy row start end bs t → (number_of t ≡ 0) ⊎ ((number_of t ≡ 8) ⊎ ((number_of t ≡ 9) ⊎ (number_of t ≡ 10)))
      bits (got d rest) y = inl refl
      bits (refused k) (inl y) = inr (inl (ap number y))
      bits (refused k) (inr (inl (y, w))) = inr (inr (inl (ap number y)))
      bits (refused k) (inr (inr (y, w))) = inr (inr (inr (ap number y)))

      sort : (n : ℕ) → refusal ≡ n → (n ≡ 0) ⊎ ((n ≡ 8) ⊎ ((n ≡ 9) ⊎ (n ≡ 10)))
          → (refusal ≡ 0) ⊎ (((1 ≤ refusal) × (refusal ≤ 4) × (refusal ≡ cause_number (read_cause row start end c))) ⊎ ((refusal ≡ 8) ⊎ ((refusal ≡ 9) ⊎ (refusal ≡ 10))))
      sort n e (inl z) = inl (e ∙ z)
      sort n e (inr z) = inr (inr (others z))
        where
          others : (n ≡ 8) ⊎ ((n ≡ 9) ⊎ (n ≡ 10)) → (refusal ≡ 8) ⊎ ((refusal ≡ 9) ⊎ (refusal ≡ 10))
          others (inl z) = inl (e ∙ z)
          others (inr (inl z)) = inr (inl (e ∙ z))
          others (inr (inr z)) = inr (inr (e ∙ z))

      go : Outcome → (refusal ≡ 0) ⊎ (((1 ≤ refusal) × (refusal ≤ 4) × (refusal ≡ cause_number (read_cause row start end c))) ⊎ ((refusal ≡ 8) ⊎ ((refusal ≡ 9) ⊎ (refusal ≡ 10))))
      go (by_row k p q) = let m = most k p in let n = numbered k in inr (inl (omega arith, omega arith, q ∙ sym (ap cause_number p)))
      go (past r p q) = inr (inr (inl q))
      go (by_bits r i q) = sort (number_of ((field row start end).dec bs)) (number_is ((field row start end).dec bs) q) (bits ((field row start end).dec bs) (field_why row start end bs))
