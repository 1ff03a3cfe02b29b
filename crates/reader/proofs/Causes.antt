-- What the reader finds, case by case. Assumes nothing.
use Prim.Native.Nat.{ℕ, ◌+◌, ◌-◌, ◌*◌, ◌≤◌, ◌<◌}
use mathlib.Core.Path.{◌≡◌, refl, sym, ap, ◌∙◌}
use mathlib.Core.Bool.{Bool, true, false, ◌||◌}
use mathlib.Core.List.{List}
use native.Mathlib.Omega.{arith}
use borrow.Author.Tests.{ltb-false, le-leb, lt-leb, leb-true, leb-false}
use lib.Dec.{ltb, leb}
use lib.ListN.{length, drop}
use Rattle.std.specs.Prelude.{Option, None, Some, Ok}
use Rattle.answers.specs.Answers.{answer_number, after_answer}
use Rattle.answers.specs.Causes.{number}
use Rattle.answers.specs.declared.Refusal.{Refusal}
use Rattle.answers.specs.declared.Refusal.TheVariants.{InputEnds}
use Rattle.answers.proofs.Numbers.{numbered}
use Rattle.bits.specs.Bits.{bits_of}
use Rattle.bits.specs.Format.{Got, got, refused}
use Rattle.channel.specs.Row.{RowOk}
use Rattle.channel.specs.Field.{Channel, field}
use Rattle.channel.proofs.Rows.{row_ok}
use Rattle.bits.proofs.Tests.{neither}
use Rattle.reader.specs.Reading.{Call, read_cause, found, read_answer, answer_to}
use Rattle.reader.specs.declared.ChannelRead.{ChannelRead}
use Rattle.reader.specs.Work.{outputs, Long}

module _ (row : List ℕ) (start end : ℕ) (c : Call) where
  -- where it is none, none of the four holds
  pub read_none : read_cause row start end c ≡ None → RowOk row start end × Long end (outputs c.values c.exact c.indices)
  unfolding read_cause
  read_none h =
      let r = row_ok row start end (ltb (length c.values) (6 * end) || (ltb (length c.exact) (6 * end) || ltb (length c.indices) end)) h in
      let t = neither (ltb (length c.values) (6 * end)) (ltb (length c.exact) (6 * end) || ltb (length c.indices) end) r.1 in
      let u = neither (ltb (length c.exact) (6 * end)) (ltb (length c.indices) end) t.1 in
      (r.0, (ltb-false (length c.values) (6 * end) t.0, ltb-false (length c.exact) (6 * end) u.0, ltb-false (length c.indices) end u.1))

  pub found_cause : (k : Refusal) → read_cause row start end c ≡ Some k → found row start end c ≡ refused k
  unfolding found
  found_cause k e = rw e

  module _ (none : read_cause row start end c ≡ None) where
    pub found_past : 8 * length c.src < c.at → found row start end c ≡ refused InputEnds
    unfolding found
    found_past h = rw (none, lt-leb c.at (8 * length c.src) h)

    pub found_field : c.at ≤ 8 * length c.src → found row start end c ≡ (field row start end).dec (drop c.at (bits_of c.src))
    unfolding found
    found_field h = rw (none, le-leb c.at (8 * length c.src) h)

  -- it refuses with a cause, or none of causes 1 to 4 holds and the position is inside
  by_cause : {A : Type 0} → ((k : Refusal) → found row start end c ≡ refused k → A) → (read_cause row start end c ≡ None → c.at ≤ 8 * length c.src → A) → A
  by_cause {A = A} refuses looks = cause (read_cause row start end c) refl
    where
      past : read_cause row start end c ≡ None → (t : Bool) → leb c.at (8 * length c.src) ≡ t → A
      past n true q = looks n (leb-true c.at (8 * length c.src) q)
      past n false q = refuses InputEnds (found_past n (leb-false c.at (8 * length c.src) q))

      cause : (k : Option Refusal) → read_cause row start end c ≡ k → A
      cause None q = past q (leb c.at (8 * length c.src)) refl
      cause (Some k) q = refuses k (found_cause k q)

  -- where it finds a channel, none of the causes holds
  pub record FoundAt (d : Channel) (rest : List Bool) : Type 0 where
    pub row_is : RowOk row start end
    pub long : Long end (outputs c.values c.exact c.indices)
    pub inside : c.at ≤ 8 * length c.src
    pub is : (field row start end).dec (drop c.at (bits_of c.src)) ≡ got d rest

  pub found_got : (d : Channel) (rest : List Bool) → found row start end c ≡ got d rest → FoundAt d rest
  found_got d rest h =
      by_cause (λ k g. absurd (let z : ◌≡◌ {A = ℕ} 0 1 = cc in omega arith))
      (λ n i. let r = read_none n in record { row_is = r.0; long = r.1; inside = i; is = sym (found_field n i) ∙ h })

  -- what it accepts ends inside the bytes
  used : (n : ℕ) (t : Got Channel) (r : ChannelRead) → read_answer n t ≡ Ok r → r.bits ≤ n
  used n (got d rest) r e = let z : n - length rest ≡ r.bits = ap (after_answer (λ (x : ChannelRead). x.bits) 0) e in omega arith
  used n (refused k) r e = let z : ◌≡◌ {A = ℕ} (number k) 0 = ap answer_number e in let n = numbered k in absurd (omega arith)

  pub read_inside : (r : ChannelRead) → answer_to row start end c ≡ Ok r → c.at + r.bits ≤ 8 * length c.src
  read_inside r h =
      by_cause (λ k g. absurd (let z : ◌≡◌ {A = ℕ} (number k) 0 = ap answer_number (sym (ap (read_answer (8 * length c.src - c.at)) g) ∙ h) in let n = numbered k in omega arith))
      (λ n i. let u = used (8 * length c.src - c.at) (found row start end c) r h in omega arith)
