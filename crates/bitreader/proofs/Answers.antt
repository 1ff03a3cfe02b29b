-- The reader's answers by number and value: those of bits' read_u32. Assumes nothing.
use Prim.Native.Nat.{ℕ}
use mathlib.Core.Path.{◌≡◌, refl, sym, ap}
use mathlib.Core.Bool.{cond}
use mathlib.Core.List.{List}
use native.Mathlib.Omega.{arith}
use borrow.Author.Tests.{ne_eqb}
use lib.Dec.{eqb}
use Rattle.std.specs.Prelude.{Result, Ok, Err}
use Rattle.answers.specs.Answers.{answer_number, after_answer, value_or}
use Rattle.answers.specs.declared.Refusal.{Refusal}
use Rattle.answers.proofs.Numbers.{numbered}
use Rattle.bits.specs.declared.BitPos.{BitPos}
use Rattle.bitreader.specs.declared.BitReader.{BitReader}
use Rattle.bitreader.specs.declared.Three.{Three}
use Rattle.bitreader.specs.Reads.{answer_of, place_of, read_at, answered, all_three, three_from}

-- the number that a read answers, or v
abbrev pub read_value : ℕ → Result (ℕ × BitPos) Refusal → ℕ
read_value = after_answer (λ (r : ℕ × BitPos). r.0)

number_of : (b : Result (ℕ × BitPos) Refusal) → answer_number (answer_of b) ≡ answer_number b
number_of (Ok r) = refl
number_of (Err k) = refl

value_of : (v : ℕ) (b : Result (ℕ × BitPos) Refusal) → value_or v (answer_of b) ≡ read_value v b
value_of v (Ok r) = refl
value_of v (Err k) = refl

-- a reader's read_u32 has the number and the value of bits' read_u32 at its position
pub as_read : (r : BitReader) (n v : ℕ) → let b = read_at r.src.now r.pos n in
    (answer_number (answered r n) ≡ answer_number b) × (value_or v (answered r n) ≡ read_value v b)
as_read r n v = let b = read_at r.src.now r.pos n in (number_of b, value_of v b)

-- ---- three numbers
-- the first of three numbers that is not 0
abbrev pub first : ℕ → ℕ → ℕ → ℕ
first a b c = cond (eqb a 0) (cond (eqb b 0) c b) a

joined : (x y z : Result (ℕ × BitPos) Refusal) (p : BitPos) → answer_number (all_three (answer_of x) (answer_of y) (answer_of z) p) ≡ first (answer_number x) (answer_number y) (answer_number z)
joined (Err k) y z p = let n = numbered k in sym (rw (ne_eqb (answer_number {A = Three} (Err k)) 0 (λ e. omega arith)))
joined (Ok r) (Err k) z p = let n = numbered k in sym (rw (ne_eqb (answer_number {A = Three} (Err k)) 0 (λ e. omega arith)))
joined (Ok r) (Ok s) (Err k) p = refl
joined (Ok r) (Ok s) (Ok t) p = refl

given : (x y z : Result (ℕ × BitPos) Refusal) (p : BitPos) (t : Three) → all_three (answer_of x) (answer_of y) (answer_of z) p ≡ Ok t
    → t ≡ record { first = read_value 0 x; second = read_value 0 y; third = read_value 0 z; pos = p }
given (Err k) y z p t e = absurd (let a = ap answer_number e in let n = numbered k in omega arith)
given (Ok r) (Err k) z p t e = absurd (let a = ap answer_number e in let n = numbered k in omega arith)
given (Ok r) (Ok s) (Err k) p t e = absurd (let a = ap answer_number e in let n = numbered k in omega arith)
given (Ok r) (Ok s) (Ok u) p t e = cc

-- read_three has the number of the first of its reads that refuses; where none does, their values and the last place
module _ (s : List ℕ) (p : BitPos) (a b c : ℕ) where
  abbrev x : Result (ℕ × BitPos) Refusal
  x = read_at s p a

  abbrev y : Result (ℕ × BitPos) Refusal
  y = read_at s (place_of p x) b

  abbrev z : Result (ℕ × BitPos) Refusal
  z = read_at s (place_of (place_of p x) y) c

  pub three_as_read : (answer_number (three_from s p a b c) ≡ first (answer_number x) (answer_number y) (answer_number z))
      × ((t : Three) → three_from s p a b c ≡ Ok t
      → t ≡ record { first = read_value 0 x; second = read_value 0 y; third = read_value 0 z; pos = place_of (place_of (place_of p x) y) z })
  three_as_read = (joined x y z _, given x y z _)
