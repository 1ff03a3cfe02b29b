-- What the calls over a reader answer, in terms of read_u32 of bits.
use Rattle.std.specs.Prelude.{ℕ, List, Result, Ok, Err}
use Rattle.std.specs.Borrow.{Bor}
use Rattle.answers.specs.Answers.{after_answer}
use Rattle.answers.specs.declared.Refusal.{Refusal}
use Rattle.bits.specs.Bits.{bit_at, read_u32}
use Rattle.bits.specs.declared.BitPos.{BitPos}
use Rattle.bitreader.specs.declared.Three.{Three}
use Rattle.bitreader.specs.declared.BitReader.{BitReader}

-- ---- one number
-- the number alone, or the refusal
abbrev pub answer_of : Result (ℕ × BitPos) Refusal → Result ℕ Refusal
answer_of (Ok r) = Ok r.0
answer_of (Err k) = Err k

-- the position behind it; a refusal leaves p
abbrev pub place_of : BitPos → Result (ℕ × BitPos) Refusal → BitPos
place_of = after_answer (λ (r : ℕ × BitPos). r.1)

-- read_u32(n) at a position of the bytes, as bits has it
abbrev pub read_at : List ℕ → BitPos → ℕ → Result (ℕ × BitPos) Refusal
read_at s p n = read_u32 s (bit_at p) n

-- a reader of these bytes at their start
abbrev pub at_start : Bor (List ℕ) → BitReader
at_start s = record { src = s; pos = record { byte = 0; bit = 0 } }

-- what a reader's read_u32(n) answers, and the reader after it: the same bytes, and behind the number
abbrev pub answered : BitReader → ℕ → Result ℕ Refusal
answered r n = answer_of (read_at r.src.now r.pos n)

abbrev pub read_on : BitReader → ℕ → BitReader
read_on r n = record { src = r.src; pos = place_of r.pos (read_at r.src.now r.pos n) }

-- ---- three numbers
-- three answers as one: the first refusal, or the numbers and the position behind the last one
abbrev pub all_three : Result ℕ Refusal → Result ℕ Refusal → Result ℕ Refusal → BitPos → Result Three Refusal
all_three (Err k) y z p = Err k
all_three (Ok u) (Err k) z p = Err k
all_three (Ok u) (Ok v) (Err k) p = Err k
all_three (Ok u) (Ok v) (Ok w) p = Ok (record { first = u; second = v; third = w; pos = p })

-- the numbers of a, b and c bits one after another from a position on
abbrev pub three_from : List ℕ → BitPos → ℕ → ℕ → ℕ → Result Three Refusal
three_from s p a b c =
    let x = read_at s p a in
    let q = place_of p x in
    let y = read_at s q b in
    let r = place_of q y in
    let z = read_at s r c in
    all_three (answer_of x) (answer_of y) (answer_of z) (place_of r z)
