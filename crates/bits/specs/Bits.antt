-- The bits of numbers and of bytes, most significant first; read_u32 and write_u32 of docs/FORMAT.md, Bits.
use Rattle.std.specs.Prelude.{ℕ, zero, suc, ◌+◌, ◌*◌, ◌/◌, ◌%◌, ◌^◌, ◌≤◌, ◌<◌, List, [], ◌∷◌, ◌++◌, Bool, true, false, cond, length, take, drop, eqb, leb, Result, Ok, Err}
use Rattle.bits.specs.declared.BitPos.{BitPos}
use Rattle.answers.specs.declared.Refusal.{Refusal}
use Rattle.answers.specs.declared.Refusal.TheVariants.{OutputFull, InputEnds, OutOfRange}

-- ---- bits and numbers
-- the least significant bit of a number
abbrev pub bit_of : ℕ → Bool
bit_of v = eqb (v % 2) 1

abbrev pub digit : Bool → ℕ
digit true = 1
digit false = 0

-- the low n bits of v, most significant first
unfoldable pub bits_n : ℕ → ℕ → List Bool
bits_n zero v = []
bits_n (suc n) v = bit_of (v / 2 ^ n) ∷ bits_n n v

-- the unsigned number that bits show, most significant first
unfoldable pub number_of : List Bool → ℕ
number_of [] = 0
number_of (b ∷ bs) = digit b * 2 ^ length bs + number_of bs

-- ---- bits and bytes
-- the bits of bytes, and n bytes from their bits
unfoldable pub bits_of : List ℕ → List Bool
bits_of [] = []
bits_of (x ∷ xs) = bits_n 8 x ++ bits_of xs

unfoldable pub bytes_of : ℕ → List Bool → List ℕ
bytes_of zero bs = []
bytes_of (suc n) bs = number_of (take 8 bs) ∷ bytes_of n (drop 8 bs)

-- a list with others in their place from a position on
unfoldable pub splice : {A : Type 0} → List A → ℕ → List A → List A
splice l at new = take at l ++ (new ++ drop (at + length new) l)

-- ---- positions
-- the bit that a position names, and the position of a bit
abbrev pub bit_at : BitPos → ℕ
bit_at p = 8 * p.byte + p.bit

abbrev pub pos_of : ℕ → BitPos
pos_of k = record { byte = k / 8; bit = k % 8 }

-- a position in the first n bits or just behind them, its bit below 8
abbrev pub Inside : ℕ → BitPos → Type 0
Inside n p = (bit_at p ≤ n) × (p.bit < 8)

-- ---- the answers, for the bytes s and the bit position at
-- 12 for more than 32 bits; 8 where fewer than n bits are left or the position is past the end
unfoldable pub read_u32 : List ℕ → ℕ → ℕ → Result (ℕ × BitPos) Refusal
read_u32 s at n =
    cond (leb n 32)
    (cond (leb (at + n) (8 * length s)) (Ok (number_of (take n (drop at (bits_of s))), pos_of (at + n))) (Err InputEnds))
    (Err OutOfRange)

-- 12 for more than 32 bits; 7 where fewer than n bits are left or the position is past the end
unfoldable pub write_u32 : List ℕ → ℕ → ℕ → Result BitPos Refusal
write_u32 s at n =
    cond (leb n 32)
    (cond (leb (at + n) (8 * length s)) (Ok (pos_of (at + n))) (Err OutputFull))
    (Err OutOfRange)

-- the bytes with new bits from a position on, every other bit the same
unfoldable pub bytes_with : List ℕ → ℕ → List Bool → List ℕ
bytes_with s at new = bytes_of (length s) (splice (bits_of s) at new)

-- the bytes after write_u32(v, n): as they were where it refuses
unfoldable pub written : List ℕ → ℕ → ℕ → ℕ → List ℕ
written s at v n = cond (leb n 32) (cond (leb (at + n) (8 * length s)) (bytes_with s at (bits_n n v)) s) s
