-- What holds of the tables at every hebap: the `tt` in a lemma is its test of the whole table. Assumes nothing.
use Prim.Native.Nat.{ℕ, ◌+◌, ◌-◌, ◌*◌, ◌^◌, ◌≤◌, ◌<◌}
use mathlib.Core.Path.{◌≡◌}
use mathlib.Core.Bool.{Bool, false, ◌&&◌}
use mathlib.Core.List.{[]}
use mathlib.Core.Logic.{◌⊎◌, inl, inr}
use native.Mathlib.Omega.{arith}
use borrow.Author.Tests.{ne_eqb}
use lib.Dec.{T, eqb, leb, ltb, eqb→eq, leb→le, ltb→lt}
use lib.IntN.{ℤ, pos}
use lib.ListN.{length, get_or, get_or-eq_default}
use lib.Signed.{mag}
use Rattle.tables.specs.Numbers.{mant_bits_table, vq_bits_table, gaq_remap_table, vq_hebap1, vq_hebap2, vq_hebap3, vq_hebap4, vq_hebap5, vq_hebap6, vq_hebap7}
use Rattle.tables.specs.Tables.{mant_bits, vq_bits, gaq_remap_at, book}
use Rattle.tables.proofs.Tests.{and_parts, every_at, each, each_at}

abbrev between : ℕ → ℕ → ℕ → Bool
between a b n = leb a n && leb n b

between_is : (a b n : ℕ) → T (between a b n) → (a ≤ n) × (n ≤ b)
between_is a b n t = let p = and_parts (leb a n) (leb n b) t in (leb→le a n p.0, leb→le n b p.1)

-- ---- the bits of a mantissa and of a book's index

pub mant_bits_lem : (h : ℕ) → 8 ≤ h → h ≤ 19 → (3 ≤ mant_bits h) × (mant_bits h ≤ 16)
unfolding mant_bits mant_bits_table
mant_bits_lem h l u = between_is 3 16 (mant_bits h) (every_at (λ k. between 3 16 (mant_bits k)) 12 8 h tt l (omega arith))

-- where a bin can have a gain of its own
pub mant_active : (h : ℕ) → 8 ≤ h → h ≤ 16 → mant_bits h ≤ 11
unfolding mant_bits mant_bits_table
mant_active h l u = leb→le (mant_bits h) 11 (every_at (λ k. leb (mant_bits k) 11) 9 8 h tt l (omega arith))

pub mant_none : (h : ℕ) → (h ≤ 7) ⊎ (20 ≤ h) → mant_bits h ≡ 0
unfolding mant_bits mant_bits_table
mant_none h (inl u) = eqb→eq (mant_bits h) 0 (every_at (λ k. eqb (mant_bits k) 0) 8 0 h tt (omega arith) (omega arith))
mant_none h (inr l) = get_or-eq_default mant_bits_table 0 l

pub vq_bits_lem : (h : ℕ) → 1 ≤ h → h ≤ 7 → (2 ≤ vq_bits h) × (vq_bits h ≤ 9)
unfolding vq_bits vq_bits_table
vq_bits_lem h l u = between_is 2 9 (vq_bits h) (every_at (λ k. between 2 9 (vq_bits k)) 7 1 h tt l (omega arith))

pub vq_most : (h : ℕ) → vq_bits h ≤ 9
unfolding vq_bits vq_bits_table
vq_most h = leb→le (vq_bits h) 9 (each_at (λ n. leb n 9) vq_bits_table tt 0 tt h)

pub vq_none : (h : ℕ) → 8 ≤ h → vq_bits h ≡ 0
unfolding vq_bits vq_bits_table
vq_none h l = get_or-eq_default vq_bits_table 0 l

-- ---- GAQ_REMAP

-- a number of 16 bits with its sign
abbrev fits : ℤ → Bool
fits z = ltb (mag z) (2 ^ 15)

pub remap_fits : (h column : ℕ) → mag (gaq_remap_at h column) < 2 ^ 15
unfolding gaq_remap_at gaq_remap_table
remap_fits h column =
    ltb→lt (mag (gaq_remap_at h column)) (2 ^ 15) (each_at fits gaq_remap_table tt (pos 0) tt ((h - 8) * 7 + column))

-- ---- the books

pub book_size : (h : ℕ) → 1 ≤ h → h ≤ 7 → length (book h) ≡ 6 * 2 ^ vq_bits h
unfolding book vq_bits vq_bits_table vq_hebap1 vq_hebap2 vq_hebap3 vq_hebap4 vq_hebap5 vq_hebap6 vq_hebap7
book_size h l u =
    eqb→eq (length (book h)) (6 * 2 ^ vq_bits h)
    (every_at (λ k. eqb (length (book k)) (6 * 2 ^ vq_bits k)) 7 1 h tt l (omega arith))

pub book_fits : (h i : ℕ) → 1 ≤ h → h ≤ 7 → mag (get_or (book h) i (pos 0)) < 2 ^ 15
unfolding book vq_hebap1 vq_hebap2 vq_hebap3 vq_hebap4 vq_hebap5 vq_hebap6 vq_hebap7
book_fits h i l u =
    ltb→lt (mag (get_or (book h) i (pos 0))) (2 ^ 15)
    (each_at fits (book h) (every_at (λ k. each fits (book k)) 7 1 h tt l (omega arith)) (pos 0) tt i)

-- none where it is not 1 to 7
pub no_book : (h : ℕ) → ((k : ℕ) → 1 ≤ k → k ≤ 7 → h ≡ k → ⊥) → book h ≡ []
unfolding book
no_book h n =
    let no : (k : ℕ) → 1 ≤ k → k ≤ 7 → eqb h k ≡ false = λ k a b. ne_eqb h k (n k a b) in
    rw (no 1 (omega arith) (omega arith), no 2 (omega arith) (omega arith), no 3 (omega arith) (omega arith), no 4 (omega arith) (omega arith), no 5 (omega arith) (omega arith), no 6 (omega arith) (omega arith), no 7 (omega arith) (omega arith))
