-- Laws of the bits of numbers and of bytes, over every width.
use Prim.Native.Nat.{ℕ, zero, suc, ◌+◌, ◌-◌, ◌*◌, ◌/◌, ◌%◌, ◌^◌, ◌≤◌, ◌<◌}
use mathlib.Core.Path.{◌≡◌, refl, sym, ap, ◌∙◌, subst}
use mathlib.Core.List.{List, [], ◌∷◌, ◌++◌, append_assoc}
use mathlib.Core.Bool.{Bool, true, false}
use native.Mathlib.Nat.{mul-add, mul_left_comm, mul-le-mul_right, mod-lt, lt_of_not-le, not-le_of_lt, le-mul_of_pos_right, lt_of_lt_of_le, min-le_left, le_of_lt, mod-eq_of_lt, pow-suc, add_comm, add-mul, mul_assoc, add_assoc, zero-add, suc-add, add-zero, mod-mod, mod-one}
use native.Mathlib.Numerals.{add-one, one-add}
use native.Mathlib.Omega.{arith}
use lib.ListN.{length, take, drop, get_or, set, take-append-drop, length-append, length-take, length-drop}
use lib.Pow.{pow-add, mod-pow-add, shr-shr, field, mod-mod-pow, high, low, pow_pos, pow_mono, shr_lt}
use lib.Arith.{digits_lt}
use lib.Seq.{split_at, take-add, length-take-le, take-append_seam, drop-append_seam, drop-append-add, set_split, drop_at, take_at, drop-drop, drop-nil, drop-cons, take-take}
use lib.Dec.{leb, eqb}
use borrow.Author.Tests.{le-leb, lt-leb, leb-true, leb-false}
use Rattle.bits.specs.Bits.{bit_of, digit, bits_n, number_of, bits_of, splice, bytes_of, bytes_with, pos_of, read_u32, write_u32, written}
use Rattle.bits.specs.Work.{byte_with}
use Rattle.std.specs.Prelude.{Ok, Err}
use Rattle.answers.specs.declared.Refusal.TheVariants.{OutputFull, InputEnds, OutOfRange}

digit_lt : (b : Bool) → digit b < 2
digit_lt true = omega arith
digit_lt false = omega arith

digit_below : (m : ℕ) → m < 2 → digit (eqb m 1) ≡ m
digit_below zero h = refl
digit_below (suc zero) h = refl
digit_below (suc (suc m)) h = absurd (lemma h)
  where
    lemma : suc (suc m) < 2 → ⊥
    lemma h = omega arith

pub digit_bit_of : (x : ℕ) → digit (bit_of x) ≡ x % 2
digit_bit_of x = digit_below (x % 2) (mod-lt x (omega arith))

bit_digit : (b : Bool) → eqb (digit b) 1 ≡ b
bit_digit true = refl
bit_digit false = refl

pub length_bits_n : (n v : ℕ) → length (bits_n n v) ≡ n
unfolding bits_n
length_bits_n zero v = refl
length_bits_n (suc n) v = ap suc (length_bits_n n v)

-- two numbers with the same low n bits have the same low bits below, and the same bit at n
mod_pow_suc : (v n : ℕ) → v % 2 ^ suc n ≡ (v / 2 ^ n % 2) * 2 ^ n + v % 2 ^ n
mod_pow_suc v n = rw (← one-add n) (mod-pow-add v 1 n)

pub number_of_lt : (l : List Bool) → number_of l < 2 ^ length l
unfolding number_of
number_of_lt [] = omega arith
number_of_lt (b ∷ bs) = let ih = number_of_lt bs in rw pow-suc (step b (2 ^ length bs) (number_of bs) ih)
  where
    step : (b : Bool) (p m : ℕ) → m < p → digit b * p + m < p * 2
    step true p m h = omega arith
    step false p m h = omega arith

-- the number that the low n bits show
pub number_bits : (n v : ℕ) → number_of (bits_n n v) ≡ v % 2 ^ n
unfolding bits_n number_of
number_bits zero v = sym (mod-one v)
number_bits (suc n) v = cc (mod_pow_suc v n, length_bits_n n v, digit_bit_of (v / 2 ^ n), number_bits n v)

pub bits_n_cong : (n v w : ℕ) → v % 2 ^ n ≡ w % 2 ^ n → bits_n n v ≡ bits_n n w
unfolding bits_n
bits_n_cong zero v w h = refl
bits_n_cong (suc n) v w h =
    let e : v / 2 ^ n % 2 ≡ w / 2 ^ n % 2 = sym (field v 1 n) ∙ rw one-add (ap (λ (x : ℕ). x / 2 ^ n) h) ∙ field w 1 n in
    let f : v % 2 ^ n ≡ w % 2 ^ n = sym (mod-mod-pow v 1 n) ∙ rw one-add (ap (λ (x : ℕ). x % 2 ^ n) h) ∙ mod-mod-pow w 1 n in
    cc (bits_n_cong n v w f)

pub bits_n_append : (m n v : ℕ) → bits_n (m + n) v ≡ bits_n m (v / 2 ^ n) ++ bits_n n v
unfolding bits_n
bits_n_append zero n v = rw zero-add
bits_n_append (suc m) n v = rw (suc-add, shr-shr, add_comm n m, bits_n_append m n v)

pub number_of_append : (a b : List Bool) → number_of (a ++ b) ≡ number_of a * 2 ^ length b + number_of b
unfolding number_of
number_of_append [] b = omega arith
number_of_append (x ∷ a) b =
    let e : 2 ^ length (a ++ b) ≡ 2 ^ length a * 2 ^ length b = ap (λ (k : ℕ). 2 ^ k) (length-append a b) ∙ pow-add 2 _ _ in
    simp (e, number_of_append a b, add-mul, mul_assoc, add_assoc)

pub bits_number : (l : List Bool) → bits_n (length l) (number_of l) ≡ l
unfolding bits_n number_of
bits_number [] = refl
bits_number (b ∷ bs) =
    let e : (digit b * 2 ^ length bs + number_of bs) / 2 ^ length bs ≡ digit b = high (digit b) (length bs) (number_of_lt bs) in
    let m : digit b % 2 ≡ digit b = mod-eq_of_lt (digit_lt b) in
    let f : bits_n (length bs) (digit b * 2 ^ length bs + number_of bs) ≡ bits_n (length bs) (number_of bs) =
    bits_n_cong (length bs) _ _ (low (digit b) (length bs) (number_of_lt bs) ∙ sym (mod-eq_of_lt (number_of_lt bs))) in
    cc (bit_digit b, bits_number bs)

pub length_bits_of : (s : List ℕ) → length (bits_of s) ≡ 8 * length s
unfolding bits_of
length_bits_of [] = refl
length_bits_of (x ∷ s) = simp (length-append, length_bits_n, length_bits_of s) (omega arith)

pub bits_of_append : (s t : List ℕ) → bits_of (s ++ t) ≡ bits_of s ++ bits_of t
unfolding bits_of
bits_of_append [] t = refl
bits_of_append (x ∷ s) t = simp (bits_of_append s t, append_assoc)

-- the bits of two numbers that stand side by side in one
pub bits_n_cat : (m n h : ℕ) {l : ℕ} → l < 2 ^ n → bits_n (m + n) (h * 2 ^ n + l) ≡ bits_n m h ++ bits_n n l
bits_n_cat m n h {l} lt =
    let e : bits_n n (h * 2 ^ n + l) ≡ bits_n n l = bits_n_cong n _ _ (low h n lt ∙ sym (mod-eq_of_lt lt)) in
    bits_n_append m n (h * 2 ^ n + l) ∙ rw (high h n lt, e)

-- a byte in three parts, of r, c and the other bits
pub byte_parts : (r c k v : ℕ) → 8 ≡ r + (c + k) → bits_n 8 v ≡ bits_n r (v / 2 ^ (c + k)) ++ (bits_n c (v / 2 ^ k) ++ bits_n k v)
byte_parts r c k v e = rw (e, bits_n_append r (c + k) v, bits_n_append c k v)

-- the bits from a byte on are the bits of the bytes from there on
pub drop_bytes : (q : ℕ) (s : List ℕ) → drop (8 * q) (bits_of s) ≡ bits_of (drop q s)
unfolding bits_of
drop_bytes zero s = refl
drop_bytes (suc q) [] = drop-nil (8 * suc q)
drop_bytes (suc q) (x ∷ s) =
    let e : 8 * suc q ≡ 8 + 8 * q = omega arith in
    rw (e, ← drop-drop (8 * q) 8 (bits_n 8 x ++ bits_of s), drop_at (bits_n 8 x) (bits_of s) 8 (length_bits_n 8 x)) (drop_bytes q s)

-- the bits of bytes, parted at byte q, and there at bit r and c bits further
pub parts : (s : List ℕ) (q r c k : ℕ) → q < length s → 8 ≡ r + (c + k)
    → bits_of s ≡ (bits_of (take q s) ++ bits_n r (get_or s q 0 / 2 ^ (c + k))) ++ (bits_n c (get_or s q 0 / 2 ^ k) ++ (bits_n k (get_or s q 0) ++ bits_of (drop (suc q) s)))
unfolding bits_of
parts s q r c k hq e =
    ap bits_of (split_at s q 0 hq) ∙ bits_of_append (take q s) (get_or s q 0 ∷ drop (suc q) s)
    ∙ rw (byte_parts r c k (get_or s q 0) e) (simp append_assoc)

front_length : (s : List ℕ) (q r v : ℕ) → q < length s → length (bits_of (take q s) ++ bits_n r v) ≡ 8 * q + r
front_length s q r v hq = simp (length-append, length_bits_of, length_bits_n, length-take-le q s (le_of_lt hq))

-- c bits of the byte q, from its bit r on
pub read_chunk : (s : List ℕ) (q r c k : ℕ) → q < length s → 8 ≡ r + (c + k) → take c (drop (8 * q + r) (bits_of s)) ≡ bits_n c (get_or s q 0 / 2 ^ k)
read_chunk s q r c k hq e =
    let h = front_length s q r (get_or s q 0 / 2 ^ (c + k)) hq in
    rw (parts s q r c k hq e, drop_at _ _ (8 * q + r) h, take_at _ _ c (length_bits_n c (get_or s q 0 / 2 ^ k)))

pub splice_at : {A : Type 0} (p m t new : List A) (at : ℕ) → length p ≡ at → length m ≡ length new → splice (p ++ (m ++ t)) at new ≡ p ++ (new ++ t)
unfolding splice
splice_at p m t new at h e =
    rw (take_at p (m ++ t) at h, ← h, drop-append-add p (m ++ t) (length new), drop_at m t (length new) e)

-- c bits of the byte q, from its bit r on, and no other, are put anew
pub write_chunk : (s : List ℕ) (q r c k w : ℕ) → q < length s → 8 ≡ r + (c + k) → w < 2 ^ c
    → bits_of (set s q ((get_or s q 0 / 2 ^ (c + k) * 2 ^ c + w) * 2 ^ k + get_or s q 0 % 2 ^ k)) ≡ splice (bits_of s) (8 * q + r) (bits_n c w)
unfolding bits_of
write_chunk s q r c k w hq e hw =
    let x = get_or s q 0 in
    let h = front_length s q r (x / 2 ^ (c + k)) hq in
    let y = (x / 2 ^ (c + k) * 2 ^ c + w) * 2 ^ k + x % 2 ^ k in
    let low-kept : bits_n k (x % 2 ^ k) ≡ bits_n k x = bits_n_cong k _ _ (mod-mod x (2 ^ k)) in
    let b : bits_n 8 y ≡ bits_n r (x / 2 ^ (c + k)) ++ (bits_n c w ++ bits_n k x) =
    ap (λ (n : ℕ). bits_n n y) (e ∙ sym (add_assoc r c k))
    ∙ bits_n_cat (r + c) k (x / 2 ^ (c + k) * 2 ^ c + w) (mod-lt x (pow_pos k))
    ∙ rw (bits_n_cat r c (x / 2 ^ (c + k)) hw, low-kept, append_assoc) in
    let put : splice (bits_of s) (8 * q + r) (bits_n c w) ≡ (bits_of (take q s) ++ bits_n r (x / 2 ^ (c + k))) ++ (bits_n c w ++ (bits_n k x ++ bits_of (drop (suc q) s))) =
    rw (parts s q r c k hq e) (splice_at (bits_of (take q s) ++ bits_n r (x / 2 ^ (c + k))) (bits_n c (x / 2 ^ k)) (bits_n k x ++ bits_of (drop (suc q) s)) (bits_n c w) (8 * q + r) h (length_bits_n c (x / 2 ^ k) ∙ sym (length_bits_n c w))) in
    let new : bits_of (take q s) ++ bits_of (y ∷ drop (suc q) s) ≡ (bits_of (take q s) ++ bits_n r (x / 2 ^ (c + k))) ++ (bits_n c w ++ (bits_n k x ++ bits_of (drop (suc q) s))) =
    rw b (simp append_assoc) in
    ap bits_of (set_split s q y hq) ∙ bits_of_append (take q s) (y ∷ drop (suc q) s) ∙ new ∙ sym put

pub length_splice : {A : Type 0} (l new : List A) (at : ℕ) → at + length new ≤ length l → length (splice l at new) ≡ length l
unfolding splice
length_splice l new at h = simp (length-append, length-take-le at l (omega arith), length-drop) (omega arith)

pub splice_none : {A : Type 0} (l : List A) (at : ℕ) → splice l at [] ≡ l
unfolding splice
splice_none l at = rw add-zero (take-append-drop at l)

-- one element put in is the element set
pub splice_one : {A : Type 0} (l : List A) (at : ℕ) (x : A) → at < length l → splice l at (x ∷ []) ≡ set l at x
unfolding splice
splice_one l at x h = rw add-one (sym (set_split l at x h))

-- one part put in after another is both put in
pub splice_more : {A : Type 0} (l a b : List A) (at : ℕ) → at + (length a + length b) ≤ length l → splice (splice l at a) (at + length a) b ≡ splice l at (a ++ b)
unfolding splice
splice_more l a b at h =
    let k : length (take at l ++ a) ≡ at + length a = simp (length-append, length-take-le at l (omega arith)) in
    let t : take (at + length a) (take at l ++ (a ++ drop (at + length a) l)) ≡ take at l ++ a =
    rw (← append_assoc (take at l) a (drop (at + length a) l)) (take_at _ _ _ k) in
    let d : drop (at + length a + length b) (take at l ++ (a ++ drop (at + length a) l)) ≡ drop (at + length (a ++ b)) l =
    rw (← append_assoc (take at l) a (drop (at + length a) l), ← k, drop-append-add, drop-drop, k, length-append, add_assoc) in
    rw (t, d) (simp append_assoc)

-- what is read where bits were put, before them, and after them
pub splice_read : {A : Type 0} (l new : List A) (at : ℕ) → at ≤ length l → take (length new) (drop at (splice l at new)) ≡ new
unfolding splice
splice_read l new at h = rw (drop_at _ _ at (length-take-le at l h), take-append_seam)

pub splice_before : {A : Type 0} (l new : List A) (at : ℕ) → at ≤ length l → take at (splice l at new) ≡ take at l
unfolding splice
splice_before l new at h = take_at _ _ at (length-take-le at l h)

pub splice_after : {A : Type 0} (l new : List A) (at : ℕ) → at ≤ length l → drop (at + length new) (splice l at new) ≡ drop (at + length new) l
unfolding splice
splice_after l new at h =
    rw (← drop-drop (length new) at (take at l ++ (new ++ drop (at + length new) l)), drop_at _ _ at (length-take-le at l h), drop-append_seam)

-- what is read at a position after a write there is v, cut to n bits
pub read_written : (l : List Bool) (at n v : ℕ) → at ≤ length l → number_of (take n (drop at (splice l at (bits_n n v)))) ≡ v % 2 ^ n
read_written l at n v h =
    let e : take n (drop at (splice l at (bits_n n v))) ≡ bits_n n v =
    ap (λ (k : ℕ). take k (drop at (splice l at (bits_n n v)))) (sym (length_bits_n n v)) ∙ splice_read l (bits_n n v) at h in
    rw e (number_bits n v)

-- what stands inside the first m places stands there in the whole
take_drop_take : {A : Type 0} (n r m : ℕ) (l : List A) → r + n ≤ m → take n (drop r (take m l)) ≡ take n (drop r l)
take_drop_take n zero m l h = take-take n m l (omega arith)
take_drop_take n (suc r) zero l h = let z : ⊥ = omega arith in absurd z
take_drop_take n (suc r) (suc m) [] h = refl
take_drop_take n (suc r) (suc m) (x ∷ l) h = take_drop_take n r m l (omega arith)

pub number_take_lt : (i : ℕ) (l : List Bool) → number_of (take i l) < 2 ^ i
number_take_lt i l =
    lt_of_lt_of_le (number_of_lt (take i l)) (pow_mono (subst (λ (k : ℕ). k ≤ i) (sym (length-take i l)) (min-le_left i (length l))))

-- the number of i bits and of c more, which stand in the byte q
pub number_step : (s : List ℕ) (at i q r c k : ℕ) → at + i ≡ 8 * q + r → q < length s → 8 ≡ r + (c + k)
    → number_of (take i (drop at (bits_of s))) * 2 ^ c + get_or s q 0 / 2 ^ k % 2 ^ c ≡ number_of (take (i + c) (drop at (bits_of s)))
number_step s at i q r c k h hq e =
    let t : take (i + c) (drop at (bits_of s)) ≡ take i (drop at (bits_of s)) ++ bits_n c (get_or s q 0 / 2 ^ k) =
    rw (take-add i c (drop at (bits_of s)), drop-drop i at (bits_of s), h, read_chunk s q r c k hq e) in
    sym (rw (t, number_of_append, number_bits, length_bits_n))

-- a turn of the reading loop, in the code's own terms
pub number_next : (s : List ℕ) (at i q p v x c pw pw' : ℕ) → v ≡ number_of (take i (drop at (bits_of s))) → at + i ≡ 8 * q + p → x ≡ get_or s q 0
    → q < length s → p + c ≤ 8 → pw ≡ 2 ^ c → pw' ≡ 2 ^ c
    → v * pw + x / 2 ^ (8 - p - c) % pw' ≡ number_of (take (i + c) (drop at (bits_of s)))
number_next s at i q p v x c pw pw' hv hp hx hq hc e e' =
    rw (hv, hx, e, e') (number_step s at i q p c (8 - p - c) hp hq (omega arith))

-- ---- the definitions by their cases
pub read_wide : (s : List ℕ) (at n : ℕ) → 32 < n → read_u32 s at n ≡ Err OutOfRange
unfolding read_u32
read_wide s at n h = simp (lt-leb _ _ h)

pub read_short : (s : List ℕ) (at n : ℕ) → n ≤ 32 → 8 * length s < at + n → read_u32 s at n ≡ Err InputEnds
unfolding read_u32
read_short s at n h k = simp (le-leb _ _ h, lt-leb _ _ k)

pub read_good : (s : List ℕ) (at n : ℕ) → n ≤ 32 → at + n ≤ 8 * length s → read_u32 s at n ≡ Ok (number_of (take n (drop at (bits_of s))), pos_of (at + n))
unfolding read_u32
read_good s at n h k = simp (le-leb _ _ h, le-leb _ _ k)

pub write_wide : (s : List ℕ) (at v n : ℕ) → 32 < n → (write_u32 s at n ≡ Err OutOfRange) × (written s at v n ≡ s)
unfolding write_u32 written
write_wide s at v n h = (simp (lt-leb _ _ h), simp (lt-leb _ _ h))

pub write_short : (s : List ℕ) (at v n : ℕ) → n ≤ 32 → 8 * length s < at + n → (write_u32 s at n ≡ Err OutputFull) × (written s at v n ≡ s)
unfolding write_u32 written
write_short s at v n h k = (simp (le-leb _ _ h, lt-leb _ _ k), simp (le-leb _ _ h, lt-leb _ _ k))

pub write_good : (s : List ℕ) (at v n : ℕ) → n ≤ 32 → at + n ≤ 8 * length s
    → (write_u32 s at n ≡ Ok (pos_of (at + n))) × (written s at v n ≡ bytes_with s at (bits_n n v))
unfolding write_u32 written
write_good s at v n h k = (simp (le-leb _ _ h, le-leb _ _ k), simp (le-leb _ _ h, le-leb _ _ k))

-- a turn of the writing loop: the bits that the byte q gets are the next c of the n bits of v
pub bits_part : (n i c v : ℕ) → i + c ≤ n → take c (drop i (bits_n n v)) ≡ bits_n c (v / 2 ^ (n - i - c))
bits_part n i c v h =
    let k = n - i - c in
    let e : bits_n n v ≡ bits_n i (v / 2 ^ (c + k)) ++ (bits_n c (v / 2 ^ k) ++ bits_n k v) =
    ap (λ (m : ℕ). bits_n m v) (eq n i c h) ∙ bits_n_append i (c + k) v ∙ ap (λ (t : List Bool). bits_n i (v / 2 ^ (c + k)) ++ t) (bits_n_append c k v) in
    rw (e, drop_at (bits_n i (v / 2 ^ (c + k))) _ i (length_bits_n i _), take_at (bits_n c (v / 2 ^ k)) _ c (length_bits_n c _))
  where
    eq : (n i c : ℕ) → i + c ≤ n → n ≡ i + (c + (n - i - c))
    eq n i c h = omega arith

pub write_next : (l s : List ℕ) (at n v i q p c w y : ℕ) → bits_of s ≡ splice (bits_of l) at (take i (bits_n n v)) → length s ≡ length l
    → at + i ≡ 8 * q + p → i + c ≤ n → at + n ≤ 8 * length l → q < length s → p + c ≤ 8 → w ≡ v / 2 ^ (n - i - c) % 2 ^ c
    → y ≡ byte_with (get_or s q 0) p c w
    → bits_of (set s q y) ≡ splice (bits_of l) at (take (i + c) (bits_n n v))
unfolding byte_with
write_next l s at n v i q p c w y hs hl hp hi hn hq hc hw hy =
    let k = 8 - p - c in
    let e : 8 ≡ p + (c + k) = omega arith in
    let lt : w < 2 ^ c = rw hw (mod-lt (v / 2 ^ (n - i - c)) (pow_pos c)) in
    let b : bits_n c w ≡ take c (drop i (bits_n n v)) =
    bits_n_cong c w (v / 2 ^ (n - i - c)) (ap (λ (x : ℕ). x % 2 ^ c) hw ∙ mod-mod _ _) ∙ sym (bits_part n i c v hi) in
    let li : length (take i (bits_n n v)) ≡ i = length-take-le i (bits_n n v) (rw length_bits_n (omega arith)) in
    let lc : length (take c (drop i (bits_n n v))) ≡ c = rw (bits_part n i c v hi) (length_bits_n c _) in
    let pe : 8 * q + p ≡ at + length (take i (bits_n n v)) = rw li (sym hp) in
    let room : at + (length (take i (bits_n n v)) + length (take c (drop i (bits_n n v)))) ≤ length (bits_of l) = rw (li, lc, length_bits_of) (omega arith) in
    rw (hy, write_chunk s q p c k w hq e lt, hs, b, pe, splice_more (bits_of l) (take i (bits_n n v)) (take c (drop i (bits_n n v))) at room, ← take-add i c (bits_n n v))

-- each step of the sum for a byte with some bits put in it stays a byte
pub record Small (x r c w : ℕ) : Type 0 where
  pub first : x / 2 ^ (c + (8 - r - c)) * 2 ^ c < 256
  pub second : x / 2 ^ (c + (8 - r - c)) * 2 ^ c + w < 256
  pub third : (x / 2 ^ (c + (8 - r - c)) * 2 ^ c + w) * 2 ^ (8 - r - c) < 256
  pub whole : (x / 2 ^ (c + (8 - r - c)) * 2 ^ c + w) * 2 ^ (8 - r - c) + x % 2 ^ (8 - r - c) < 256

pub byte_small : (x r c w : ℕ) → x < 256 → r + c ≤ 8 → w < 2 ^ c → Small x r c w
byte_small x r c w hx hr hw =
    let k = 8 - r - c in
    let e : 8 ≡ (r + c) + k = omega arith in
    let f : 8 ≡ r + (c + k) = omega arith in
    let top : x / 2 ^ (c + k) < 2 ^ r = shr_lt r (c + k) (subst (λ (n : ℕ). x < 2 ^ n) f hx) in
    let mid : x / 2 ^ (c + k) * 2 ^ c + w < 2 ^ (r + c) = rw (pow-add 2 r c) (digits_lt top hw) in
    let all : (x / 2 ^ (c + k) * 2 ^ c + w) * 2 ^ k + x % 2 ^ k < 256 =
    subst (λ (n : ℕ). (x / 2 ^ (c + k) * 2 ^ c + w) * 2 ^ k + x % 2 ^ k < 2 ^ n) (sym e) (rw (pow-add 2 (r + c) k) (digits_lt mid (mod-lt x (pow_pos k)))) in
    let more : x / 2 ^ (c + k) * 2 ^ c + w ≤ (x / 2 ^ (c + k) * 2 ^ c + w) * 2 ^ k = le-mul_of_pos_right _ (pow_pos k) in
    record { first = omega arith; second = omega arith; third = omega arith; whole = all }

pub take_bits_n : (n v : ℕ) → take n (bits_n n v) ≡ bits_n n v
unfolding bits_n
take_bits_n zero v = refl
take_bits_n (suc n) v = ap (λ (l : List Bool). bit_of (v / 2 ^ n) ∷ l) (take_bits_n n v)

pub leb_same : (a b c d : ℕ) → (a ≤ b → c ≤ d) → (c ≤ d → a ≤ b) → leb a b ≡ leb c d
leb_same a b c d f g = go (leb a b) refl
  where
    go : (t : Bool) → leb a b ≡ t → leb a b ≡ leb c d
    go true e = rw (le-leb a b (leb-true a b e), le-leb c d (f (leb-true a b e)))
    go false e = rw (e, lt-leb c d (lt_of_not-le (λ h. not-le_of_lt (leb-false a b e) (g h))))

-- bytes are what their bits say
bytes_bits : (s : List ℕ) → ((i : ℕ) → i < length s → get_or s i 0 < 256) → bytes_of (length s) (bits_of s) ≡ s
unfolding bits_of bytes_of
bytes_bits [] h = refl
bytes_bits (x ∷ s) h =
    let b : x < 2 ^ 8 = h 0 (omega arith) in
    let r = bytes_bits s (λ i k. h (suc i) (omega arith)) in
    rw (take_at (bits_n 8 x) (bits_of s) 8 (length_bits_n 8 x), drop_at (bits_n 8 x) (bits_of s) 8 (length_bits_n 8 x), number_bits 8 x, mod-eq_of_lt b, r)

bytes_of_bits : (n : ℕ) (bs : List Bool) → length bs ≡ 8 * n → bits_of (bytes_of n bs) ≡ bs
unfolding bits_of bytes_of
bytes_of_bits zero [] h = refl
bytes_of_bits zero (b ∷ bs) h = absurd (omega arith)
bytes_of_bits (suc n) bs h =
    let k : length (take 8 bs) ≡ 8 = length-take-le 8 bs (omega arith) in
    let first : bits_n 8 (number_of (take 8 bs)) ≡ take 8 bs = rw k at (bits_number (take 8 bs)) in
    let rest = bytes_of_bits n (drop 8 bs) (rw length-drop (omega arith)) in
    rw (first, rest, take-append-drop)

-- Bytes are known by their bits.
abbrev pub Bytes : List ℕ → Type 0
Bytes s = (i : ℕ) → i < length s → get_or s i 0 < 256

pub bytes_known : (s t : List ℕ) → Bytes s → Bytes t → length s ≡ length t → bits_of s ≡ bits_of t → s ≡ t
bytes_known s t h k l e = sym (bytes_bits s h) ∙ rw (e, l) (bytes_bits t k)

-- bytes whose bits are those of s with others put in are those that the definition names
pub bytes_with_lem : (s e : List ℕ) (at : ℕ) (new : List Bool) → length e ≡ length s → Bytes e → bits_of e ≡ splice (bits_of s) at new → e ≡ bytes_with s at new
unfolding bytes_with
bytes_with_lem s e at new h k f = sym (bytes_bits e k) ∙ rw (h, f)

-- and back: the bits after a write
pub bits_with : (s : List ℕ) (at : ℕ) (new : List Bool) → at + length new ≤ 8 * length s → bits_of (bytes_with s at new) ≡ splice (bits_of s) at new
unfolding bytes_with
bits_with s at new h =
    let l = length_bits_of s in
    bytes_of_bits (length s) (splice (bits_of s) at new) (length_splice (bits_of s) new at (omega arith) ∙ l)

length_bytes_of : (n : ℕ) (bs : List Bool) → length (bytes_of n bs) ≡ n
unfolding bytes_of
length_bytes_of zero bs = refl
length_bytes_of (suc n) bs = ap suc (length_bytes_of n (drop 8 bs))

pub length_with : (s : List ℕ) (at : ℕ) (new : List Bool) → length (bytes_with s at new) ≡ length s
unfolding bytes_with
length_with s at new = length_bytes_of (length s) _

-- nothing put in leaves bytes as they are; one part after another is both
with_is : (s : List ℕ) (at : ℕ) (new : List Bool) → bytes_with s at new ≡ bytes_of (length s) (splice (bits_of s) at new)
unfolding bytes_with
with_is s at new = refl

pub with_none : (s : List ℕ) (at : ℕ) → Bytes s → bytes_with s at [] ≡ s
with_none s at h = with_is s at [] ∙ rw (splice_none (bits_of s) at) (bytes_bits s h)

pub with_more : (s : List ℕ) (a b : List Bool) (at : ℕ) → at + (length a + length b) ≤ 8 * length s → bytes_with (bytes_with s at a) (at + length a) b ≡ bytes_with s at (a ++ b)
with_more s a b at h =
    let r : at + (length a + length b) ≤ length (bits_of s) = rw length_bits_of h in
    with_is (bytes_with s at a) (at + length a) b
    ∙ rw (length_with s at a, bits_with s at a (omega arith), splice_more (bits_of s) a b at r) refl
    ∙ sym (with_is s at (a ++ b))

-- ---- what a write and a read have to do with each other
module _ (s : List ℕ) (at v n : ℕ) (few : n ≤ 32) (room : at + n ≤ 8 * length s) where
  bits_written : bits_of (written s at v n) ≡ splice (bits_of s) at (bits_n n v)
  bits_written = rw (write_good s at v n few room).1 (bits_with s at (bits_n n v) (rw length_bits_n room))

  inside : at ≤ length (bits_of s)
  inside = rw length_bits_of (omega arith)

  -- what was written is read there
  pub written_read : read_u32 (written s at v n) at n ≡ Ok (v % 2 ^ n, pos_of (at + n))
  written_read =
      let l : length (written s at v n) ≡ length s = rw (write_good s at v n few room).1 (length_with s at (bits_n n v)) in
      let k : at + n ≤ 8 * length (written s at v n) = rw l room in
      rw (read_good (written s at v n) at n few k, bits_written, read_written (bits_of s) at n v inside)

  -- the bits before it and those behind it keep their value
  pub written_before : take at (bits_of (written s at v n)) ≡ take at (bits_of s)
  written_before = rw bits_written (splice_before (bits_of s) (bits_n n v) at inside)

  pub written_after : drop (at + n) (bits_of (written s at v n)) ≡ drop (at + n) (bits_of s)
  written_after =
      rw bits_written
      (ap (λ (k : ℕ). drop (at + k) (splice (bits_of s) at (bits_n n v))) (sym (length_bits_n n v))
      ∙ splice_after (bits_of s) (bits_n n v) at inside ∙ ap (λ (k : ℕ). drop (at + k) (bits_of s)) (length_bits_n n v))

-- ---- n numbers of w bits
-- their bits in whole bytes and a part, small enough to be added up
pub record Spread (w n : ℕ) : Type 0 where
  pub sum : w * n ≡ 8 * (w * (n / 8)) + w * (n % 8)
  pub whole : w * (n / 8) ≤ 7 * (n / 8)
  pub part : w * (n % 8) ≤ 7 * (n % 8)

pub spread : (w n : ℕ) → w ≤ 7 → Spread w n
spread w n h =
    let e : 8 * (n / 8) + n % 8 ≡ n = omega arith in
    let d : w * n ≡ w * (8 * (n / 8)) + w * (n % 8) = ap (λ (k : ℕ). w * k) (sym e) ∙ mul-add w (8 * (n / 8)) (n % 8) in
    record {
      sum = d ∙ ap (λ (k : ℕ). k + w * (n % 8)) (mul_left_comm w 8 (n / 8));
      whole = mul-le-mul_right (n / 8) h;
      part = mul-le-mul_right (n % 8) h;
    }

-- ---- four bytes at once

-- the bits from a byte on begin with its own
byte_first : (s : List ℕ) (q : ℕ) → q < length s → drop (8 * q) (bits_of s) ≡ bits_n 8 (get_or s q 0) ++ drop (8 * (q + 1)) (bits_of s)
unfolding bits_of
byte_first s q h =
    let e : suc q ≡ q + 1 = omega arith in
    drop_bytes q s ∙ ap bits_of (drop-cons s q 0 h) ∙ ap (λ (l : List Bool). bits_n 8 (get_or s q 0) ++ l) (sym (drop_bytes (suc q) s) ∙ ap (λ (k : ℕ). drop (8 * k) (bits_of s)) e)

-- a byte more behind n bits that are known
byte_more : (s : List ℕ) (q p n h x : ℕ) (bs : List Bool) → p < length s → p + 1 ≡ q → x ≡ get_or s p 0 → x < 2 ^ 8
    → bs ≡ bits_n n h ++ drop (8 * p) (bits_of s) → bs ≡ bits_n (n + 8) (h * 2 ^ 8 + x) ++ drop (8 * q) (bits_of s)
byte_more s q p n h x bs hp e ex hx eb =
    eb ∙ rw (byte_first s p hp, ← ex, e, bits_n_cat n 8 h hx) (sym (append_assoc (bits_n n h) (bits_n 8 x) (drop (8 * q) (bits_of s))))

no_bits : bits_n 0 0 ≡ []
unfolding bits_n
no_bits = refl

pub four_bytes : (s : List ℕ) (q a b c d : ℕ) → q + 4 ≤ length s → a ≡ get_or s q 0 → b ≡ get_or s (q + 1) 0 → c ≡ get_or s (q + 2) 0 → d ≡ get_or s (q + 3) 0
    → a < 256 → b < 256 → c < 256 → d < 256 → take 32 (drop (8 * q) (bits_of s)) ≡ bits_n 32 (a * 16777216 + b * 65536 + c * 256 + d)
four_bytes s q a b c d h ea eb ec ed la lb lc ld =
    let none : drop (8 * q) (bits_of s) ≡ bits_n 0 0 ++ drop (8 * q) (bits_of s) = sym (ap (λ (b : List Bool). b ++ drop (8 * q) (bits_of s)) no_bits) in
    let w : a * 16777216 + b * 65536 + c * 256 + d ≡ (((0 * 2 ^ 8 + a) * 2 ^ 8 + b) * 2 ^ 8 + c) * 2 ^ 8 + d = omega arith in
    let l = drop (8 * q) (bits_of s) in
    let p1 = byte_more s (q + 1) q 0 0 a l (omega arith) refl ea la none in
    let p2 = byte_more s (q + 2) (q + 1) 8 (0 * 2 ^ 8 + a) b l (omega arith) (omega arith) eb lb p1 in
    let p3 = byte_more s (q + 3) (q + 2) 16 ((0 * 2 ^ 8 + a) * 2 ^ 8 + b) c l (omega arith) (omega arith) ec lc p2 in
    let p4 = byte_more s (q + 4) (q + 3) 24 (((0 * 2 ^ 8 + a) * 2 ^ 8 + b) * 2 ^ 8 + c) d l (omega arith) (omega arith) ed ld p3 in
    rw (w) (ap (take 32) p4 ∙ take_at (bits_n 32 ((((0 * 2 ^ 8 + a) * 2 ^ 8 + b) * 2 ^ 8 + c) * 2 ^ 8 + d)) (drop (8 * (q + 4)) (bits_of s)) 32 (length_bits_n 32 _))

-- n of 32 bits that are known, from the bit r on
pub number_short : (l : List Bool) (p r n w : ℕ) → r + n ≤ 32 → take 32 (drop p l) ≡ bits_n 32 w → w / 2 ^ (32 - r - n) % 2 ^ n ≡ number_of (take n (drop (p + r) l))
number_short l p r n w h e =
    let t : take n (drop (p + r) l) ≡ bits_n n (w / 2 ^ (32 - r - n)) =
    ap (take n) (sym (drop-drop r p l)) ∙ sym (take_drop_take n r 32 (drop p l) h) ∙ ap (λ (b : List Bool). take n (drop r b)) e ∙ bits_part 32 r n w h in
    sym (rw t (number_bits n (w / 2 ^ (32 - r - n))))
