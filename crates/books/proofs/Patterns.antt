-- The bit patterns of a book's fractions, tested on whole numbers, with no f32 made or rounded. Assumes nothing.
use Prim.Native.Nat.{ℕ, zero, suc, ◌+◌, ◌-◌, ◌*◌, ◌/◌, ◌%◌, ◌^◌, ◌≤◌, ◌<◌}
use mathlib.Core.Path.{◌≡◌, refl, sym, ap, ◌∙◌}
use mathlib.Core.Bool.{Bool, true, false, cond, ◌&&◌}
use mathlib.Core.List.{List, [], ◌∷◌, ◌++◌, append-nil}
use mathlib.Core.Logic.{inl, inr}
use native.Mathlib.Nat.{mul_assoc, mul_right_comm, mod-lt, lt_of_lt_of_le, lt_irrefl, le_trans, mul-le-mul_right, zero-add}
use native.Mathlib.Omega.{arith}
use lib.Dec.{T, leb, eqb, leb→le, eqb→eq, lit<}
use lib.Pow.{pow_pos, pow-add, pow_mono, shl_lt, shl-shr, split}
use lib.IntN.{ℤ, pos, negsuc}
use lib.ListN.{get_or, drop}
use lib.Ieee.{Float, nan, inf, fin, binary32, up, down, size, div, of_int, of_bits, to_bits}
use lib.Ieee.Bits.{of_bits-to_bits}
use lib.Ieee.Digits.{size-lt, size-le}
use lib.Ieee.Exact.{HasValue}
use lib.Ieee.Fits.{down_pos, div-fits}
use lib.Ieee.Nearest.{div_same}
use Rattle.tables.proofs.Tests.{and_parts, lt_or_le}
use Rattle.levels.specs.Value.{q15}
use Rattle.books.specs.Fractions.{column, by_component, floats}
use Rattle.books.proofs.Quotients.{positive_exact, negative_exact}

-- ---- the pattern of a value
-- a sign, and a size in units of the smallest f32
abbrev pattern : Bool → ℕ → ℕ
pattern s n = cond s (2 ^ 31) 0 + (size n - 24) * 2 ^ 23 + n / 2 ^ (size n - 24)

value_pattern : (x : Float) (s : Bool) (a c : ℕ) → 0 < c → HasValue x s a c → to_bits binary32 x ≡ pattern s (a * 2 ^ 149 / c)
unfolding to_bits
value_pattern nan s a c z v = absurd v
value_pattern (inf t) s a c z v = absurd v
value_pattern (fin t m e) s a c z v =
    let same : m * up e * 2 ^ 149 * c ≡ a * 2 ^ 149 * down e = mul_right_comm (m * up e) (2 ^ 149) c ∙ ap (λ (k : ℕ). k * 2 ^ 149) v.1 ∙ mul_right_comm a (down e) (2 ^ 149) in
    ap (λ (b : Bool). pattern b (m * up e * 2 ^ 149 / down e)) v.0 ∙ ap (pattern s) (div_same (m * up e * 2 ^ 149) (down e) (a * 2 ^ 149) c (down_pos e) z same)

-- 24 digits, the first of them 1, and j zeros
whole_pattern : (s : Bool) (q j : ℕ) → 2 ^ 23 ≤ q → q < 2 ^ 24 → pattern s (q * 2 ^ j) ≡ cond s (2 ^ 31) 0 + j * 2 ^ 23 + q
whole_pattern s q j l u =
    let most : size (q * 2 ^ j) ≤ 24 + j = size-le (q * 2 ^ j) (24 + j) (shl_lt 24 j u) in
    let below : 2 ^ (23 + j) ≤ q * 2 ^ j = rw (pow-add 2 23 j) (mul-le-mul_right (2 ^ j) l) in
    let least : 23 + j < size (q * 2 ^ j) =
    elim (lt_or_le (23 + j) (size (q * 2 ^ j))) [
      | inl h ↦ h
      | inr h ↦ absurd (lt_irrefl (q * 2 ^ j) (lt_of_lt_of_le (size-lt (q * 2 ^ j)) (le_trans (pow_mono h) below)))
    ]
    in
    let k : size (q * 2 ^ j) - 24 ≡ j = omega arith in
    rw (k, shl-shr q j)

-- ---- the test of a pattern
-- w, with no sign, is the pattern of m / 32768: its 24 digits, as far as its exponent moves them, are m * 2 ^ 23
abbrev is_quotient : ℕ → ℕ → Bool
is_quotient m w = leb m (2 ^ 24) && (leb 112 (w / 2 ^ 23) && eqb (m * 2 ^ 23) ((2 ^ 23 + w % 2 ^ 23) * 2 ^ (w / 2 ^ 23 - 112)))

abbrev is_fraction : ℤ → ℕ → Bool
is_fraction (pos zero) u = eqb u 0
is_fraction (pos (suc n)) u = is_quotient (suc n) u
is_fraction (negsuc n) u = leb (2 ^ 31) u && is_quotient (suc n) (u - 2 ^ 31)

put_together : (a x d w : ℕ) → 112 ≤ x → x * 2 ^ 23 + d ≡ w → a + (x - 112 + 111) * 2 ^ 23 + (2 ^ 23 + d) ≡ a + w
put_together a x d w h e = omega arith

quotient_pattern : (s : Bool) (m w : ℕ) → T (is_quotient m w) → (m ≤ 2 ^ 24) × (pattern s (m * 2 ^ 149 / 32768) ≡ cond s (2 ^ 31) 0 + w)
quotient_pattern s m w t =
    let p = and_parts (leb m (2 ^ 24)) (leb 112 (w / 2 ^ 23) && eqb (m * 2 ^ 23) ((2 ^ 23 + w % 2 ^ 23) * 2 ^ (w / 2 ^ 23 - 112))) t in
    let r = and_parts (leb 112 (w / 2 ^ 23)) (eqb (m * 2 ^ 23) ((2 ^ 23 + w % 2 ^ 23) * 2 ^ (w / 2 ^ 23 - 112))) p.1 in
    let x = leb→le 112 (w / 2 ^ 23) r.0 in
    let d = mod-lt w (pow_pos 23) in
    let e = eqb→eq (m * 2 ^ 23) ((2 ^ 23 + w % 2 ^ 23) * 2 ^ (w / 2 ^ 23 - 112)) r.1 in
    let q = 2 ^ 23 + w % 2 ^ 23 in
    let i = w / 2 ^ 23 - 112 in
    let same : m * 2 ^ 149 / 32768 ≡ q * 2 ^ (i + 111) =
    ap (λ (k : ℕ). k / 2 ^ 15) (sym (mul_assoc m (2 ^ 134) (2 ^ 15)))
    ∙ shl-shr (m * 2 ^ 134) 15
    ∙ sym (mul_assoc m (2 ^ 23) (2 ^ 111))
    ∙ ap (λ (k : ℕ). k * 2 ^ 111) e
    ∙ mul_assoc q (2 ^ i) (2 ^ 111)
    ∙ ap (λ (k : ℕ). q * k) (sym (pow-add 2 i 111))
    in
    (leb→le m (2 ^ 24) p.0, ap (pattern s) same ∙ whole_pattern s q (i + 111) (omega arith) (omega arith) ∙ put_together (cond s (2 ^ 31) 0) (w / 2 ^ 23) (w % 2 ^ 23) w x (split w 23))

with_sign : (u : ℕ) → 2 ^ 31 ≤ u → 2 ^ 31 + (u - 2 ^ 31) ≡ u
with_sign u h = omega arith

shown : (v : ℤ) (u : ℕ) → to_bits binary32 (q15 v) ≡ u → of_bits binary32 u ≡ q15 v
unfolding q15
shown v u e = ap (of_bits binary32) (sym e) ∙ of_bits-to_bits binary32 (q15 v) (div-fits binary32 _ _)

zero_shown : of_bits binary32 0 ≡ q15 (pos 0)
unfolding q15 div of_int of_bits
zero_shown = refl

fraction_shown : (v : ℤ) (u : ℕ) → T (is_fraction v u) → of_bits binary32 u ≡ q15 v
fraction_shown (pos zero) u t = ap (of_bits binary32) (eqb→eq u 0 t) ∙ zero_shown
fraction_shown (pos (suc n)) u t =
    let p = quotient_pattern false (suc n) u t in
    shown (pos (suc n)) u (value_pattern (q15 (pos (suc n))) false (suc n) 32768 (lit< tt) (positive_exact (suc n) p.0) ∙ p.1 ∙ zero-add u)
fraction_shown (negsuc n) u t =
    let b = and_parts (leb (2 ^ 31) u) (is_quotient (suc n) (u - 2 ^ 31)) t in
    let p = quotient_pattern true (suc n) (u - 2 ^ 31) b.1 in
    shown (negsuc n) u (value_pattern (q15 (negsuc n)) true (suc n) 32768 (lit< tt) (negative_exact n p.0) ∙ p.1 ∙ with_sign u (leb→le (2 ^ 31) u b.0))

-- ---- the test of a book
-- the first n patterns are those of the first, seventh, thirteenth .. number, and those behind them pass the test f
abbrev is_column : ℕ → List ℤ → (List ℕ → Bool) → List ℕ → Bool
is_column zero b f us = f us
is_column (suc n) b f [] = false
is_column (suc n) b f (u ∷ us) = is_fraction (get_or b 0 (pos 0)) u && is_column n (drop 6 b) f us

column_shown : (n : ℕ) (b : List ℤ) (f : List ℕ → Bool) (after : List Float) → ((us : List ℕ) → T (f us) → floats us ≡ after)
    → (us : List ℕ) → T (is_column n b f us) → floats us ≡ column n b ++ after
unfolding floats column
column_shown zero b f after g us t = g us t
column_shown (suc n) b f after g [] t = absurd t
column_shown (suc n) b f after g (u ∷ us) t =
    let p = and_parts (is_fraction (get_or b 0 (pos 0)) u) (is_column n (drop 6 b) f us) t in
    λ i. fraction_shown (get_or b 0 (pos 0)) u p.0 i ∷ column_shown n (drop 6 b) f after g us p.1 i

abbrev is_empty : List ℕ → Bool
is_empty [] = true
is_empty (u ∷ us) = false

-- a last column with nothing behind it
empty_shown : (us : List ℕ) → T (is_empty us) → floats us ≡ []
unfolding floats
empty_shown [] t = refl
empty_shown (u ∷ us) t = absurd t

last_shown : (n : ℕ) (b : List ℤ) (us : List ℕ) → T (is_column n b is_empty us) → floats us ≡ column n b
last_shown n b us t = column_shown n b is_empty [] empty_shown us t ∙ append-nil (column n b)

abbrev is_by_component : ℕ → List ℤ → List ℕ → Bool
is_by_component n b =
    is_column n b (is_column n (drop 1 b) (is_column n (drop 2 b) (is_column n (drop 3 b) (is_column n (drop 4 b) (is_column n (drop 5 b) is_empty)))))

pub book_shown : (n : ℕ) (b : List ℤ) (us : List ℕ) → T (is_by_component n b us) → floats us ≡ by_component n b
unfolding by_component
book_shown n b =
    column_shown n b _ _ (column_shown n (drop 1 b) _ _ (column_shown n (drop 2 b) _ _ (column_shown n (drop 3 b) _ _ (column_shown n (drop 4 b) _ _ (last_shown n (drop 5 b))))))
