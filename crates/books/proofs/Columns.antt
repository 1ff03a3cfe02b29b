-- A book in component order: where its numbers are; its search is the search through the book. Assumes nothing.
use Prim.Native.Nat.{ℕ, zero, suc, ◌+◌, ◌*◌, ◌/◌, ◌%◌, ◌^◌, ◌<◌, ◌≤◌}
use mathlib.Core.Path.{◌≡◌, refl, ap, sym, ◌∙◌}
use mathlib.Core.Bool.{Bool, true, false, cond, true≢false}
use mathlib.Core.List.{List, [], ◌∷◌, ◌++◌}
use native.Mathlib.Nat.{zero-mul, suc-mul, mul_comm, mod-lt, mod-add-div, div-lt_iff_lt-mul}
use native.Mathlib.Omega.{arith}
use lib.IntN.{ℤ, pos}
use lib.ListN.{length, length-append, length-map, get_or, drop, get_or-append}
use lib.Signed.{mag}
use lib.Ieee.Bits.{nan_bits_is}
use lib.Seq.{get_or-append-add, get_or-drop}
use lib.Ieee.{Float, nan, inf, fin, binary32, of_bits, nan_bits, is_nan}
use Rattle.tables.specs.Tables.{book, vq_bits}
use Rattle.tables.proofs.Rules.{book_fits, vq_most}
use lib.Dec.{eqb}
use lib.Pow.{pow_mono}
use borrow.Author.Tests.{eqb-true, eqb-false}
use Rattle.levels.specs.Component.{beyond}
use Rattle.levels.specs.Value.{f0, q15}
use Rattle.books.specs.Fractions.{column, by_component, floats, FractionsOf}
use Rattle.books.specs.Books.{term_of, sum_to, distance_of, search_from, nearest_in, has_book, vectors_of, search_of}
use Rattle.books.specs.Work.{distance_by, distance_in, NoNans}
use Rattle.books.proofs.First.{entry_most}
use Rattle.books.proofs.Laws.{HasBook, has_book_lem}

-- ---- the f32 at a place
pub float_at : (l : List ℕ) (i : ℕ) → i < length l → get_or (floats l) i nan ≡ of_bits binary32 (get_or l i 0)
unfolding floats
float_at [] i h = absurd (omega arith)
float_at (u ∷ l) zero h = refl
float_at (u ∷ l) (suc i) h = float_at l i (omega arith)

-- six terms are the distance
pub six_terms : (t : List Float) (n k : ℕ) (p q r s u v a b c d e z : Float)
    → a ≡ term_of f0 p (get_or t k nan) → b ≡ term_of a q (get_or t (k + n) nan) → c ≡ term_of b r (get_or t (k + 2 * n) nan)
    → d ≡ term_of c s (get_or t (k + 3 * n) nan) → e ≡ term_of d u (get_or t (k + 4 * n) nan) → z ≡ term_of e v (get_or t (k + 5 * n) nan)
    → z ≡ distance_by t n k p q r s u v
unfolding distance_by
six_terms t n k p q r s u v a b c d e z ea eb ec ed ee ez = ez ∙ rw (ee, ed, ec, eb, ea)

-- ---- one column
column_length : (n : ℕ) (b : List ℤ) → length (column n b) ≡ n
unfolding column
column_length zero b = refl
column_length (suc n) b = ap suc (column_length n (drop 6 b))

column_at : (n k : ℕ) (b : List ℤ) → k < n → get_or (column n b) k nan ≡ q15 (get_or b (k * 6) (pos 0))
unfolding column
column_at zero k b h = absurd (omega arith)
column_at (suc n) zero b h = refl
column_at (suc n) (suc k) b h =
    let e : 6 + k * 6 ≡ suc k * 6 = omega arith in
    column_at n k (drop 6 b) (omega arith) ∙ rw (get_or-drop 6 b (k * 6) (pos 0), e)

-- ---- several, one behind another
module _ (n : ℕ) (b : List ℤ) where
  -- the columns j to j + m
  abbrev columns : ℕ → ℕ → List Float
  columns zero j = column n (drop j b)
  columns (suc m) j = column n (drop j b) ++ columns m (suc j)

  from_column : (j k : ℕ) → k < n → get_or (column n (drop j b)) k nan ≡ q15 (get_or b (k * 6 + j) (pos 0))
  from_column j k h =
      let e : j + k * 6 ≡ k * 6 + j = omega arith in
      column_at n k (drop j b) h ∙ rw (get_or-drop j b (k * 6) (pos 0), e)

  columns_at : (m j i k p : ℕ) → i ≤ m → k < n → p ≡ k + i * n → get_or (columns m j) p nan ≡ q15 (get_or b (k * 6 + (j + i)) (pos 0))
  columns_at zero j zero k p u h e =
      let f : p ≡ k = omega (arith, zero-mul n) in
      let g : j ≡ j + 0 = omega arith in
      rw (f, ← g) (from_column j k h)
  columns_at zero j (suc i) k p u h e = absurd (omega arith)
  columns_at (suc m) j zero k p u h e =
      let f : p ≡ k = omega (arith, zero-mul n) in
      let g : j ≡ j + 0 = omega arith in
      let l : k < length (column n (drop j b)) = omega (arith, column_length n (drop j b)) in
      rw (f, ← g) (get_or-append (column n (drop j b)) (columns m (suc j)) nan k l ∙ from_column j k h)
  columns_at (suc m) j (suc i) k p u h e =
      let f : p ≡ length (column n (drop j b)) + (k + i * n) = omega (arith, column_length n (drop j b), suc-mul i n) in
      let g : suc j + i ≡ j + suc i = omega arith in
      rw (f, ← g) (get_or-append-add (column n (drop j b)) (columns m (suc j)) (k + i * n) nan ∙ columns_at m (suc j) i k (k + i * n) (omega arith) h refl)

  -- number j of vector k
  component : (j k p : ℕ) → j < 6 → k < n → p ≡ k + j * n → get_or (by_component n b) p nan ≡ q15 (get_or b (k * 6 + j) (pos 0))
  unfolding by_component
  component j k p u h e = let g : 0 + j ≡ j = omega arith in rw g at (columns_at 5 0 j k p (omega arith) h e)

  -- the distance from vector k
  same_distance : (x : List Float) (k : ℕ) → k < n → distance_in x (by_component n b) n k ≡ distance_of x b k
  unfolding distance_in distance_by distance_of sum_to
  same_distance x k h =
      let e0 = component 0 k k (omega arith) h (omega (arith, zero-mul n)) in
      let e1 = component 1 k (k + n) (omega arith) h (omega arith) in
      let e2 = component 2 k (k + 2 * n) (omega arith) h refl in
      let e3 = component 3 k (k + 3 * n) (omega arith) h refl in
      let e4 = component 4 k (k + 4 * n) (omega arith) h refl in
      let e5 = component 5 k (k + 5 * n) (omega arith) h refl in
      rw (e0, e1, e2, e3, e4, e5)

-- ---- bit patterns that show a book's fractions are no NaN's
number_bits : (u n : ℕ) (x : Float) → beyond n x ≡ false → of_bits binary32 u ≡ x → nan_bits binary32 u ≡ false
unfolding is_nan beyond
number_bits u n nan r e = absurd (true≢false r)
number_bits u n (inf s) r e = absurd (true≢false r)
number_bits u n (fin s m g) r e = nan_bits_is binary32 u ∙ rw e

pub no_nans : (t : List ℕ) (n : ℕ) (b : List ℤ) → ((i : ℕ) → mag (get_or b i (pos 0)) < 2 ^ 15) → 0 < n → length t ≤ n * 6 → floats t ≡ by_component n b → NoNans t
no_nans t n b fits z l e =
    record {
      each = λ i h.
          let j : i / n < 6 = (div-lt_iff_lt-mul z).1 (omega arith) in
          let p : i ≡ i % n + i / n * n = sym (mod-add-div i n) ∙ rw (mul_comm n (i / n)) in
          let q = component n b (i / n) (i % n) i j (mod-lt i z) p in
          let k = i % n * 6 + i / n in
          number_bits (get_or t i 0) 1 (q15 (get_or b k (pos 0))) (entry_most (get_or b k (pos 0)) (fits k)) (sym (float_at t i h) ∙ rw e q);
    }

-- ---- the search
same_search : (f g : ℕ → Float) (n k best : ℕ) (d : Float) → ((i : ℕ) → i < k + n → f i ≡ g i) → search_from f n k best d ≡ search_from g n k best d
unfolding search_from
same_search f g zero k best d h = refl
same_search f g (suc n) k best d h = rw (h k (omega arith)) (same_search f g n (suc k) _ _ (λ i l. h i (omega arith)))

by_component_lem : (n : ℕ) (b : List ℤ) (x : List Float) → search_from (distance_in x (by_component n b) n) n 0 0 (inf false) ≡ nearest_in b n x
unfolding nearest_in
by_component_lem n b x = same_search (distance_in x (by_component n b) n) (distance_of x b) n 0 0 (inf false) (λ k h. same_distance n b x k (omega arith))

-- ---- the book of a hebap
columns_length : (n : ℕ) (b : List ℤ) → length (by_component n b) ≡ 6 * n
unfolding by_component
columns_length n b =
    rw (length-append, length-append, length-append, length-append, length-append)
    (omega (arith, column_length n b, column_length n (drop 1 b), column_length n (drop 2 b), column_length n (drop 3 b), column_length n (drop 4 b), column_length n (drop 5 b)))

pub book_length : (h : ℕ) (t : List ℕ) → FractionsOf h t → length t ≡ 6 * vectors_of h
unfolding floats
book_length h t e = sym (length-map t (of_bits binary32)) ∙ ap length e ∙ columns_length (vectors_of h) (book h)

-- it has few vectors, and no NaNs
pub few_vectors : (h : ℕ) → vectors_of h < 1024
few_vectors h = go (has_book h)
  where
    go : (t : Bool) → cond t (2 ^ vq_bits h) 0 < 1024
    go true = let m : 2 ^ vq_bits h ≤ 2 ^ 9 = pow_mono (vq_most h) in omega arith
    go false = omega arith

pub columns_no_nans : (h : ℕ) (t : List ℕ) → FractionsOf h t → NoNans t
columns_no_nans h t e = go (eqb (vectors_of h) 0) refl
  where
    long : length t ≡ 6 * vectors_of h
    long = book_length h t e

    go : (z : Bool) → eqb (vectors_of h) 0 ≡ z → NoNans t
    go true q = let z = eqb-true (vectors_of h) 0 q in let l = long in record { each = λ i u. absurd (omega arith) }
    go false q =
        let k = has_book_lem h (vectors_of h) refl (eqb-false (vectors_of h) 0 q) in
        let l = long in
        no_nans t (vectors_of h) (book h) (λ i. book_fits h i k.low k.high) k.some (omega arith) e

-- what the search through it answers
pub searched : (h n : ℕ) (t : List ℕ) (x : List Float) (r : ℕ) → n ≡ vectors_of h → HasBook h n → FractionsOf h t
    → r ≡ search_from (distance_in x (floats t) n) n 0 0 (inf false) → r ≡ search_of h x
unfolding search_of
searched h n t x r en k et er = rw (← k.size) (er ∙ rw (et, ← en) (by_component_lem n (book h) x))
