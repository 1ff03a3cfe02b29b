-- The vector quantiser: looking a vector up, and the search for the nearest one.
-- docs/FORMAT.md, Books; ATSC A/52 Annex E, 3.4.4.1, Tables E4.1 to E4.7.
use Rattle.std.specs.Prelude.{ℕ, zero, suc, ◌+◌, ◌*◌, ◌%◌, ◌^◌, ◌<◌, ◌≡◌, Bool, true, false, cond, ◌&&◌, List, [], ◌∷◌, leb, ℤ, pos, ◌*ℤ◌, get_or, replicate, Float, Result, Ok, Err}
use Rattle.std.specs.Float.{nan, inf, binary32}
use Rattle.std.specs.Float.Ieee.{add, sub, mul, lt}
use Rattle.tables.specs.Tables.{book, vq_bits}
use Rattle.levels.specs.Component.{some_beyond, largest_size}
use Rattle.levels.specs.Value.{f0, q15}
use Rattle.answers.specs.declared.Refusal.{Refusal}
use Rattle.answers.specs.declared.Refusal.TheVariants.{Component}

-- hebap 1 to 7
abbrev pub has_book : ℕ → Bool
has_book h = leb 1 h && leb h 7

-- how many vectors: 2 ^ VQ_BITS; none where the hebap has no book
abbrev pub vectors_of : ℕ → ℕ
vectors_of h = cond (has_book h) (2 ^ vq_bits h) 0

-- what f makes of the six numbers of a book from the place a on
abbrev pub six_by : {A : Type 0} → (ℤ → A) → List ℤ → ℕ → List A
six_by f b a =
    f (get_or b a (pos 0)) ∷ f (get_or b (a + 1) (pos 0)) ∷ f (get_or b (a + 2) (pos 0)) ∷
    f (get_or b (a + 3) (pos 0)) ∷ f (get_or b (a + 4) (pos 0)) ∷ f (get_or b (a + 5) (pos 0)) ∷ []

-- as fractions
unfoldable pub six_at : List ℤ → ℕ → List Float
six_at b a = six_by q15 b a

abbrev pub exact_entry : ℤ → ℤ
exact_entry e = e *ℤ pos (2 ^ 15)

-- ---- vq_lookup: the vector at an index modulo their number; zeros where the hebap has no book
unfoldable pub vq_lookup : ℕ → ℕ → List Float
vq_lookup h i = cond (has_book h) (six_at (book h) (i % 2 ^ vq_bits h * 6)) (replicate 6 f0)

-- their exact values, in units of 2 ^ -30: entry × 2 ^ 15. docs/FORMAT.md, Levels
unfoldable pub exacts_at : List ℤ → ℕ → List ℤ
exacts_at b a = six_by exact_entry b a

unfoldable pub vq_exact : ℕ → ℕ → List ℤ
vq_exact h i = cond (has_book h) (exacts_at (book h) (i % 2 ^ vq_bits h * 6)) (replicate 6 (pos 0))

-- ---- distances, each operation rounded once
-- d and the square of what x and the fraction e differ by
unfoldable pub term_of : Float → Float → Float → Float
term_of d x e = add binary32 d (mul binary32 (sub binary32 x e) (sub binary32 x e))

-- the sum of these at the first j places of the vector that starts at the place a of the book b, in order
unfoldable pub sum_to : ℕ → List Float → List ℤ → ℕ → Float
sum_to zero x b a = f0
sum_to (suc j) x b a = term_of (sum_to j x b a) (get_or x j nan) (q15 (get_or b (a + j) (pos 0)))

-- the distance of x from the vector k of the book
unfoldable pub distance_of : List Float → List ℤ → ℕ → Float
distance_of x b k = sum_to 6 x b (k * 6)

-- ---- the first index of least distance among n vectors of a book: none has a smaller one, each earlier one a larger
pub record FirstLeast (x : List Float) (b : List ℤ) (n best : ℕ) : Type 0 where
  pub there : best < n
  pub none_smaller : (k : ℕ) → k < n → lt (distance_of x b k) (distance_of x b best) ≡ false
  pub earlier_larger : (k : ℕ) → k < best → lt (distance_of x b best) (distance_of x b k) ≡ true

-- the same, found in order, for any distances f: n of them from k on; best and d are the place and value of the least
unfoldable pub search_from : (ℕ → Float) → ℕ → ℕ → ℕ → Float → ℕ
search_from f zero k best d = best
search_from f (suc n) k best d = search_from f n (suc k) (cond (lt (f k) d) k best) (cond (lt (f k) d) (f k) d)

unfoldable pub nearest_in : List ℤ → ℕ → List Float → ℕ
nearest_in b n x = search_from (distance_of x b) n 0 0 (inf false)

-- ---- vq_search: 5 for a component that is not accepted, where the hebap has a book; 0 where it has none
-- the index that the search picks
unfoldable pub search_of : ℕ → List Float → ℕ
search_of h x = nearest_in (book h) (2 ^ vq_bits h) x

-- where components up to a limit are accepted
unfoldable pub vq_search_up_to : ℕ → ℕ → List Float → Result ℕ Refusal
vq_search_up_to limit h x =
    cond (has_book h)
    (cond (some_beyond limit x) (Err Component) (Ok (search_of h x)))
    (Ok 0)

abbrev pub vq_search : ℕ → List Float → Result ℕ Refusal
vq_search = vq_search_up_to largest_size
