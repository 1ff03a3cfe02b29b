-- The search finds the first index of least distance. Assumes nothing.
use Prim.Native.Nat.{ℕ, zero, suc, ◌+◌, ◌*◌, ◌^◌, ◌≤◌, ◌<◌}
use mathlib.Core.Path.{◌≡◌, refl, sym, ap, ◌∙◌, subst}
use mathlib.Core.Bool.{Bool, true, false, cond, true≢false}
use mathlib.Core.List.{List}
use mathlib.Core.Logic.{◌⊎◌, inl, inr}
use native.Mathlib.Nat.{mul-pos, not-le_of_lt, lt_of_not-le, eq-or-lt_of_le, le_of_lt, le_antisymm, add-zero, add-suc, suc-add}
use native.Mathlib.Omega.{arith}
use lib.Dec.{T, lit<, lit≤}
use lib.IntN.{ℤ, pos, negsuc}
use lib.Pow.{pow-add, pow_mono, pow_pos}
use lib.Signed.{mag}
use lib.ListN.{get_or, length}
use lib.Ieee.{Float, nan, inf, fin, binary32, up, down, round, sum, add, sub, mul, of_bits, lt}
use lib.Ieee.Fits.{down_pos}
use lib.Ieee.Positive.{through}
use lib.Ieee.Scale.{finite}
use borrow.Author.Tests.{ltb-true, ltb-false, lt-ltb, le-ltb, le-leb}
use Rattle.tables.specs.Tables.{book, vq_bits}
use Rattle.tables.proofs.Rules.{book_fits}
use Rattle.tables.proofs.Tests.{lt_or_le}
use Rattle.levels.specs.Component.{largest_size, beyond, too_large, some_too_large}
use Rattle.levels.specs.Value.{q15}
use Rattle.levels.proofs.Range.{each_accepted}
use Rattle.levels.proofs.Within.{AtMost, value_within, round_most, add_fraction, mul_fraction, sub_within}
use Rattle.books.specs.Books.{term_of, sum_to, distance_of, search_from, nearest_in, FirstLeast, search_of, vq_search, vq_search_up_to}
use Rattle.books.proofs.Quotients.{positive_exact, negative_exact}
use Rattle.std.specs.Prelude.{Ok}

-- ---- no distance is a NaN or infinite: each step of its sum has a bound
-- a fraction of a book is 1 at most in size
pub entry_most : (z : ℤ) → mag z < 2 ^ 15 → beyond 1 (q15 z) ≡ false
entry_most (pos n) h = value_within (q15 (pos n)) false n 32768 1 (lit< tt) (positive_exact n (omega arith)) (omega arith)
entry_most (negsuc n) h = value_within (q15 (negsuc n)) true (suc n) 32768 1 (lit< tt) (negative_exact n (omega arith)) (omega arith)

square_of : (m : ℕ) (e : ℤ) → m * up e ≤ 2 ^ 15 * down e → AtMost (2 ^ 30) (round binary32 false (m * up e * (m * up e)) (down e * down e))
square_of m e h =
    round_most (m * up e * (m * up e)) (down e * down e) 30 (mul-pos (down_pos e) (down_pos e)) (omega arith)
    (mul_fraction (m * up e) (m * up e) (down e) (down e) (2 ^ 15) (2 ^ 15) 30 h h (lit≤ tt))

square_most : (y : Float) → beyond (2 ^ 15) y ≡ false → AtMost (2 ^ 30) (mul binary32 y y)
unfolding mul beyond
square_most nan h = absurd (true≢false h)
square_most (inf s) h = absurd (true≢false h)
square_most (fin true m e) h = square_of m e (ltb-false (2 ^ 15 * down e) (m * up e) h)
square_most (fin false m e) h = square_of m e (ltb-false (2 ^ 15 * down e) (m * up e) h)

add_most : (n k : ℕ) (d q : Float) → k ≤ 127 → AtMost n d → AtMost (2 ^ 30) q → n + 2 ^ 30 ≤ 2 ^ k → AtMost (2 ^ k) (add binary32 d q)
unfolding add sum
add_most n k nan q u h g f = absurd h
add_most n k (inf s) q u h g f = absurd h
add_most n k (fin true m e) q u h g f = absurd h
add_most n k (fin false m e) nan u h g f = absurd g
add_most n k (fin false m e) (inf t) u h g f = absurd g
add_most n k (fin false m e) (fin true l d) u h g f = absurd g
add_most n k (fin false m e) (fin false l d) u h g f =
    round_most (m * up e * down d + l * up d * down e) (down e * down d) k (mul-pos (down_pos e) (down_pos d)) u
    (add_fraction (m * up e) (l * up d) (down e) (down d) n (2 ^ 30) k h g f)

term_most : (n k : ℕ) (d x e : Float) → k ≤ 127 → AtMost n d → too_large x ≡ false → beyond 1 e ≡ false → n + 2 ^ 30 ≤ 2 ^ k → AtMost (2 ^ k) (term_of d x e)
unfolding term_of
term_most n k d x e u p h r f =
    add_most n k d (mul binary32 (sub binary32 x e) (sub binary32 x e)) u p
    (square_most (sub binary32 x e) (sub_within largest_size 1 15 (omega arith) x e h r (lit≤ tt))) f

-- ---- the order of such numbers
-- what a distance is: not negative, and 2 ^ 36 at most
abbrev Bounded : Float → Type 0
Bounded = AtMost (2 ^ 36)

apart : (a b c : Float) → Bounded a → Bounded b → Bounded c → lt a b ≡ true → lt c b ≡ false → (lt a c ≡ true) × (lt c a ≡ false)
unfolding lt
apart nan b c p q r h k = absurd p
apart (inf s) b c p q r h k = absurd p
apart (fin true m e) b c p q r h k = absurd p
apart (fin false m e) nan c p q r h k = absurd q
apart (fin false m e) (inf t) c p q r h k = absurd q
apart (fin false m e) (fin true n d) c p q r h k = absurd q
apart (fin false m e) (fin false n d) nan p q r h k = absurd r
apart (fin false m e) (fin false n d) (inf s) p q r h k = absurd r
apart (fin false m e) (fin false n d) (fin true l g) p q r h k = absurd r
apart (fin false m e) (fin false n d) (fin false l g) p q r h k =
    let below : m * up e * down d < n * up d * down e = ltb-true _ _ h in
    let above : n * up d * down g ≤ l * up g * down d = ltb-false _ _ k in
    let less : m * up e * down g < l * up g * down e =
    lt_of_not-le (λ (f : l * up g * down e ≤ m * up e * down g). not-le_of_lt below (through (n * up d) (l * up g) (m * up e) (down d) (down g) (down e) (down_pos g) above f)) in
    (lt-ltb _ _ less, le-ltb _ _ (le_of_lt less))

never_self : (c : Float) → Bounded c → lt c c ≡ false
unfolding lt
never_self nan p = absurd p
never_self (inf s) p = absurd p
never_self (fin true m e) p = absurd p
never_self (fin false m e) p = le-ltb (m * up e * down e) (m * up e * down e) (omega arith)

-- below infinity, from which the search starts
under : (c : Float) → Bounded c → lt c (inf false) ≡ true
unfolding lt
under nan p = absurd p
under (inf s) p = absurd p
under (fin s m e) p = refl

bounded_finite : (c : Float) → Bounded c → T (finite c)
bounded_finite nan p = absurd p
bounded_finite (inf s) p = absurd p
bounded_finite (fin s m e) p = tt

module _ (x : List Float) (b : List ℤ) (l : length x ≡ 6) (h : some_too_large x ≡ false) (fits : (i : ℕ) → mag (get_or b i (pos 0)) < 2 ^ 15) where
  abbrev D : ℕ → Float
  D = distance_of x b

  -- each component adds 2 ^ 30 at most
  sum_most : (j a : ℕ) → j ≤ 6 → AtMost (2 ^ (30 + j)) (sum_to j x b a)
  unfolding sum_to of_bits
  sum_most zero a k = omega arith
  sum_most (suc j) a k =
      let next : 30 + suc j ≡ 30 + j + 1 = omega arith in
      let two : 2 ^ (30 + suc j) ≡ 2 ^ (30 + j) * 2 = ap (λ (n : ℕ). 2 ^ n) next ∙ pow-add 2 (30 + j) 1 in
      let u : 30 ≤ 30 + j = omega arith in
      let more : 2 ^ 30 ≤ 2 ^ (30 + j) = pow_mono u in
      term_most (2 ^ (30 + j)) (30 + suc j) (sum_to j x b a) (get_or x j nan) _ (omega arith) (sum_most j a (omega arith)) (each_accepted x nan j h (omega arith))
      (entry_most (get_or b (a + j) (pos 0)) (fits (a + j))) (omega arith)

  distance_bounded : (k : ℕ) → Bounded (D k)
  unfolding distance_of
  distance_bounded k = sum_most 6 (k * 6) (omega arith)

  -- the first of least distance among the vectors before k, and its distance
  record LeastBefore (k best : ℕ) (d : Float) : Type 0 where
    known : d ≡ D best
    least : FirstLeast x b k best

  first : LeastBefore 1 0 (D 0)
  first =
      let only : FirstLeast x b 1 0 =
      record {
        there = omega arith;
        none_smaller = λ j u. let z : j ≡ 0 = omega arith in rw z (never_self (D 0) (distance_bounded 0));
        earlier_larger = λ j u. absurd (let z : j < 0 = u in omega arith);
      } in
      record { known = refl; least = only }

  next : (k best : ℕ) (d : Float) → LeastBefore k best d → LeastBefore (suc k) (cond (lt (D k) d) k best) (cond (lt (D k) d) (D k) d)
  next k best d s = go (lt (D k) d) refl
    where
      f : FirstLeast x b k best
      f = s.least

      split : (j : ℕ) → j < suc k → (j ≡ k) ⊎ (j < k)
      split j u = eq-or-lt_of_le (let v : j ≤ k = omega arith in v)

      further : lt (D k) d ≡ true → (j : ℕ) → j < k → (lt (D k) (D j) ≡ true) × (lt (D j) (D k) ≡ false)
      further e j v = apart (D k) (D best) (D j) (distance_bounded k) (distance_bounded best) (distance_bounded j) (rw s.known at e) (f.none_smaller j v)

      go : (t : Bool) → lt (D k) d ≡ t → LeastBefore (suc k) (cond t k best) (cond t (D k) d)
      go true e =
          let least : FirstLeast x b (suc k) k =
          record {
            there = omega arith;
            none_smaller = λ j u. elim (split j u) [
              | inl q ↦ rw q (never_self (D k) (distance_bounded k))
              | inr v ↦ (further e j v).1
            ];
            earlier_larger = λ j u. (further e j u).0;
          } in
          record { known = refl; least = least }
      go false e =
          let least : FirstLeast x b (suc k) best =
          record {
            there = let z = f.there in omega arith;
            none_smaller = λ j u. elim (split j u) [
              | inl q ↦ rw (q, ← s.known) e
              | inr v ↦ f.none_smaller j v
            ];
            earlier_larger = f.earlier_larger;
          } in
          record { known = s.known; least = least }

  search_on : (n k best : ℕ) (d : Float) → LeastBefore k best d → FirstLeast x b (k + n) (search_from D n k best d)
  unfolding search_from
  search_on zero k best d s = rw (add-zero k) s.least
  search_on (suc n) k best d s = rw (add-suc k n, ← suc-add k n) (search_on n (suc k) (cond (lt (D k) d) k best) (cond (lt (D k) d) (D k) d) (next k best d s))

  -- no vector has a smaller distance, every earlier one a larger
  pub first_least : (n : ℕ) → 0 < n → FirstLeast x b n (nearest_in b n x)
  unfolding nearest_in search_from
  first_least zero p = absurd (omega arith)
  first_least (suc n) p =
      let one : 1 + n ≡ suc n = omega arith in
      rw (under (D 0) (distance_bounded 0)) (subst (λ (m : ℕ). FirstLeast x b m (search_from D n 1 0 (D 0))) one (search_on n 1 0 (D 0) first))

-- ---- there is only one such index
-- the later of two would have a smaller distance than the earlier
not_later : (x : List Float) (b : List ℤ) (n k k' : ℕ) → FirstLeast x b n k → FirstLeast x b n k' → k' ≤ k
not_later x b n k k' f g =
    elim (lt_or_le k k') [
      | inl u ↦ absurd (true≢false (sym (g.earlier_larger k u) ∙ f.none_smaller k' g.there))
      | inr u ↦ u
    ]

first_unique : (x : List Float) (b : List ℤ) (n k k' : ℕ) → FirstLeast x b n k → FirstLeast x b n k' → k ≡ k'
first_unique x b n k k' f g = le_antisymm (not_later x b n k' k g f) (not_later x b n k k' f g)

-- ---- no distance in the search is a NaN or infinite
pub distances_finite : (h : ℕ) (x : List Float) → 1 ≤ h → h ≤ 7 → length x ≡ 6 → some_too_large x ≡ false → (k : ℕ) → T (finite (distance_of x (book h) k))
distances_finite h x l u s a k = bounded_finite (distance_of x (book h) k) (distance_bounded x (book h) s a (λ i. book_fits h i l u) k)

-- ---- the index that the search picks, and no other, is the first of least distance in the book of the hebap
pub search_first : (h : ℕ) (x : List Float) → 1 ≤ h → h ≤ 7 → length x ≡ 6 → some_too_large x ≡ false → FirstLeast x (book h) (2 ^ vq_bits h) (search_of h x)
unfolding search_of
search_first h x l u s a = first_least x (book h) s a (λ i. book_fits h i l u) (2 ^ vq_bits h) (pow_pos (vq_bits h))

pub search_only : (h : ℕ) (x : List Float) → 1 ≤ h → h ≤ 7 → length x ≡ 6 → some_too_large x ≡ false → (k : ℕ) → FirstLeast x (book h) (2 ^ vq_bits h) k → k ≡ search_of h x
search_only h x l u s a k f = first_unique x (book h) (2 ^ vq_bits h) k (search_of h x) f (search_first h x l u s a)

-- and it is the answer
pub search_answer : (h : ℕ) (x : List Float) → 1 ≤ h → h ≤ 7 → some_too_large x ≡ false → vq_search h x ≡ Ok (search_of h x)
unfolding vq_search_up_to
search_answer h x l u a = rw (le-leb 1 h l, le-leb h 7 u, a)
