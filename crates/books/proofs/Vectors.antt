-- A vector of a book: where it stands. Assumes nothing.
use Prim.Native.Nat.{ℕ, ◌+◌, ◌*◌, ◌%◌, ◌^◌, ◌≤◌, ◌<◌}
use mathlib.Core.Path.{◌≡◌, refl}
use mathlib.Core.List.{List}
use native.Mathlib.Nat.{mod-lt, mod-eq_of_lt}
use native.Mathlib.Omega.{arith}
use lib.Ieee.{Float}
use lib.ListN.{length}
use Rattle.tables.specs.Tables.{book, vq_bits}
use Rattle.books.specs.Books.{vectors_of, six_at, vq_lookup, exacts_at, vq_exact}
use Rattle.books.proofs.Laws.{HasBook, book_of}

-- where a vector starts
pub inside : (h n i : ℕ) → HasBook h n → (i % n * 6 + 6 ≤ length (book h)) × (i % n * 6 < 65536)
inside h n i k =
    let m = mod-lt i k.some in
    let few = k.few in
    let w = k.whole in
    (omega arith, omega arith)

-- the vector at an index of a book, modulo its number of vectors
pub looked_up : (h n i : ℕ) (r : List Float) → HasBook h n → r ≡ six_at (book h) (i % n * 6) → r ≡ vq_lookup h i
unfolding vq_lookup
looked_up h n i r k e = rw (k.it_has, ← k.size) e

-- an index below that number stands for itself
pub record Stands (h i : ℕ) : Type 0 where
  pub inside : (i * 6 + 6 ≤ length (book h)) × (i * 6 < 65536)
  pub fractions : six_at (book h) (i * 6) ≡ vq_lookup h i
  pub exacts : exacts_at (book h) (i * 6) ≡ vq_exact h i

pub stands : (h i : ℕ) → 1 ≤ h → h ≤ 7 → i < 2 ^ vq_bits h → Stands h i
unfolding vq_lookup vq_exact
stands h i a b u =
    let k = book_of h (vectors_of h) a b refl in
    let n = k.size in
    let few = k.few in
    let w = k.whole in
    let m : i % 2 ^ vq_bits h ≡ i = mod-eq_of_lt u in
    record {
      inside = (omega arith, omega arith);
      fractions = rw (k.it_has, m);
      exacts = rw (k.it_has, m);
    }
