-- Which hebaps have a book, and how large it is. Assumes nothing.
use Prim.Native.Nat.{ℕ, ◌*◌, ◌%◌, ◌^◌, ◌≤◌, ◌<◌}
use mathlib.Core.Path.{◌≡◌, refl, sym, ◌∙◌}
use mathlib.Core.Bool.{Bool, true, false, cond, ◌&&◌}
use native.Mathlib.Omega.{arith}
use lib.Dec.{leb, eqb, eqb→eq}
use lib.Pow.{pow_pos, pow_mono}
use lib.ListN.{length}
use borrow.Author.Tests.{le-leb, lt-leb, leb-true}
use Rattle.tables.specs.Numbers.{vq_bits_table}
use Rattle.tables.specs.Tables.{book, vq_bits}
use Rattle.tables.proofs.Rules.{book_size, vq_most}
use Rattle.tables.proofs.Tests.{every_at}
use Rattle.books.specs.Books.{has_book, vectors_of}

pub without_book : (h : ℕ) → (1 ≤ h → 8 ≤ h) → has_book h ≡ false
without_book h k = go (leb 1 h) refl
  where
    go : (t : Bool) → leb 1 h ≡ t → (t && leb h 7) ≡ false
    go true e = lt-leb h 7 (k (leb-true 1 h e))
    go false e = refl

pub no_book : (h n : ℕ) → n ≡ vectors_of h → n ≡ 0 → has_book h ≡ false
no_book h n e z = go (has_book h) (sym e ∙ z)
  where
    go : (t : Bool) → cond t (2 ^ vq_bits h) 0 ≡ 0 → t ≡ false
    go true q = absurd (let p = pow_pos (vq_bits h) in omega arith)
    go false q = refl

pub record HasBook (h n : ℕ) : Type 0 where
  pub low : 1 ≤ h
  pub high : h ≤ 7
  pub it_has : has_book h ≡ true
  pub size : n ≡ 2 ^ vq_bits h
  pub some : 0 < n
  pub few : n ≤ 512
  pub fours : n % 4 ≡ 0
  pub whole : length (book h) ≡ 6 * n

in_fours : (h : ℕ) → 1 ≤ h → h ≤ 7 → vectors_of h % 4 ≡ 0
unfolding vq_bits vq_bits_table
in_fours h l u = eqb→eq (vectors_of h % 4) 0 (every_at (λ k. eqb (vectors_of k % 4) 0) 7 1 h tt l (omega arith))

pub book_of : (h n : ℕ) → 1 ≤ h → h ≤ 7 → n ≡ vectors_of h → HasBook h n
book_of h n l u e =
    let has : has_book h ≡ true = rw (le-leb 1 h l, le-leb h 7 u) in
    let size : n ≡ 2 ^ vq_bits h = e ∙ rw has in
    let least = pow_pos (vq_bits h) in
    let most : 2 ^ vq_bits h ≤ 2 ^ 9 = pow_mono (vq_most h) in
    record {
      low = l;
      high = u;
      it_has = has;
      size = size;
      some = omega arith;
      few = omega arith;
      fours = rw e (in_fours h l u);
      whole = rw size (book_size h l u);
    }

pub has_book_lem : (h n : ℕ) → n ≡ vectors_of h → (n ≡ 0 → ⊥) → HasBook h n
has_book_lem h n e z = go (leb 1 h) refl (leb h 7) refl e
  where
    go : (t : Bool) → leb 1 h ≡ t → (u : Bool) → leb h 7 ≡ u → n ≡ cond (t && u) (2 ^ vq_bits h) 0 → HasBook h n
    go true p true q r = book_of h n (leb-true 1 h p) (leb-true h 7 q) e
    go true p false q r = absurd (z r)
    go false p u q r = absurd (z r)
