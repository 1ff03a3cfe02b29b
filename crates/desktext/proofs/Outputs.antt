-- Laws of what the readers put into lent outputs. Assumes nothing.
use Prim.Native.Nat.{ℕ, zero, suc, ◌+◌, ◌-◌, ◌*◌, ◌/◌, ◌%◌, ◌≤◌, ◌<◌}
use mathlib.Core.Path.{◌≡◌, refl, sym, ap, ◌∙◌}
use mathlib.Core.List.{List, [], ◌∷◌, ◌++◌, map}
use mathlib.Core.Bool.{Bool, true, false}
use native.Mathlib.Omega.{arith}
use Rattle.std.proofs.Common.{Option, Some, None}
use native.Mathlib.Nat.{le_of_lt}
use native.Mathlib.Numerals.{add-one}
use lib.ListN.{length, take, drop, set, get_or, length-drop, length-append, get_or-append}
use lib.Seq.{take_all, take-suc, length-take-le, get_or-drop, get_or-append-add}
use lib.Dec.{leb}
use borrow.Author.Tests.{le-leb, leb-true, leb-false}
use Rattle.bits.specs.Bits.{splice}
use Rattle.bits.proofs.Copying.{put_more}
use Rattle.desktext.specs.Spelling.{largest}
use Rattle.desktext.specs.Channel.{TextChannel, none, channel_from, channel_in}
use Rattle.desktext.specs.Work.{longest, number_of, numbers_of, vector_numbers, ListedIn, Checks}
use Rattle.desktext.specs.declared.Token.{Token}
use Rattle.std.specs.Borrow.{Bor}
use Rattle.desktext.specs.declared.Shape.{Shape}
use Rattle.desktext.proofs.Laws.{part_long, part_at}

-- one element more of src, shown by f, is put at its place
pub put_turn : {A B : Type 0} (f : A → B) (src : List A) (d : A) (o l : List B) (i : ℕ) → i < length src → i < length o → l ≡ splice o 0 (map f (take i src))
    → set l i (f (get_or src i d)) ≡ splice o 0 (map f (take (i + 1) src))
put_turn f src d o l i h k e =
    let n : 0 + length (take i src) ≡ i = omega (arith, length-take-le i src (le_of_lt h)) in
    rw (e, add-one, take-suc src i d h) (ap (λ (j : ℕ). set (splice o 0 (map f (take i src))) j (f (get_or src i d))) (sym n) ∙ put_more f o 0 (take i src) (get_or src i d) (omega arith))

-- and all of them are there
pub put_all : {A B : Type 0} (f : A → B) (src : List A) (o l : List B) (i : ℕ) → length src ≤ i → l ≡ splice o 0 (map f (take i src)) → l ≡ splice o 0 (map f src)
put_all {A} f src o l i h e = e ∙ ap (λ (x : List A). splice o 0 (map f x)) (take_all i src h)

-- where the numbers of vectors stand
pub length_vector_numbers : (n : ℕ) (s : List ℕ) → 8 * n ≤ length s → length (vector_numbers n s) ≡ 6 * n
unfolding vector_numbers
length_vector_numbers zero s h = refl
length_vector_numbers (suc n) s h =
    let a : length (take 6 (drop 1 s)) ≡ 6 = part_long s 1 6 (omega arith) in
    let b : length (vector_numbers n (drop 8 s)) ≡ 6 * n = length_vector_numbers n (drop 8 s) (omega (arith, length-drop 8 s)) in
    length-append (take 6 (drop 1 s)) (vector_numbers n (drop 8 s)) ∙ omega arith

pub vector_number_at : (n : ℕ) (s : List ℕ) (i : ℕ) → 8 * n ≤ length s → i < 6 * n → get_or (vector_numbers n s) i 0 ≡ get_or s (i / 6 * 8 + 1 + i % 6) 0
unfolding vector_numbers
vector_number_at zero s i h k = absurd (omega arith)
vector_number_at (suc n) s i h k = go (leb 6 i) refl (λ j. vector_number_at n (drop 8 s) j)
  where
    a : length (take 6 (drop 1 s)) ≡ 6
    a = part_long s 1 6 (omega arith)

    go : (b : Bool) → leb 6 i ≡ b → ((j : ℕ) → 8 * n ≤ length (drop 8 s) → j < 6 * n → get_or (vector_numbers n (drop 8 s)) j 0 ≡ get_or (drop 8 s) (j / 6 * 8 + 1 + j % 6) 0)
        → get_or (take 6 (drop 1 s) ++ vector_numbers n (drop 8 s)) i 0 ≡ get_or s (i / 6 * 8 + 1 + i % 6) 0
    go true e more =
        let l : 6 ≤ i = leb-true _ _ e in
        let z : i ≡ length (take 6 (drop 1 s)) + (i - 6) = omega (arith, a) in
        let y : 8 + ((i - 6) / 6 * 8 + 1 + (i - 6) % 6) ≡ i / 6 * 8 + 1 + i % 6 = omega arith in
        ap (λ (j : ℕ). get_or (take 6 (drop 1 s) ++ vector_numbers n (drop 8 s)) j 0) z ∙ get_or-append-add (take 6 (drop 1 s)) (vector_numbers n (drop 8 s)) (i - 6) 0
        ∙ more (i - 6) (omega (arith, length-drop 8 s)) (omega arith)
        ∙ get_or-drop 8 s ((i - 6) / 6 * 8 + 1 + (i - 6) % 6) 0 ∙ ap (λ (j : ℕ). get_or s j 0) y
    go false e more =
        let l : i < 6 = leb-false _ _ e in
        let y : 1 + i ≡ i / 6 * 8 + 1 + i % 6 = omega arith in
        get_or-append (take 6 (drop 1 s)) (vector_numbers n (drop 8 s)) 0 i (omega (arith, a)) ∙ part_at s 1 6 i l ∙ ap (λ (j : ℕ). get_or s j 0) y

-- a token's number is that of the place
pub number_there : (ts : List Token) (i : ℕ) (d : Token) → i < length ts → number_of (get_or ts i d) ≡ get_or (numbers_of ts) i 0
number_there [] i d h = absurd (omega arith)
number_there (t ∷ ts) zero d h = refl
number_there (t ∷ ts) (suc i) d h = number_there ts i d (omega arith)

pub row_numbers : (ts : List Token) → map (λ t. t - largest) (numbers_of ts) ≡ map (λ t. number_of t - largest) ts
row_numbers [] = refl
row_numbers (t ∷ ts) = ap (λ (l : List ℕ). (number_of t - largest) ∷ l) (row_numbers ts)

-- the tokens are no channel's
pub checks_nothing : {there : TextChannel} {r : Option (Shape × Bor (List Token) × Bor (List Token))} → r ≡ None → there ≡ none → Checks there r
checks_nothing e h = rw e record { shown = sym h; fits = tt }

-- the channel of a text by its cases
pub channel_broken : (s : List ℕ) (out : List Token) → length s ≤ longest → ListedIn s out None → channel_in s ≡ none
unfolding channel_in
channel_broken s out h l = rw (le-leb (length s) 65536 (omega arith), l)

pub channel_listed : (s : List ℕ) (out : List Token) (n : ℕ) → length s ≤ longest → ListedIn s out (Some n) → channel_in s ≡ channel_from (numbers_of (take n out))
unfolding channel_in
channel_listed s out n h l = rw (le-leb (length s) 65536 (omega arith), l.0)
