-- A list copied over the front of another, or put at a place of it, an element at a time. Assumes nothing.
use Prim.Native.Nat.{ℕ, ◌+◌, ◌<◌, ◌≤◌}
use mathlib.Core.Path.{◌≡◌, sym, ap, ◌∙◌}
use mathlib.Core.List.{List, [], ◌∷◌, ◌++◌, append_assoc, append-nil, map, map-append}
use native.Mathlib.Omega.{arith}
use lib.ListN.{length, length-append, length-drop, length-map, drop_of_length-le, set, take, drop, take-append-drop}
use lib.Seq.{drop-drop, length-take-le}
use Rattle.std.proofs.lemmas.List.{drop-append-le}
use borrow.Rule.Slice.PartMut.{put_mid}
use Rattle.bits.specs.Bits.{splice}
use Rattle.bits.proofs.Laws.{splice_one, splice_more, splice_read, length_splice}

-- a list in which others stand from a place on, and one more
pub put_next : {A : Type 0} (l xs : List A) (at : ℕ) (x : A) → at + length xs < length l → set (splice l at xs) (at + length xs) x ≡ splice l at (xs ++ (x ∷ []))
put_next l xs at x h =
    let k = length_splice l xs at (omega arith) in
    sym (splice_one (splice l at xs) (at + length xs) x (omega arith)) ∙ splice_more l xs (x ∷ []) at (omega arith)

-- the same, where each shows something
pub put_more : {A B : Type 0} (f : A → B) (v : List B) (at : ℕ) (cs : List A) (c : A) → at + length cs < length v
    → set (splice v at (map f cs)) (at + length cs) (f c) ≡ splice v at (map f (cs ++ (c ∷ [])))
put_more f v at cs c h =
    let k = length-map cs f in
    ap (λ (n : ℕ). set (splice v at (map f cs)) (at + n) (f c)) (sym k) ∙ put_next v (map f cs) at (f c) (omega arith) ∙ ap (splice v at) (sym (map-append f cs (c ∷ [])))

-- what copy_from_slice leaves of a part of a list
pub part_put : {A : Type 0} (old part : List A) (a n : ℕ) → length part ≡ n → put_mid a n old part ≡ splice old a part
unfolding splice
part_put old part a n e = rw (← e, drop-drop (length part) a old)

-- and what stands there then
pub part_back : {A : Type 0} (old part : List A) (a n : ℕ) → length part ≡ n → a ≤ length old → take n (drop a (put_mid a n old part)) ≡ part
part_back old part a n e inside =
    ap (λ l. take n (drop a l)) (part_put old part a n e) ∙ ap (λ (k : ℕ). take k (drop a (splice old a part))) (sym e) ∙ splice_read old part a inside

-- a list put at the front of a part of another stands in the whole
pub part_spliced : {A : Type 0} (old xs : List A) (a n : ℕ) → length xs ≤ n → a + n ≤ length old → splice old a (splice (take n (drop a old)) 0 xs) ≡ splice old a xs
unfolding splice
part_spliced {A} old xs a n few fits =
    let m : List A = drop a old in
    let r : List A = drop (length xs) (take n m) in
    let l : length (take n m) ≡ n = length-take-le _ _ (let k = length-drop a old in omega arith) in
    let d : r ++ drop n m ≡ drop (length xs) m =
    sym (drop-append-le (length xs) (take n m) (drop n m) (omega arith)) ∙ ap (drop (length xs)) (take-append-drop n m) in
    let w : length (xs ++ r) ≡ n = let i = length-append xs r in let j = length-drop (length xs) (take n m) in omega arith in
    let zero : 0 + length xs ≡ length xs = omega arith in
    let s : splice (take n m) 0 xs ≡ xs ++ r = ap (λ (k : ℕ). xs ++ drop k (take n m)) zero in
    let z : drop (a + length (xs ++ r)) old ≡ drop n m = ap (λ (k : ℕ). drop (a + k) old) w ∙ sym (drop-drop n a old) in
    ap (splice old a) s
    ∙ ap (λ (q : List A). take a old ++ ((xs ++ r) ++ q)) z
    ∙ ap (λ (q : List A). take a old ++ q) (append_assoc xs r (drop n m) ∙ ap (λ (q : List A). xs ++ q) (d ∙ drop-drop (length xs) a old))

-- a whole list put in
pub splice_whole : {A : Type 0} (l new : List A) → length l ≡ length new → splice l 0 new ≡ new
unfolding splice
splice_whole l new e = let h : length l ≤ 0 + length new = omega arith in rw (drop_of_length-le l h, append-nil)
