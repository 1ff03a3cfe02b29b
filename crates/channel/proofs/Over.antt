-- Laws of what is gathered over the bins start to end - 1. Assumes nothing.
use mathlib.Core.Path.{◌≡◌, refl, sym, ap, ◌∙◌}
use mathlib.Core.Bool.{Bool, true, false, cond, true≢false, ◌||◌}
use Prim.Native.Nat.{ℕ, zero, suc, ◌+◌, ◌-◌, ◌*◌, ◌≤◌, ◌<◌}
use native.Mathlib.Nat.{le_of_lt, le_of_eq, le_trans, le_antisymm, le_of_suc-le-suc, eq-or-lt_of_le, mul-zero, mul-suc}
use mathlib.Core.Logic.{⊎_elim}
use native.Mathlib.Numerals.{add-one}
use native.Mathlib.Omega.{arith}
use borrow.Author.Tests.{le-leb, lt-leb, leb-true, leb-false}
use lib.Dec.{leb}
use mathlib.Core.List.{List, [], ◌∷◌}
use lib.ListN.{length, get_or, take, drop}
use Rattle.std.specs.Bool.{MatchBool}
use Rattle.std.proofs.lemmas.List.{get_or-take, get_or-drop, length-take}
use Rattle.bits.proofs.Tests.{or_right}
use Rattle.channel.specs.Bins.{from, over, sum_over, some_over}

pub sum_none : (f : ℕ → ℕ) (start end : ℕ) → end ≤ start → sum_over f start end ≡ 0
unfolding sum_over
sum_none f start zero h = refl
sum_none f start (suc e) h = rw (lt-leb start e h)

pub sum_next : (f : ℕ → ℕ) (start e : ℕ) → start ≤ e → sum_over f start (suc e) ≡ sum_over f start e + f e
unfolding sum_over
sum_next f start e h = rw (le-leb start e h)

sum_le_step : (start e a b p q : ℕ) (t : Bool) → leb start e ≡ t → a ≤ b → (start ≤ e → p ≤ q) → cond t (a + p) 0 ≤ cond t (b + q) 0
sum_le_step start e a b p q true h k l = let m = l (leb-true start e h) in omega arith
sum_le_step start e a b p q false h k l = omega arith

pub sum_le : (f g : ℕ → ℕ) (start end : ℕ) → ((k : ℕ) → start ≤ k → k < end → f k ≤ g k) → sum_over f start end ≤ sum_over g start end
unfolding sum_over
sum_le f g start zero h = omega arith
sum_le f g start (suc e) h =
    sum_le_step start e (sum_over f start e) (sum_over g start e) (f e) (g e) (leb start e) refl (sum_le f g start e (λ k a b. h k a (omega arith))) (λ a. h e a (omega arith))

-- sums of the same numbers
pub sum_same : (f g : ℕ → ℕ) (start end : ℕ) → ((k : ℕ) → start ≤ k → k < end → f k ≡ g k) → sum_over f start end ≡ sum_over g start end
sum_same f g start end h = le_antisymm (sum_le f g start end (λ k a b. le_of_eq (h k a b))) (sum_le g f start end (λ k a b. le_of_eq (sym (h k a b))))

sum_one_more : (f : ℕ → ℕ) (start e : ℕ) → sum_over f start e ≤ sum_over f start (suc e)
sum_one_more f start e = go (leb start e) refl
  where
    go : (t : Bool) → leb start e ≡ t → sum_over f start e ≤ sum_over f start (suc e)
    go true q = let s = sum_next f start e (leb-true start e q) in omega arith
    go false q = let s = sum_none f start e (le_of_lt (leb-false start e q)) in omega arith

-- a longer run has a greater sum
pub sum_grows : (f : ℕ → ℕ) (start k end : ℕ) → k ≤ end → sum_over f start k ≤ sum_over f start end
sum_grows f start k zero h = le_of_eq (ap (sum_over f start) (le_zero k h))
  where
    le_zero : (k : ℕ) → k ≤ 0 → k ≡ 0
    le_zero k h = omega arith
sum_grows f start k (suc e) h = ⊎_elim (λ (q : k ≡ suc e). le_of_eq (ap (sum_over f start) q)) (λ (q : k < suc e). le_trans (sum_grows f start k e (le_of_suc-le-suc q)) (sum_one_more f start e)) (eq-or-lt_of_le h)

-- each number at most c
pub sum_at_most : (f : ℕ → ℕ) (c start end : ℕ) → ((k : ℕ) → k < end → f k ≤ c) → sum_over f start end ≤ c * end
sum_at_most f c start zero h = le_of_eq (sum_none f start 0 (omega arith) ∙ sym (mul-zero c))
sum_at_most f c start (suc e) h = go (leb start e) refl (sum_at_most f c start e (λ k a. h k (omega arith)))
  where
    go : (t : Bool) → leb start e ≡ t → sum_over f start e ≤ c * e → sum_over f start (suc e) ≤ c * suc e
    go true q r = let s = sum_next f start e (leb-true start e q) in let m = mul-suc c e in let l = h e (omega arith) in omega arith
    go false q r = le_trans (le_of_eq (sum_none f start (suc e) (leb-false start e q))) (omega arith)

-- ---- whether there is one
pub some_none : (p : ℕ → Bool) (start end : ℕ) → end ≤ start → some_over p start end ≡ false
unfolding some_over
some_none p start zero h = refl
some_none p start (suc e) h = rw (lt-leb start e h)

pub some_next : (p : ℕ → Bool) (start e : ℕ) → start ≤ e → some_over p start (suc e) ≡ some_over p start e || p e
unfolding some_over
some_next p start e h = rw (le-leb start e h)

-- looked at without an end on the way: found so far, or here
pub some_more : (p : ℕ → Bool) (start i : ℕ) (found : Bool) → found ≡ some_over p start (start + i) → found || p (start + i) ≡ some_over p start (start + (i + 1))
some_more p start i found e =
    let n : start + (i + 1) ≡ suc (start + i) = omega arith in
    ap (λ (t : Bool). t || p (start + i)) e ∙ sym (ap (some_over p start) n ∙ some_next p start (start + i) (omega arith))

pub some_found : (p : ℕ → Bool) (start i end : ℕ) → start ≤ i → i < end → p i ≡ true → true ≡ some_over p start end
some_found p start i zero h l q = absurd (omega arith)
some_found p start i (suc e) h l q =
    ⊎_elim (λ (r : i ≡ e). sym (some_next p start e (omega arith) ∙ or_right (some_over p start e) (p e) (ap p (sym r) ∙ q)))
    (λ (r : i < e). sym (some_next p start e (omega arith) ∙ ap (λ (t : Bool). t || p e) (sym (some_found p start i e h r q))))
    (eq-or-lt_of_le (le_of_suc-le-suc l))

pub sum_turn : (f : ℕ → ℕ) (a i t r : ℕ) → a ≤ i → t ≡ sum_over f a i → r ≡ f i → t + r ≡ sum_over f a (i + 1)
sum_turn f a i t r h p q = let n = sum_next f a i h in let e = ap (sum_over f a) (add-one i) in omega arith

-- the same where the place is counted from the first
pub sum_more : (f : ℕ → ℕ) (start i t : ℕ) → t ≡ sum_over f start (start + i) → t + f (start + i) ≡ sum_over f start (start + (i + 1))
sum_more f start i t e =
    let n : start + (i + 1) ≡ suc (start + i) = omega arith in
    ap (λ (s : ℕ). s + f (start + i)) e ∙ sym (ap (sum_over f start) n ∙ sum_next f start (start + i) (omega arith))

-- the place i of the places a to b - 1 of a list
pub get_or-within : {A : Type 0} (l : List A) (a b i : ℕ) (d : A) → i < length (take (b - a) (drop a l)) → get_or (take (b - a) (drop a l)) i d ≡ get_or l (a + i) d
get_or-within l a b i d h = get_or-take (b - a) (drop a l) i d (omega (arith, length-take (b - a) (drop a l))) ∙ get_or-drop a l i d

pub one_small : (b : Bool) → cond {A = ℕ} b 1 0 ≤ 1
one_small true = omega arith
one_small false = omega arith

-- ---- lists over places
pub length_from : {A : Type 0} (f : ℕ → A) (k n : ℕ) → length (from f k n) ≡ n
unfolding from
length_from f k zero = refl
length_from f k (suc n) = ap suc (length_from f (suc k) n)

pub from_at : {A : Type 0} (f : ℕ → A) (d : A) (k n i : ℕ) → i < n → get_or (from f k n) i d ≡ f (k + i)
unfolding from
from_at f d k zero i l = absurd (omega arith)
from_at f d k (suc n) zero l = ap f (omega arith)
from_at f d k (suc n) (suc i) l = from_at f d (suc k) n i (omega arith) ∙ ap f (omega arith)

-- the first of them, and none: the turn and the end of a loop
pub over_next : {A : Type 0} (f : ℕ → A) (k end : ℕ) → k < end → over f k end ≡ f k ∷ over f (k + 1) end
unfolding from
over_next f k end l =
    let n : end - k ≡ suc (end - (k + 1)) = omega arith in
    ap (from f k) n ∙ ap (λ (j : ℕ). f k ∷ from f j (end - (k + 1))) (sym (add-one k))

pub over_end : {A : Type 0} (f : ℕ → A) (k end : ℕ) → end ≤ k → over f k end ≡ []
unfolding from
over_end f k end l = let n : end - k ≡ 0 = omega arith in ap (from f k) n

-- the sum counts up to the last place; this is its first
sum_last : (f : ℕ → ℕ) (a n : ℕ) → sum_over f a (a + suc n) ≡ sum_over f a (a + n) + f (a + n)
sum_last f a n = let e : a + suc n ≡ suc (a + n) = omega arith in ap (sum_over f a) e ∙ sum_next f a (a + n) (omega arith)

pub sum_first : (f : ℕ → ℕ) (a n : ℕ) → sum_over f a (a + suc n) ≡ f a + sum_over f (suc a) (suc a + n)
sum_first f a zero =
    let z : f (a + 0) ≡ f a = ap f (omega arith) in
    let s = sum_last f a 0 in
    let l = sum_none f a (a + 0) (omega arith) in
    let r = sum_none f (suc a) (suc a + 0) (omega arith) in
    omega arith
sum_first f a (suc n) =
    let q : f (a + suc n) ≡ f (suc a + n) = ap f (omega arith) in
    let s = sum_last f a (suc n) in
    let r = sum_first f a n in
    let t = sum_last f (suc a) n in
    omega arith

pub none_there : (p : ℕ → Bool) (start end : ℕ) → some_over p start end ≡ false → (i : ℕ) → start ≤ i → i < end → p i ≡ false
none_there p start end h i l u = go (p i) refl
  where
    go : (t : Bool) → p i ≡ t → t ≡ false
    go true e = absurd (true≢false (some_found p start i end l u e ∙ h))
    go false e = refl

pub none_over : (p : ℕ → Bool) (start end : ℕ) → ((k : ℕ) → start ≤ k → k < end → p k ≡ false) → some_over p start end ≡ false
unfolding some_over
none_over p start zero h = refl
none_over p start (suc e) h = go (leb start e) refl (none_over p start e (λ k l u. h k l (omega arith)))
  where
    go : (t : Bool) → leb start e ≡ t → some_over p start e ≡ false → cond t (some_over p start e || p e) false ≡ false
    go true q r = ap (λ (t : Bool). t || p e) r ∙ h e (leb-true start e q) (omega arith)
    go false q r = refl

-- what a search of the places finds
pub some_is : (p : ℕ → Bool) (start end : ℕ) (b : Bool) → MatchBool b ((k : ℕ) × (start ≤ k) × (k < end) × (p k ≡ true)) ((k : ℕ) → start ≤ k → k < end → p k ≡ false) → b ≡ some_over p start end
some_is p start end true (k, l, u, h) = some_found p start k end l u h
some_is p start end false h = sym (none_over p start end h)
