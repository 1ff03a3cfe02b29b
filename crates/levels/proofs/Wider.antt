-- What a wider limit changes. Assumes nothing.
use Prim.Native.Nat.{ℕ, zero, suc, ◌*◌, ◌≤◌}
use mathlib.Core.Path.{◌≡◌, refl, sym, ap}
use mathlib.Core.Bool.{Bool, true, false, cond, true≢false}
use mathlib.Core.List.{List, [], ◌∷◌}
use native.Mathlib.Nat.{le_trans, mul-le-mul_right}
use borrow.Author.Tests.{ltb-false, le-ltb}
use lib.ListN.{take, drop}
use lib.Ieee.{Float, nan, inf, fin, up, down}
use Rattle.bits.proofs.Tests.{neither}
use Rattle.levels.specs.Component.{beyond, some_beyond, Later, Widened}

-- what one limit accepts, a wider one does
pub wider : (l l' : ℕ) → l ≤ l' → (x : Float) → beyond l x ≡ false → beyond l' x ≡ false
unfolding beyond
wider l l' h nan f = absurd (true≢false f)
wider l l' h (inf s) f = absurd (true≢false f)
wider l l' h (fin s m e) f = le-ltb (l' * down e) (m * up e) (le_trans (ltb-false (l * down e) (m * up e) f) (mul-le-mul_right (down e) h))

pub all_wider : (l l' : ℕ) → l ≤ l' → (x : List Float) → some_beyond l x ≡ false → some_beyond l' x ≡ false
all_wider l l' h [] f = refl
all_wider l l' h (y ∷ x) f =
    let p = neither (beyond l y) (some_beyond l x) f in
    rw (wider l l' h y p.0) (all_wider l l' h x p.1)

-- what holds of all components holds of those in a row among them
front : (l n : ℕ) (x : List Float) → some_beyond l x ≡ false → some_beyond l (take n x) ≡ false
front l zero x f = refl
front l (suc n) [] f = refl
front l (suc n) (y ∷ x) f = let p = neither (beyond l y) (some_beyond l x) f in rw p.0 (front l n x p.1)

pub some_part : (l m n : ℕ) (x : List Float) → some_beyond l x ≡ false → some_beyond l (take n (drop m x)) ≡ false
some_part l zero n x f = front l n x f
some_part l (suc m) n [] f = front l n [] refl
some_part l (suc m) n (y ∷ x) f = some_part l m n x (neither (beyond l y) (some_beyond l x) f).1

-- ---- an answer behind the test of the components, where a call makes it
module _ {A : Type 0} (number : A → ℕ) (refused rest other : A) where
  pub tested : number refused ≡ 5 → Later (number rest) → (number other ≡ 5 → ⊥)
      → (made t t' : Bool) → (t ≡ false → t' ≡ false) → Widened number t' (cond made (cond t refused rest) other) (cond made (cond t' refused rest) other)
  tested n m o false t t' h = record { kept = λ e. refl; still = λ e w. refl; former = λ e w. absurd (o e) }
  tested n m o true true true h = record { kept = λ e. refl; still = λ e w. refl; former = λ e w. absurd (true≢false w) }
  tested n m o true true false h = record { kept = λ e. absurd (e n); still = λ e w. absurd (true≢false (sym w)); former = λ e w. m }
  tested n m o true false true h = absurd (true≢false (h refl))
  tested n m o true false false h = record { kept = λ e. refl; still = λ e w. refl; former = λ e w. m }

-- ---- an answer that is made of another: 5 where that is, and no earlier number for it
module _ {A B : Type 0} (na : A → ℕ) (nb : B → ℕ) (f : A → B) where
  pub made_of : ((a : A) → na a ≡ 5 → nb (f a) ≡ 5) → ((a : A) → nb (f a) ≡ 5 → na a ≡ 5)
      → ((a : A) → Later (na a) → Later (nb (f a)))
      → (over : Bool) (a a' : A) → Widened na over a a' → Widened nb over (f a) (f a')
  made_of five only later over a a' w =
      record {
        kept = λ e. ap f (w.kept (λ z. e (five a z)));
        still = λ e t. ap f (w.still (only a e) t);
        former = λ e t. later a' (w.former (only a e) t);
      }
