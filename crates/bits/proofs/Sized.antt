-- How many bits a format writes of a value.
use Prim.Native.Nat.{ℕ, zero, suc, ◌+◌, ◌*◌}
use mathlib.Core.Path.{◌≡◌, refl, sym}
use mathlib.Core.List.{List, [], ◌∷◌}
use mathlib.Core.Bool.{Bool}
use native.Mathlib.Nat.{zero-mul, suc-mul, add_comm}
use lib.ListN.{length, length-append, replicate}
use Rattle.bits.proofs.Laws.{length_bits_n}
use Rattle.answers.specs.declared.Refusal.{Refusal}
use Rattle.bits.specs.Format.{Format, number, only, both, tested, shown, each, each_Ok, each_enc}

-- the sum of the sizes of a list's elements
abbrev pub sizes : {R A : Type 0} → (R → A → ℕ) → List R → List A → ℕ
sizes size [] xs = 0
sizes size (r ∷ rs) [] = 0
sizes size (r ∷ rs) (x ∷ xs) = size r x + sizes size rs xs

abbrev pub Sized : {A : Type 0} → Format A → (A → ℕ) → Type 0
Sized {A} F size = (a : A) → F.Ok a → length (F.enc a) ≡ size a

pub number_sized : (n : ℕ) → Sized (number n) (λ v. n)
unfolding number
number_sized n v o = length_bits_n n v

pub only_sized : {A : Type 0} (a : A) → Sized (only a) (λ b. 0)
only_sized a b o = refl

pub both_sized : {A B : Type 0} (F : Format A) (G : A → Format B) (size : A → ℕ) (size' : A → B → ℕ)
    → Sized F size → ((a : A) → Sized (G a) (size' a)) → Sized (both F G) (λ p. size p.0 + size' p.0 p.1)
both_sized F G size size' f g p o = rw (length-append, f p.0 o.0, g p.0 p.1 o.1)

pub tested_sized : {A : Type 0} (F : Format A) (ok : A → Bool) (n : Refusal) (size : A → ℕ) → Sized F size → Sized (tested F ok n) size
tested_sized F ok n size f a o = f a o.0

pub shown_sized : {A B : Type 0} (F : Format A) (to : A → B) (of : B → A) (size : A → ℕ) → Sized F size → Sized (shown F to of) (λ b. size (of b))
shown_sized F to of size f b o = f (of b) o.0

module _ {R A : Type 0} (F : R → Format A) (size : R → A → ℕ) where
  pub each_sized : ((r : R) → Sized (F r) (size r)) → (rs : List R) → Sized (each F rs) (sizes size rs)
  unfolding each_Ok each_enc
  each_sized f [] xs o = refl
  each_sized f (r ∷ rs) [] o = absurd o
  each_sized f (r ∷ rs) (x ∷ xs) o = rw (length-append, f r x o.0, each_sized f rs xs o.1)

-- n values of c bits each
pub sizes_same : {A : Type 0} (F : ℕ → Format A) (c n : ℕ) (xs : List A) → (each F (replicate n 0)).Ok xs → sizes (λ (r : ℕ) x. c) (replicate n 0) xs ≡ n * c
unfolding each_Ok
sizes_same F c zero xs o = sym (zero-mul c)
sizes_same F c (suc n) [] o = absurd o
sizes_same F c (suc n) (x ∷ xs) o = rw (sizes_same F c n xs o.1, suc-mul n c) (add_comm c (n * c))
