-- Places in lists that were put in, or padded with zeros. Assumes nothing.
use Prim.Native.Nat.{ℕ, zero, suc, ◌+◌, ◌-◌, ◌*◌, ◌≤◌, ◌<◌}
use mathlib.Core.Path.{◌≡◌, refl, sym, ap, ◌∙◌}
use mathlib.Core.List.{List, [], ◌∷◌, ◌++◌, map}
use native.Mathlib.Omega.{arith}
use lib.ListN.{length, take, drop, get_or, get_or-append}
use lib.Seq.{length-take-le, take-append_seam, get_or-append-add}
use Rattle.bits.specs.Bits.{splice}
use Rattle.channel.specs.Row.{no_gains}

-- ---- a list put into another
module _ {A : Type 0} (l new : List A) (d : A) where
  pub splice_place : (at n : ℕ) → at ≤ length l → n < length new → get_or (splice l at new) (at + n) d ≡ get_or new n d
  unfolding splice
  splice_place at n h u =
      let z = drop (at + length new) l in
      ap (λ (m : ℕ). get_or (take at l ++ (new ++ z)) (m + n) d) (sym (length-take-le at l h)) ∙ get_or-append-add (take at l) (new ++ z) n d ∙ get_or-append new z d n u

  -- one for each bin from start on
  pub one_place : (start k : ℕ) → start ≤ length l → start ≤ k → k - start < length new → get_or (splice l start new) k d ≡ get_or new (k - start) d
  one_place start k h o u = let e : k ≡ start + (k - start) = omega arith in ap (λ (m : ℕ). get_or (splice l start new) m d) e ∙ splice_place start (k - start) h u

  -- six for each
  pub six_place : (start k j : ℕ) → 6 * start ≤ length l → start ≤ k → 6 * (k - start) + j < length new
      → get_or (splice l (6 * start) new) (6 * k + j) d ≡ get_or new (6 * (k - start) + j) d
  six_place start k j h o u =
      let e : 6 * k + j ≡ 6 * start + (6 * (k - start) + j) = omega arith in
      ap (λ (m : ℕ). get_or (splice l (6 * start) new) m d) e ∙ splice_place (6 * start) (6 * (k - start) + j) h u

-- ---- lists of numbers
pub empty : (l : List ℕ) → length l ≡ 0 → l ≡ []
empty [] h = refl
empty (x ∷ l) h = absurd (omega arith)

pub map_behind : (f : ℕ → ℕ) (l : List ℕ) → map f (drop 1 l) ≡ drop 1 (map f l)
map_behind f [] = refl
map_behind f (x ∷ l) = refl

-- ---- components
pub map_place : {A B : Type 0} (f : A → B) (l : List A) (j : ℕ) (d : B) (e : A) → j < length l → get_or (map f l) j d ≡ f (get_or l j e)
map_place f [] j d e u = absurd (omega arith)
map_place f (x ∷ l) zero d e u = refl
map_place f (x ∷ l) (suc j) d e u = map_place f l j d e (omega arith)

-- ---- gains in 256 places: they and their count are the gains
abbrev pub padded : List ℕ → List ℕ
padded gs = gs ++ drop (length gs) no_gains

pub padded_gains : (gs : List ℕ) → take (length gs) (padded gs) ≡ gs
padded_gains gs = take-append_seam gs (drop (length gs) no_gains)

pub same_gains : (gs gs' : List ℕ) → length gs ≡ length gs' → padded gs ≡ padded gs' → gs ≡ gs'
same_gains gs gs' n e = sym (padded_gains gs) ∙ ap (take (length gs)) e ∙ ap (λ (m : ℕ). take m (padded gs')) n ∙ padded_gains gs'
