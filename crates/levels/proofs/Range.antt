-- The test of a component's size. Assumes nothing.
use mathlib.Core.Path.{◌≡◌, refl, sym, ap, ◌∙◌}
use mathlib.Core.Bool.{Bool, true, false, not, ◌&&◌, ◌||◌, true≢false}
use mathlib.Core.List.{List, ◌∷◌, []}
use mathlib.Core.Logic.{inl, inr}
use Prim.Native.Nat.{ℕ, suc, zero, ◌+◌, ◌*◌, ◌≤◌, ◌<◌}
use native.Mathlib.Nat.{eq-or-lt_of_le, mul-one}
use native.Mathlib.Omega.{arith}
use borrow.Author.Tests.{lt-ltb, le-ltb, eq-eqb, ne_eqb, ltb-true, ltb-false}
use lib.Dec.{ltb, eqb}
use lib.IntN.{ℤ, pos}
use lib.ListN.{length, get_or}
use lib.Ieee.{Float, nan, inf, fin, up, down, lt, eq, le}
use lib.Ieee.Fits.{down_pos}
use Rattle.bits.proofs.Tests.{neither, or_left, or_right}
use Rattle.levels.specs.Component.{beyond, largest_size, too_large, some_too_large}

-- the limit as an f32, in either sign
abbrev limit : Bool → Float
limit s = fin s 1 (pos 14)

-- a ≤ b as two tests, and as one
two_tests : (a b : ℕ) (q : Bool) → (a ≡ b → q ≡ true) → ((a ≡ b → ⊥) → q ≡ false) → ltb a b || q ≡ not (ltb b a)
two_tests a b q y n = go (ltb b a) refl
  where
    small : (a ≤ b) → ltb a b || q ≡ true
    small h = elim (eq-or-lt_of_le h) [
      | inl e ↦ or_right (ltb a b) q (y e)
      | inr l ↦ ap (λ (t : Bool). t || q) (lt-ltb a b l)
    ]

    go : (t : Bool) → ltb b a ≡ t → ltb a b || q ≡ not t
    go true h = let l : b < a = ltb-true b a h in ap (λ (t : Bool). t || q) (le-ltb a b (omega arith)) ∙ n (λ (e : a ≡ b). omega arith)
    go false h = small (ltb-false b a h)

and_left : (a b : Bool) → b ≡ true → a && b ≡ a
and_left true b h = h
and_left false b h = refl

above : (m : ℕ) (e : ℤ) → 0 < m * up e * 1 + largest_size * down e
above m e = let d : 0 < down e = down_pos e in omega arith

lower : (m : ℕ) (e : ℤ) → le (limit true) (fin true m e) ≡ not (ltb (largest_size * down e) (m * up e))
unfolding le lt eq
lower m e =
    two_tests (m * up e * 1) (largest_size * down e) (eqb (largest_size * down e) (m * up e * 1) && true) (λ (q : m * up e * 1 ≡ largest_size * down e). and_left _ true refl ∙ eq-eqb _ _ (sym q)) (λ (n : m * up e * 1 ≡ largest_size * down e → ⊥). and_left _ true refl ∙ ne_eqb _ _ (λ (q : largest_size * down e ≡ m * up e * 1). n (sym q)))
    ∙ ap (λ (a : ℕ). not (ltb (largest_size * down e) a)) (mul-one (m * up e))

pub range_low : (x : Float) → le (limit true) x ≡ true → le x (limit false) ≡ not (too_large x)
unfolding le lt eq beyond
range_low nan h = refl
range_low (inf true) h = absurd (true≢false (sym h))
range_low (inf false) h = refl
range_low (fin false m e) h = two_tests (m * up e * 1) (largest_size * down e) (eqb (m * up e * 1) (largest_size * down e) && true) (λ (q : m * up e * 1 ≡ largest_size * down e). and_left _ true refl ∙ eq-eqb _ _ q) (λ (n : m * up e * 1 ≡ largest_size * down e → ⊥). and_left _ true refl ∙ ne_eqb _ _ n) ∙ ap (λ (a : ℕ). not (ltb (largest_size * down e) a)) (mul-one (m * up e))
range_low (fin true m e) h = or_left _ _ (lt-ltb 0 (m * up e * 1 + largest_size * down e) (above m e)) ∙ sym (sym (lower m e) ∙ h)

pub range_out : (x : Float) → le (limit true) x ≡ false → false ≡ not (too_large x)
unfolding le lt eq beyond
range_out nan h = refl
range_out (inf s) h = refl
range_out (fin false m e) h = absurd (true≢false (sym (or_left _ _ (lt-ltb 0 (largest_size * down e + m * up e * 1) (let a = above m e in omega arith))) ∙ h))
range_out (fin true m e) h = sym (sym (lower m e) ∙ h)

-- of components that are accepted each is
pub each_accepted : (v : List Float) (d : Float) (j : ℕ) → some_too_large v ≡ false → j < length v → too_large (get_or v j d) ≡ false
each_accepted [] d j h u = absurd (omega arith)
each_accepted (y ∷ v) d zero h u = (neither (too_large y) (some_too_large v) h).0
each_accepted (y ∷ v) d (suc j) h u = each_accepted v d j (neither (too_large y) (some_too_large v) h).1 (omega arith)
