-- A component is the number / 32768 exactly: nothing is lost in f32. Assumes nothing.
use Prim.Native.Nat.{ℕ, ◌-◌, ◌^◌, ◌≤◌, ◌<◌}
use mathlib.Core.Path.{◌≡◌, refl}
use mathlib.Core.Bool.{true, false, true≢false}
use mathlib.Core.List.{List, [], ◌∷◌, map}
use mathlib.Core.Logic.{inl, inr}
use native.Mathlib.Omega.{arith}
use lib.Dec.{lit<}
use lib.IntN.{pos}
use lib.Ieee.{Float, nan, inf, fin, binary32, of_int, div, neg}
use lib.Ieee.Exact.{HasValue}
use borrow.Author.Tests.{le-leb, lt-leb}
use Rattle.tables.proofs.Tests.{lt_or_le}
use Rattle.levels.specs.Component.{beyond, some_beyond}
use Rattle.levels.specs.Value.{f32768, q15}
use Rattle.levels.proofs.Within.{value_within}
use Rattle.books.proofs.Quotients.{positive_exact}
use Rattle.desktext.specs.Spelling.{largest, last_number}
use Rattle.desktext.specs.Printed.{AllIn, component_of}

size : (m : ℕ) → m ≤ 2 ^ 24 → HasValue (div binary32 (of_int binary32 (pos m)) f32768) false m 32768
unfolding q15
size m h = positive_exact m h

negated : (x : Float) (a c : ℕ) → HasValue x false a c → HasValue (neg x) true a c
unfolding neg
negated nan a c v = absurd v
negated (inf s) a c v = absurd v
negated (fin true m e) a c v = absurd (true≢false v.0)
negated (fin false m e) a c v = (refl, v.1)

-- the f32 of a token is the number t - 16777216, over 32768
pub component_exact : (t : ℕ) → t ≤ last_number → (largest ≤ t → HasValue (component_of t) false (t - largest) 32768) × (t < largest → HasValue (component_of t) true (largest - t) 32768)
unfolding component_of
component_exact t h = (λ l. rw (le-leb largest t l) (size (t - largest) (omega arith)), λ l. rw (lt-leb largest t l) (negated _ (largest - t) 32768 (size (largest - t) (omega arith))))

-- and 512 at most in size
component_most : (t : ℕ) → t ≤ last_number → beyond 512 (component_of t) ≡ false
component_most t h =
    elim (lt_or_le t largest) [
      | inl l ↦ value_within (component_of t) true (largest - t) 32768 512 (lit< tt) ((component_exact t h).1 l) (omega arith)
      | inr l ↦ value_within (component_of t) false (t - largest) 32768 512 (lit< tt) ((component_exact t h).0 l) (omega arith)
    ]

pub components_most : (vs : List ℕ) → AllIn 0 last_number vs → some_beyond 512 (map component_of vs) ≡ false
unfolding AllIn
components_most [] a = refl
components_most (v ∷ vs) a = rw (component_most v a.1) (components_most vs a.2)
