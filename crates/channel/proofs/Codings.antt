-- The hebaps of a coding, and its bin. Assumes nothing.
use Prim.Native.Nat.{ℕ, ◌≤◌}
use mathlib.Core.Path.{◌≡◌, refl, ap, subst}
use mathlib.Core.Bool.{Bool, true, false, cond}
use native.Mathlib.Omega.{arith}
use borrow.Author.Tests.{le-leb, leb-true, leb-false, eqb-true, eqb-false}
use lib.Dec.{eqb, leb}
use Rattle.gains.specs.Gains.{active, coding_of}
use Rattle.gains.specs.declared.Coding.{Coding}
use Rattle.channel.specs.Field.{coded_as, bin_of}

-- ---- the hebaps of a coding
abbrev pub Range : Coding → ℕ → Type 0
Range Coding.Nothing h = h ≡ 0
Range Coding.Book h = (1 ≤ h) × (h ≤ 7)
Range Coding.Fixed h = 8 ≤ h
Range Coding.Adaptive h = 8 ≤ h

range : (mode h : ℕ) → Range (coding_of mode h) h
unfolding coding_of
range mode h = go (eqb h 0) refl (leb h 7) refl (active mode h)
  where
    go : (s : Bool) → eqb h 0 ≡ s → (t : Bool) → leb h 7 ≡ t → (u : Bool)
        → Range (cond s Coding.Nothing (cond t Coding.Book (cond u Coding.Adaptive Coding.Fixed))) h
    go true p t q u = eqb-true h 0 p
    go false p true q u = let z = eqb-false h 0 p in (omega arith, leb-true h 7 q)
    go false p false q true = leb-false h 7 q
    go false p false q false = leb-false h 7 q

-- which hebaps and which bin a coding has
pub coded_bin : (mode h g : ℕ) (d : Coding) → h ≤ 19 → coding_of mode h ≡ d → Range d h × (bin_of mode h g ≡ coded_as d h g)
unfolding bin_of
coded_bin mode h g d high e =
    (subst (λ (c : Coding). Range c h) e (range mode h), rw (le-leb h 19 high) (ap (λ (c : Coding). coded_as c h g) e))
