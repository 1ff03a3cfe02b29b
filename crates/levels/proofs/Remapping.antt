-- The remap in two steps is the remap of Table E3.6. And a code as one number. Assumes nothing.
use Prim.Native.Nat.{ℕ}
use mathlib.Core.Path.{◌≡◌, refl, ap}
use mathlib.Core.Bool.{Bool, true, false, cond, not}
use lib.Ieee.{Float, binary32, add, mul, le}
use Rattle.levels.specs.Exact.{slope, offset, offset_below, offset_by_sign}
use Rattle.levels.specs.Value.{f0, q15, offset_at, gaq_remap}
use Rattle.levels.specs.Work.{remap_of, remap_by}

by_sign : (h g : ℕ) (t : Bool) → cond t (q15 (offset h g)) (q15 (offset_below h g)) ≡ q15 (offset_by_sign h g (not t))
by_sign h g true = refl
by_sign h g false = refl

pub remap_by_lem : (h g : ℕ) (x : Float) → remap_by (remap_of h g) x ≡ gaq_remap h g x
unfolding remap_by remap_of gaq_remap offset_at
remap_by_lem h g x = ap (add binary32 (add binary32 x (mul binary32 (q15 (slope h g)) x))) (by_sign h g (le f0 x))
