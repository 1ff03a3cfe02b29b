-- `books::nearer` meets its contract. Assumes nothing.
use Prim.Native.Nat.{ℕ}
use mathlib.Core.Bool.{true, false}
use mathlib.Core.Path.{◌≡◌}
use lib.Ieee.{Float, lt}
use Rattle.books.specs.declared.Nearest.{Nearest}
use Rattle.books.specs.Work.{nearer_of}
use Rattle.books.proofs.nearer.Goals as goal

less : (s : Nearest) (d : Float) (k : ℕ) → lt d s.least ≡ true → record { best = k; least = d } ≡ nearer_of s d k
unfolding nearer_of
less s d k e = rw e

not_less : (s : Nearest) (d : Float) (k : ℕ) → lt d s.least ≡ false → s ≡ nearer_of s d k
unfolding nearer_of
not_less s d k e = rw e

pub returns-then-d-s : goal.returns-then-d-s
returns-then-d-s c = let a = c.args in less a.s a.d a.k c.if-d-s.true

pub returns-else-d-s : goal.returns-else-d-s
returns-else-d-s c = let a = c.args in not_less a.s a.d a.k c.if-d-s.false
