-- `pages::place_of` meets its contract. Assumes nothing.
use native.Mathlib.Omega.{arith}
use Rattle.pages.specs.Pages.{place_at}
use Rattle.pages.proofs.place_of.Goals as goal

pub returns : goal.returns
unfolding place_at
returns c = omega arith
