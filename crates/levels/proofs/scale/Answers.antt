-- `levels::scale` meets its contract. Assumes nothing.
use mathlib.Core.Path.{sym, ap, subst}
use Prim.Native.Nat.{ℕ, ◌^◌, ◌≤◌}
use native.Mathlib.Nat.{le_trans}
use lib.Dec.{le→leb, lit≤}
use lib.IntN.{pos}
use lib.Ieee.{binary32, in_float, of_int}
use Rattle.levels.proofs.Signed.{pow2_cap}
use Rattle.levels.proofs.scale.Goals as goal

pub int_to_float-result : goal.int_to_float-result
unfolding in_float
int_to_float-result c = le→leb _ _ (subst (λ (k : ℕ). k ≤ 2 ^ 24) (sym c.pow2.ensures) (le_trans (pow2_cap c.args.n c.requires) (lit≤ tt)))

pub returns : goal.returns
returns c = ap (λ (k : ℕ). of_int binary32 (pos k)) c.pow2.ensures
