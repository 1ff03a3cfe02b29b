-- `levels::signed_code` meets its contract. Assumes nothing.
use Prim.Native.Nat.{ℕ, ◌-◌, ◌^◌, ◌≤◌, ◌<◌}
use mathlib.Core.Path.{◌≡◌, sym, ◌∙◌, subst}
use native.Mathlib.Omega.{arith}
use borrow.Author.Rules.{rules}
use lib.IntN.{◌-ℤ◌}
use mir.Syntax.{w32}
use mir.Val.{SFits, to_z}
use mir.ValLaws.{to_z_pos, to_z-of_z}
use Rattle.levels.specs.Codes.{signed}
use Rattle.levels.proofs.Signed.{pow2_cap, signed_low, signed_high, signed_small, minus}
use Rattle.levels.proofs.signed_code.Goals as goal

module _ (w u : ℕ) (asked : (1 ≤ w) × (w ≤ 16) × (u < 2 ^ w)) where
  above : u < 2 ^ (w - 1) → to_z w32 u ≡ signed w u
  above h = let b = pow2_cap w asked.1 in to_z_pos w32 u (omega arith) ∙ sym (signed_low w u h)

  below : (p : ℕ) → p ≡ 2 ^ w → 2 ^ (w - 1) ≤ u → to_z w32 u -ℤ to_z w32 p ≡ signed w u
  below p e h =
      let b = pow2_cap w asked.1 in
      rw (to_z_pos w32 u (omega arith), to_z_pos w32 p (omega arith), e) (minus u (2 ^ w) asked.2 ∙ sym (signed_high w u h))

  below_fits : (p : ℕ) → p ≡ 2 ^ w → 2 ^ (w - 1) ≤ u → SFits w32 (to_z w32 u -ℤ to_z w32 p)
  below_fits p e h = let b = signed_small w u asked in subst (SFits w32) (sym (below p e h)) (record { sfits = omega arith })

pub overflow_cast-result : goal.overflow_cast-result
overflow_cast-result c = let b = pow2_cap c.args.w c.requires.1 in record { sfits = omega arith }

pub overflow_cast-result-else-u-pow2 : goal.overflow_cast-result-else-u-pow2
overflow_cast-result-else-u-pow2 c = let b = pow2_cap c.args.w c.requires.1 in record { sfits = omega arith }

pub overflow_cast-result-else-u-pow2-2 : goal.overflow_cast-result-else-u-pow2-2
overflow_cast-result-else-u-pow2-2 c = let b = pow2_cap c.args.w c.requires.1 in record { sfits = omega arith }

pub overflow_sub-result : goal.overflow_sub-result
overflow_sub-result c = below_fits c.args.w c.args.u c.requires c.pow2-else-u-pow2.result c.pow2-else-u-pow2.ensures (search rules)

pub returns-then-u-pow2 : goal.returns-then-u-pow2
returns-then-u-pow2 c = above c.args.w c.args.u c.requires (search rules)

pub returns-else-u-pow2 : goal.returns-else-u-pow2
returns-else-u-pow2 c = to_z-of_z w32 _ (overflow_sub-result c) ∙ below c.args.w c.args.u c.requires c.pow2-else-u-pow2.result c.pow2-else-u-pow2.ensures (search rules)
