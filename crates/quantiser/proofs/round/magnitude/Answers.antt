-- `quantiser::round::magnitude` meets its contract. Assumes nothing.
use Rattle.std.proofs.Common.{ℕ, ◌+◌, ◌/◌, T, sym, ap, ◌∙◌, subst, arith}
use lib.Ieee.{binary32, fits, add, of_bits}
use Rattle.quantiser.proofs.Double.{Doubled, doubled}
use Rattle.quantiser.proofs.Signs.{large}
use Rattle.quantiser.proofs.round.magnitude.Goals as goal
use Rattle.quantiser.proofs.round.magnitude.Goals.{Then-x}

-- what x + x is, for an x below 2^31
twice : (c : Then-x) → Doubled c.args.x (add binary32 c.args.x c.args.x)
unfolding of_bits
twice c =
    let is_f32 : T (fits binary32 c.args.x) = subst T (sym c.well_formed.0.1) tt in
    doubled c.args.x is_f32 c.requires (subst T (sym c.if-x.true) tt)

pub truncating_f32_to_u64-requires : goal.truncating_f32_to_u64-requires
unfolding of_bits
truncating_f32_to_u64-requires c = let t = twice (goal.at.truncating_f32_to_u64-requires c).Then-x in record { lower_bound = t.above; upper_bound = t.below }

pub overflow_add-result : goal.overflow_add-result
overflow_add-result c = omega (arith, c.truncating_f32_to_u64.ensures, (twice (goal.at.overflow_add-result c).Then-x).small)

pub returns-then-x : goal.returns-then-x
returns-then-x c = ap (λ (n : ℕ). (n + 1) / 2) c.truncating_f32_to_u64.ensures ∙ (twice (goal.at.returns-then-x c).Then-x).right

pub returns-else-x : goal.returns-else-x
unfolding of_bits
returns-else-x c = sym (large c.args.x c.requires c.if-x.false)
