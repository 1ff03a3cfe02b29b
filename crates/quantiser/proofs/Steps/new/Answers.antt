-- `quantiser::Steps::new` meets its contract. Assumes nothing.
use Rattle.std.proofs.Common.{◌-◌, ◌≤◌, arith, lit<}
use Rattle.tables.proofs.Rules.{mant_bits_lem}
use Rattle.quantiser.proofs.Fixed.{scale_range}
use Rattle.quantiser.proofs.Steps.new.Goals as goal
use Rattle.quantiser.proofs.Steps.new.Goals.{After-large_bits-large, After-mant-m}

bits : (c : After-mant-m) → (3 ≤ c.mant-m.result) × (c.mant-m.result ≤ 16)
bits c = rw c.mant-m.ensures (mant_bits_lem c.args.hebap c.requires.0 c.requires.1)

range : (c : After-large_bits-large) → (1 ≤ c.large_bits-large.result - 1) × (c.large_bits-large.result - 1 ≤ 16)
range c =
    rw (c.large_bits-large.ensures, c.mant-m.ensures) (scale_range c.args.hebap c.args.gk c.requires.0 c.requires.1)

pub large_bits-large-requires : goal.large_bits-large-requires
large_bits-large-requires c = (bits c).0

pub overflow_sub-n : goal.overflow_sub-n
overflow_sub-n c = omega (arith, range c)

pub scale-part-requires : goal.scale-part-requires
scale-part-requires c = (range (goal.at.scale-part-requires c).After-large_bits-large).1

pub value-requires : goal.value-requires
value-requires c = lit< tt

pub value-requires-2 : goal.value-requires-2
value-requires-2 c = lit< tt

pub overflow_sub-m : goal.overflow_sub-m
overflow_sub-m c = omega (arith, bits (goal.at.overflow_sub-m c).After-mant-m)

pub scale-requires : goal.scale-requires
scale-requires c = omega (arith, bits (goal.at.scale-requires c).After-mant-m)

pub small_bits-requires : goal.small_bits-requires
small_bits-requires c = (bits (goal.at.small_bits-requires c).After-mant-m).0
