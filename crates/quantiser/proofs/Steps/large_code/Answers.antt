-- `quantiser::Steps::large_code` meets its contract. Assumes nothing.
use Rattle.std.proofs.Common.{◌≡◌, refl, ◌∙◌, w64}
use mir.ValLaws.{to_z-of_z}
use Rattle.quantiser.proofs.Fixed.{Fixed, fixed}
use Rattle.quantiser.proofs.Found.{large_under}
use Rattle.quantiser.proofs.Ints.{held, held_24}
use Rattle.quantiser.proofs.Steps.large_code.Goals as goal

pub to_bits-requires : goal.to_bits-requires
to_bits-requires c = let parts : (Fixed c.args.self) = (fixed c.args.self) in
    let f = parts in record { n_bound = f.large_range.1; v_bound = large_under c.args.self c.args.k c.ranges.k.sfits refl c.requires }

pub value-requires : goal.value-requires
value-requires c = let parts : (Fixed c.args.self) = (fixed c.args.self) in
    held_24 c.args.self.n c.args.k (parts).n_range.1 c.ranges.k.sfits refl c.requires

pub returns : goal.returns
returns c = let parts : (Fixed c.args.self) = (fixed c.args.self) in
    let k_is : (held c.args.k ≡ c.args.k) = (to_z-of_z w64 c.args.k c.ranges.k) in
    let f = parts in
    rw (c.to_bits.ensures, c.value.ensures ∙ f.value_is _, k_is, f.n_is)
