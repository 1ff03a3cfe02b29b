-- `quantiser::probes::value` meets its contract. Assumes nothing.
use Rattle.std.proofs.Common.{◌≡◌, ◌^◌, ◌<◌, ap, ◌∙◌, w32, w64, to_z, of_z}
use lib.Signed.{mag}
use mir.ValLaws.{to_z-of_z}
use Rattle.levels.proofs.Signed.{in_float_lem}
use Rattle.quantiser.specs.Work.{level_by}
use Rattle.quantiser.proofs.Ints.{held, narrow_fits, narrowed}
use Rattle.quantiser.proofs.probes.value.Goals as goal
use Rattle.quantiser.proofs.probes.value.Goals.{Start}

small : (s : Start) → mag (held s.args.k) < 2 ^ 24
small s = rw (to_z-of_z w64 s.args.k s.ranges.k) s.requires

k_is : (s : Start) → to_z w32 (of_z w32 (held s.args.k)) ≡ s.args.k
k_is s = narrowed s.args.k (small s) ∙ to_z-of_z w64 s.args.k s.ranges.k

pub overflow_cast-k : goal.overflow_cast-k
overflow_cast-k c = narrow_fits c.args.k (small c)

pub int_to_float-k : goal.int_to_float-k
int_to_float-k c = rw (k_is (goal.at.int_to_float-k c).Start) (in_float_lem c.args.k c.requires)

pub returns : goal.returns
returns c = c.remap_by.ensures ∙ ap (level_by c.args.remap c.args.part) (k_is (goal.at.returns c).Start)
