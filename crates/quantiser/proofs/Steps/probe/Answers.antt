-- `quantiser::Steps::probe` meets its contract. Assumes nothing.
use Rattle.std.proofs.Common.{◌≡◌, true, false, ◌∙◌, w64}
use mir.ValLaws.{to_z-of_z}
use Rattle.quantiser.specs.Quantise.{clamp_z}
use Rattle.quantiser.proofs.Fixed.{fixed}
use Rattle.quantiser.proofs.Floats.{abs_is}
use Rattle.quantiser.proofs.Ints.{held, held_is, clamp_is}
use Rattle.quantiser.proofs.Probing.{probed_is}
use Rattle.quantiser.proofs.Steps.probe.Goals as goal
use Rattle.quantiser.proofs.Steps.probe.Goals.{After-clamp-k}

-- the level that is probed
k_is : (c : After-clamp-k) → held c.clamp-k.result ≡ clamp_z c.args.lo c.args.hi c.args.z
k_is c =
    let a = c.args in
    held_is c.clamp-k.result c.clamp-k.type_inv
    (rw (to_z-of_z w64 a.lo c.ranges.lo, to_z-of_z w64 a.hi c.ranges.hi, to_z-of_z w64 a.z c.ranges.z) at c.clamp-k.ensures.value ∙ clamp_is a.lo a.hi a.z c.requires.0)

pub returns-then-e-best : goal.returns-then-e-best
returns-then-e-best c =
    let a = c.args in
    probed_is a.self.hebap a.self.gk a.self.n a.lo a.hi a.x a.z (held c.clamp-k.result) c.value.result c.abs-e.result a.best true
    (k_is (goal.at.returns-then-e-best c).After-clamp-k) (c.value.ensures ∙ (fixed a.self).value_is _) (c.abs-e.ensures.value ∙ abs_is _) c.if-e-best.true

pub returns-else-e-best : goal.returns-else-e-best
returns-else-e-best c =
    let a = c.args in
    probed_is a.self.hebap a.self.gk a.self.n a.lo a.hi a.x a.z (held c.clamp-k.result) c.value.result c.abs-e.result a.best false
    (k_is (goal.at.returns-else-e-best c).After-clamp-k) (c.value.ensures ∙ (fixed a.self).value_is _) (c.abs-e.ensures.value ∙ abs_is _) c.if-e-best.false
