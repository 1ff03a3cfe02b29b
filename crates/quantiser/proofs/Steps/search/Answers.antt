-- `quantiser::Steps::search` meets its contract. Assumes nothing.
use Rattle.std.proofs.Common.{◌≡◌, ◌^◌, ◌<◌, pos, ◌+ℤ◌, ◌-ℤ◌, arith, w64}
use lib.Ieee.{nan_bits}
use lib.Signed.{mag}
use mir.ValLaws.{to_z-of_z}
use Rattle.std.proofs.lemmas.Int.{ints}
use Rattle.quantiser.specs.Quantise.{best_of}
use Rattle.quantiser.proofs.Ints.{held, held_is, clamp_small}
use Rattle.quantiser.proofs.Probing.{best_is, best_keeps}
use Rattle.quantiser.proofs.Steps.search.Goals as goal

pub float_from_bits-first : goal.float_from_bits-first
unfolding nan_bits
float_from_bits-first c = tt

pub returns : goal.returns
returns c =
    let a = c.args in
    let h = a.self.hebap in
    let g = a.self.gk in
    let n = a.self.n in
    let p = c.requires in
    let less : held (held a.est -ℤ pos 1) ≡ a.est -ℤ pos 1 = omega (arith, ints) in
    let more : held (held a.est +ℤ pos 1) ≡ a.est +ℤ pos 1 = omega (arith, ints) in
    let small : mag (best_of h g n a.lo a.hi a.x a.start a.est) < 2 ^ 24 = best_keeps h g n a.lo a.hi a.x (λ z. mag z < 2 ^ 24) (clamp_small a.lo a.hi (2 ^ 24) p.1 p.2) a.start a.est p.3 in
    let best : c.probe-d.result.k ≡ best_of h g n a.lo a.hi a.x a.start a.est =
    best_is h g n a.lo a.hi a.x a.start a.est (held a.lo) (held a.hi) (held a.start) (held (held a.est -ℤ pos 1)) (held a.est) (held (held a.est +ℤ pos 1))
    c.probe-b.result c.probe-c.result c.probe-d.result
    (to_z-of_z w64 a.lo c.ranges.lo) (to_z-of_z w64 a.hi c.ranges.hi) (to_z-of_z w64 a.start c.ranges.start) less (to_z-of_z w64 a.est c.ranges.est) more
    c.probe-b.ensures c.probe-c.ensures c.probe-d.ensures in
    held_is c.probe-d.result.k (rw best (omega arith)) best
