-- `quantiser::Steps::estimate_large` meets its contract. Assumes nothing.
use Rattle.std.proofs.Common.{◌≡◌, ℕ, ◌-◌, ◌^◌, ◌<◌, true, false, ℤ, pos, negsuc, ◌+ℤ◌, ◌-ℤ◌, neg_ℤ, pow_pos, arith, w64, SFits}
use lib.Signed.{mag}
use mir.ValLaws.{to_z-of_z}
use lib.Ieee.{Float, binary32, sub, div, le}
use Rattle.std.specs.Int.{int_max, int_min}
use Rattle.std.proofs.lemmas.Int.{ints}
use Rattle.levels.specs.Value.{f0}
use Rattle.quantiser.specs.Quantise.{value_at, slope_at, est_large}
use Rattle.quantiser.specs.Round.{round_away}
use Rattle.quantiser.proofs.Fixed.{fixed, n_few}
use Rattle.quantiser.proofs.Ints.{held, held_is, less_fits, clamp_is, top_is, bottom_is}
use Rattle.quantiser.proofs.Signs.{round_small}
use Rattle.quantiser.proofs.Steps.estimate_large.Goals as goal

module _ (h g n : ℕ) (x s v : Float) (e : s ≡ slope_at h g n) where
  above : (r c : ℤ) → le f0 x ≡ true → v ≡ value_at h g n (pos 0) → r ≡ round_away (div binary32 (sub binary32 x v) s) → c ≡ int_max (pos 0) (int_min r (pos (2 ^ n - 1))) → c ≡ est_large h g n x
  unfolding est_large
  above r c t p q k = let m = clamp_is (pos 0) (pos (2 ^ n - 1)) r (omega (arith, ints)) in cc

  below : (r z c : ℤ) → le f0 x ≡ false → v ≡ value_at h g n (negsuc 0) → r ≡ round_away (div binary32 (sub binary32 x v) s) → z ≡ r -ℤ pos 1
      → c ≡ int_max (neg_ℤ (pos (2 ^ n))) (int_min z (negsuc 0)) → c ≡ est_large h g n x
  unfolding est_large
  below r z c t p q i k =
      let m = clamp_is (neg_ℤ (pos (2 ^ n))) (negsuc 0) z (let p = pow_pos n in omega (arith, ints)) in
      let j : z ≡ negsuc 0 +ℤ r = omega (arith, ints) in
      cc

-- one less than what was rounded fits
less : (r : ℤ) (y : Float) → mag r < 2 ^ 63 → r ≡ round_away y → SFits w64 (held r -ℤ pos 1)
less r y f e = rw (held_is r f e) (less_fits (round_away y) (let l = round_small y in omega arith))

pub power-full-requires : goal.power-full-requires
power-full-requires c = n_few c.args.self

pub overflow_sub-r : goal.overflow_sub-r
overflow_sub-r c = let r = c.round_half_away-r-else-x in less r.result _ r.type_inv r.ensures

pub returns-then-x : goal.returns-then-x
returns-then-x c =
    let a = c.args in
    let r = c.round_half_away-r in
    let f = fixed a.self in
    held_is c.clamp.result c.clamp.type_inv
    (above a.self.hebap a.self.gk a.self.n a.x a.self.unit a.self.zero (f.unit_large c.requires) (held r.result) c.clamp.result c.if-x.true f.zero_is
    (held_is r.result r.type_inv r.ensures) (rw (top_is a.self.n c.power-full.result (n_few a.self) c.power-full.ensures) at c.clamp.ensures.value))

pub returns-else-x : goal.returns-else-x
returns-else-x c =
    let a = c.args in
    let r = c.round_half_away-r-else-x in
    let f = fixed a.self in
    held_is c.clamp-else-x.result c.clamp-else-x.type_inv
    (below a.self.hebap a.self.gk a.self.n a.x a.self.unit a.self.below (f.unit_large c.requires) (held r.result) (held (held r.result -ℤ pos 1)) c.clamp-else-x.result c.if-x.false f.below_is
    (held_is r.result r.type_inv r.ensures) (to_z-of_z w64 (held r.result -ℤ pos 1) (less r.result _ r.type_inv r.ensures)) (rw (bottom_is a.self.n c.power-full.result (n_few a.self) c.power-full.ensures) at c.clamp-else-x.ensures.value))
