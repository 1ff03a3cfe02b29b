-- How large the estimates and the levels that are picked get. Assumes nothing.
use Rattle.std.proofs.Common.{ℕ, ◌-◌, ◌^◌, ◌<◌, ◌≤◌, ℤ, pos, negsuc, ◌+ℤ◌, neg_ℤ, nat_abs, arith, lit<, pow_pos}
use lib.Ieee.{Float, lt, le}
use lib.Signed.{mag}
use Rattle.levels.specs.Value.{f0}
use Rattle.levels.proofs.Signed.{by_test}
use Rattle.levels.proofs.Sizes.{mag_abs}
use Rattle.quantiser.specs.Quantise.{clamp_z, unit_of, units_in, est_one, best_one, steps_from, est_large, best_large}
use Rattle.quantiser.specs.Round.{round_away}
use Rattle.quantiser.proofs.Ints.{top_under, bottom_under, clamp_small, clamp_abs}
use Rattle.quantiser.proofs.Probing.{best_keeps}
use Rattle.quantiser.proofs.Signs.{round_small}

-- ---- Gk 1: from -(2 ^ n - 1) to 2 ^ n - 1
pub est_one_small : (h n : ℕ) (x : Float) → mag (est_one h n x) < 2 ^ 40
unfolding est_one
est_one_small h n x =
    by_test (λ (z : ℤ). mag z < 2 ^ 40) (lt f0 (unit_of h n)) (round_away (units_in h n x)) (pos 0) (let l = round_small (units_in h n x) in omega arith) (lit< tt)

pub best_one_abs : (h n : ℕ) (x : Float) → nat_abs (best_one h n x) ≤ 2 ^ n - 1
unfolding best_one
best_one_abs h n x =
    let p = 2 ^ n - 1 in
    best_keeps h 1 n (neg_ℤ (pos p)) (pos p) x (λ z. nat_abs z ≤ p) (clamp_abs p) (pos 0) (est_one h n x) (omega arith)

pub best_one_small : (h n : ℕ) (x : Float) → mag (best_one h n x) < 2 ^ n
best_one_small h n x = let a = best_one_abs h n x in let m = mag_abs (best_one h n x) in let p = pow_pos n in omega arith

-- ---- Gk 2 and 4: from -2 ^ n to 2 ^ n - 1
pub est_large_small : (h g n : ℕ) (x : Float) → mag (est_large h g n x) < 2 ^ n
unfolding est_large
est_large_small h g n x =
    let up = round_away (steps_from h g n (pos 0) x) in
    let down = negsuc 0 +ℤ round_away (steps_from h g n (negsuc 0) x) in
    by_test (λ (z : ℤ). mag z < 2 ^ n) (le f0 x) (clamp_z (pos 0) (pos (2 ^ n - 1)) up) (clamp_z (neg_ℤ (pos (2 ^ n))) (negsuc 0) down)
    (clamp_small (pos 0) (pos (2 ^ n - 1)) (2 ^ n) (pow_pos n) (top_under n) up)
    (clamp_small (neg_ℤ (pos (2 ^ n))) (negsuc 0) (2 ^ n) (bottom_under n) (pow_pos n) down)

pub best_large_small : (h g n : ℕ) (x : Float) → mag (best_large h g n x) < 2 ^ n
unfolding best_large
best_large_small h g n x =
    let lo = neg_ℤ (pos (2 ^ n)) in
    let hi = pos (2 ^ n - 1) in
    best_keeps h g n lo hi x (λ z. mag z < 2 ^ n) (clamp_small lo hi (2 ^ n) (bottom_under n) (top_under n)) (est_large h g n x) (est_large h g n x) (est_large_small h g n x)
