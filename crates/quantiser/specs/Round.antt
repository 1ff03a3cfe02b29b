-- Rust's `x.round() as i32`: to the nearest whole number, halves away from zero. docs/FORMAT.md, Quantiser.
use Rattle.std.specs.Prelude.{ℕ, ◌+◌, ◌*◌, ◌/◌, min, cond, ℤ, pos, neg_ℤ, Float}
use Rattle.std.specs.Float.{nan, inf, fin}
use Rattle.std.specs.Float.Ieee.{up, down}

-- n / d to the nearest whole number, a half goes up, for a d above 0
abbrev pub half_up : ℕ → ℕ → ℕ
half_up n d = (n * 2 + d) / (d * 2)

-- the size of x so rounded, at most 2 ^ 31
unfoldable pub round_mag : Float → ℕ
round_mag nan = 0
round_mag (inf s) = 2147483648
round_mag (fin s m e) = min (half_up (m * up e) (down e)) 2147483648

-- x rounded, halves away from zero, clamped to -2 ^ 31 to 2 ^ 31 - 1; 0 for a NaN
unfoldable pub round_away : Float → ℤ
round_away nan = pos 0
round_away (inf s) = cond s (neg_ℤ (pos 2147483648)) (pos 2147483647)
round_away (fin s m e) = cond s (neg_ℤ (pos (round_mag (fin s m e)))) (pos (min (round_mag (fin s m e)) 2147483647))
