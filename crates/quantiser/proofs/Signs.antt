-- How `round_away` goes by the sign of x, `round_mag` at 2 ^ 31 and above, and how large they get. Assumes nothing.
use Rattle.std.proofs.Common.{◌≡◌, ℕ, ◌+◌, ◌*◌, ◌^◌, ◌<◌, ◌≤◌, min, true, false, T, ℤ, pos, neg_ℤ, sym, refl, ap, true≢false, mul-pos, le-div_iff_mul-le, arith, lit<, ltb→lt, ltb-false, ltb-true}
use Rattle.std.specs.Float.{float_with_sign}
use native.Mathlib.Nat.{div-eq_of_lt}
use lib.Ieee.{Float, nan, inf, fin, up, down, lt}
use lib.Ieee.Fits.{down_pos}
use lib.Signed.{mag}
use Rattle.quantiser.specs.Round.{half_up, round_mag, round_away}
use Rattle.quantiser.proofs.Ints.{neg_under}

abbrev pub zero_f : Float
zero_f = fin false 0 (pos 0)

pub large : (x : Float) → T (lt zero_f x) → lt x (fin false 1 (pos 31)) ≡ false → round_mag x ≡ 2147483648
unfolding lt round_mag
large nan p h = absurd p
large (inf s) p h = refl
large (fin true m e) p h = absurd p
large (fin false m e) p h =
    let a = m * up e in
    let d = down e in
    let D : 0 < d = down_pos e in
    let l : 2 ^ 31 * d ≤ a * 1 = ltb-false (a * 1) (2 ^ 31 * d) h in
    let k : 2 ^ 31 ≤ half_up a d = (le-div_iff_mul-le (mul-pos D (ltb→lt 0 2 tt))).1 (omega arith) in
    omega arith

pub mag_le : (x : Float) → round_mag x ≤ 2147483648
unfolding round_mag
mag_le nan = omega arith
mag_le (inf s) = omega arith
mag_le (fin s m e) = omega arith

-- the size of x
abbrev pub size : Float → Float
size x = float_with_sign false x

pub mag_size : (x : Float) → round_mag (size x) ≡ round_mag x
unfolding round_mag float_with_sign
mag_size nan = refl
mag_size (inf s) = refl
mag_size (fin s m e) = refl

pub above_round : (x : Float) → lt zero_f (size x) ≡ true → lt x zero_f ≡ false → round_away x ≡ pos (min (round_mag x) 2147483647)
unfolding lt round_mag round_away float_with_sign
above_round nan h k = absurd (true≢false (sym h))
above_round (inf true) h k = absurd (true≢false k)
above_round (inf false) h k = refl
above_round (fin true m e) h k =
    let l : m * up e * 1 + 0 * down e ≤ 0 = ltb-false 0 (m * up e * 1 + 0 * down e) k in
    let p : 0 * down e < m * up e * 1 = ltb-true (0 * down e) (m * up e * 1) h in
    absurd (omega arith)
above_round (fin false m e) h k = refl

pub below_round : (x : Float) → lt x zero_f ≡ true → round_away x ≡ neg_ℤ (pos (round_mag x))
unfolding lt round_mag round_away
below_round nan h = absurd (true≢false (sym h))
below_round (inf true) h = refl
below_round (inf false) h = absurd (true≢false (sym h))
below_round (fin true m e) h = refl
below_round (fin false m e) h = absurd (let l : m * up e * 1 < 0 * down e = ltb-true (m * up e * 1) (0 * down e) h in omega arith)

none : (m : ℕ) (e : ℤ) → m * up e ≤ 0 → min (half_up (m * up e) (down e)) 2147483648 ≡ 0
none m e h =
    let D : 0 < down e = down_pos e in
    let z : half_up (m * up e) (down e) ≡ 0 = div-eq_of_lt (omega arith) in
    omega arith

pub level_round : (x : Float) → lt zero_f (size x) ≡ false → round_away x ≡ pos 0
unfolding lt round_mag round_away float_with_sign
level_round nan h = refl
level_round (inf s) h = absurd (true≢false h)
level_round (fin true m e) h = ap (λ (n : ℕ). neg_ℤ (pos n)) (none m e (let l : m * up e * 1 ≤ 0 * down e = ltb-false (0 * down e) (m * up e * 1) h in omega arith))
level_round (fin false m e) h = ap (λ (n : ℕ). pos (min n 2147483647)) (none m e (let l : m * up e * 1 ≤ 0 * down e = ltb-false (0 * down e) (m * up e * 1) h in omega arith))

pub round_small : (x : Float) → mag (round_away x) < 2 ^ 32
unfolding round_away
round_small nan = lit< tt
round_small (inf true) = lit< tt
round_small (inf false) = lit< tt
round_small (fin true m e) = let c = mag_le (fin true m e) in neg_under (round_mag (fin true m e)) (2 ^ 32) (omega arith) (lit< tt)
round_small (fin false m e) = omega arith
