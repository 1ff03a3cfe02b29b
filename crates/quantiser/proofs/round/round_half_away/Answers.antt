-- `quantiser::round::round_half_away` meets its contract. Assumes nothing.
use Rattle.std.proofs.Common.{◌≡◌, ℕ, ◌≤◌, min, pos, sym, ap, ◌∙◌, arith}
use lib.Ieee.{Float, of_bits, lt}
use Rattle.levels.specs.Value.{f0}
use Rattle.quantiser.specs.Round.{round_mag, round_away}
use Rattle.quantiser.proofs.Ints.{cast_is, minus_fits, minus_back}
use Rattle.quantiser.proofs.Signs.{mag_le, mag_size, below_round, above_round, level_round}
use Rattle.quantiser.proofs.round.round_half_away.Goals as goal
use Rattle.quantiser.proofs.round.round_half_away.Goals.{After-magnitude-n, Else-x}

few : (c : After-magnitude-n) → c.magnitude-n.result ≤ 2147483648
few c = rw c.magnitude-n.ensures (mag_le _)

-- n is the size of x rounded
rounded : (c : After-magnitude-n) → c.magnitude-n.result ≡ round_mag c.args.x
rounded c = c.magnitude-n.ensures ∙ ap round_mag c.abs-a.ensures.value ∙ mag_size c.args.x

-- an x that is not below zero goes to n, as far as an i32 reaches
rounds : (c : Else-x) → c.magnitude-n.result ≡ round_mag c.args.x → round_away c.args.x ≡ pos (min c.magnitude-n.result 2147483647)
unfolding of_bits
rounds c e =
    above_round c.args.x (ap (λ (y : Float). lt f0 y) (sym c.abs-a.ensures.value) ∙ c.if-a.true) c.if-x.false
    ∙ ap (λ (n : ℕ). pos (min n 2147483647)) (sym e)

pub overflow_cast-result : goal.overflow_cast-result
overflow_cast-result c = record { sfits = omega (arith, few (goal.at.overflow_cast-result c).After-magnitude-n) }

pub overflow_sub-result : goal.overflow_sub-result
overflow_sub-result c = minus_fits c.magnitude-n.result (omega (arith, few (goal.at.overflow_sub-result c).After-magnitude-n))

pub returns-then-x : goal.returns-then-x
unfolding of_bits
returns-then-x c =
    let at = (goal.at.returns-then-x c).After-magnitude-n in
    minus_back c.magnitude-n.result (omega (arith, few at)) (rounded at) ∙ sym (below_round c.args.x c.if-x.true)

pub returns-then-n-lt2147483648 : goal.returns-then-n-lt2147483648
returns-then-n-lt2147483648 c =
    let at = goal.at.returns-then-n-lt2147483648 c in
    let h = c.if-n-lt2147483648.true in
    cast_is c.magnitude-n.result (omega arith) (omega arith) ∙ sym (rounds at.Else-x (rounded at.After-magnitude-n))

pub returns-else-n-lt2147483648 : goal.returns-else-n-lt2147483648
returns-else-n-lt2147483648 c =
    let at = goal.at.returns-else-n-lt2147483648 c in
    let h = c.if-n-lt2147483648.false in
    let l = few at.After-magnitude-n in
    ap pos (omega arith) ∙ sym (rounds at.Else-x (rounded at.After-magnitude-n))

pub returns-else-a : goal.returns-else-a
unfolding of_bits
returns-else-a c = sym (level_round c.args.x (ap (λ (y : Float). lt f0 y) (sym c.abs-a.ensures.value) ∙ c.if-a.false))
