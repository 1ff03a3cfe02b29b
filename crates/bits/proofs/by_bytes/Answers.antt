-- `bits::by_bytes` meets its contract. Assumes nothing.
use Prim.Native.Nat.{◌+◌, ◌*◌, ◌-◌, ◌/◌, ◌%◌, ◌^◌, ◌≤◌, ◌<◌}
use mathlib.Core.Path.{◌≡◌}
use native.Mathlib.Nat.{lt_of_lt_of_le}
use lib.Pow.{pow_pos, pow_mono, shl_lt}
use lib.ListN.{take, drop}
use Rattle.bits.specs.Bits.{bits_of, number_of}
use Rattle.bits.proofs.Laws.{number_next, number_take_lt}
use native.Mathlib.Omega.{arith}
use borrow.Author.Rules.{rules}
use Rattle.bits.proofs.by_bytes.Goals as goal
use Rattle.bits.proofs.by_bytes.Goals.{After-pow2-in-loop-i}

pub loop-i-init : goal.loop-i-init
unfolding number_of
loop-i-init c = search rules

-- a turn's number, at the place where it is known
next : (c : After-pow2-in-loop-i) →
    let a = c.args in
    let k = c.step-c.result in
    c.loop-i.v * c.pow2.result + c.from-x.result / 2 ^ (8 - c.loop-i.p - k) % c.pow2-in-loop-i.result
    ≡ number_of (take (c.loop-i.i + k) (drop (8 * a.q + a.r) (bits_of a.src.now)))
next c =
    let a = c.args in
    number_next a.src.now (8 * a.q + a.r) c.loop-i.i c.loop-i.b c.loop-i.p c.loop-i.v c.from-x.result c.step-c.result _ _
    c.loop-i.invariant.3 c.loop-i.invariant.1 (search rules) (omega arith) (omega arith) (search rules) (search rules)

pub overflow_mul-v : goal.overflow_mul-v
overflow_mul-v c = let h : c.loop-i.v < 2 ^ c.loop-i.i = rw c.loop-i.invariant.3 (number_take_lt c.loop-i.i _) in
    let m : c.loop-i.i + c.step-c.result ≤ 32 = omega arith in
    record { fits = rw c.pow2.ensures (lt_of_lt_of_le (shl_lt c.loop-i.i c.step-c.result h) (pow_mono m)) }

pub nonzero_rem-v : goal.nonzero_rem-v
nonzero_rem-v c = rw c.pow2-in-loop-i.ensures (pow_pos c.step-c.result)

pub overflow_add-v : goal.overflow_add-v
overflow_add-v c = let m : c.loop-i.i + c.step-c.result ≤ 32 = omega arith in
    record { fits = rw (next c) (lt_of_lt_of_le (number_take_lt _ _) (pow_mono m)) }

pub loop-i-preserved : goal.loop-i-preserved
loop-i-preserved c = (omega arith, omega arith, omega arith, next c)

pub returns : goal.returns
returns c = let e : c.loop-i.i ≡ c.args.n = omega arith in
    rw (← e) c.loop-i.invariant.3
