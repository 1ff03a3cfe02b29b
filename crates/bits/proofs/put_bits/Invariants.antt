-- `bits::put_bits` meets its contract. Assumes nothing.
use Prim.Native.Nat.{◌+◌, ◌*◌, ◌-◌, ◌≤◌, ◌<◌}
use mathlib.Core.Path.{◌≡◌}
use lib.ListN.{length, take}
use Rattle.bits.specs.Bits.{bits_of, bits_n, splice}
use Rattle.bits.proofs.put_bits.Given as goal

abbrev pub invariant-loop-i : goal.invariant-loop-i
invariant-loop-i l = (l.i ≤ l.n) × (8 * l.q + l.r + l.i ≡ 8 * l.b + l.p) × (l.p < 8) × (length l.out ≡ length l.initial.out) × (bits_of l.out ≡ splice (bits_of l.initial.out) (8 * l.q + l.r) (take l.i (bits_n l.n l.v)))

abbrev pub decreases-loop-i : goal.decreases-loop-i
decreases-loop-i l = l.n - l.i
