-- `bits::by_bytes` meets its contract. Assumes nothing.
use Prim.Native.Nat.{◌+◌, ◌*◌, ◌-◌, ◌≤◌, ◌<◌}
use mathlib.Core.Path.{◌≡◌}
use lib.ListN.{take, drop}
use Rattle.bits.specs.Bits.{bits_of, number_of}
use Rattle.bits.proofs.by_bytes.Given as goal

abbrev pub invariant-loop-i : goal.invariant-loop-i
invariant-loop-i l = (l.i ≤ l.n) × (8 * l.q + l.r + l.i ≡ 8 * l.b + l.p) × (l.p < 8) × (l.v ≡ number_of (take l.i (drop (8 * l.q + l.r) (bits_of l.src))))

abbrev pub decreases-loop-i : goal.decreases-loop-i
decreases-loop-i l = l.n - l.i
