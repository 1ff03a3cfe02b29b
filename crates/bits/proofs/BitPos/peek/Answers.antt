-- `bits::BitPos::peek` meets its contract. Assumes nothing.
use Prim.Native.Nat.{◌+◌, ◌*◌, ◌/◌, ◌%◌}
use mathlib.Core.Path.{◌≡◌}
use Rattle.bits.specs.Bits.{bit_at}
use native.Mathlib.Omega.{arith}
use Rattle.bits.proofs.BitPos.peek.Goals as goal

pub returns : goal.returns
returns c = let a = c.args in
    let e : 8 * (a.self.byte + a.self.bit / 8) + a.self.bit % 8 ≡ bit_at a.self = omega arith in
    cc (c.number_at.ensures, e)
