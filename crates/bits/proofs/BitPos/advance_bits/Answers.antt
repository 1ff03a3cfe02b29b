-- `bits::BitPos::advance_bits` meets its contract. Assumes nothing.
use Prim.Native.Nat.{◌+◌, ◌/◌, ◌%◌}
use mathlib.Core.Path.{◌≡◌}
use Rattle.bits.specs.Bits.{bit_at}
use native.Mathlib.Omega.{arith}
use Rattle.bits.proofs.BitPos.advance_bits.Goals as goal

pub returns : goal.returns
returns c = let a = c.args in
    let q : a.self.byte + (a.self.bit + a.n) / 8 ≡ (bit_at a.self + a.n) / 8 = omega arith in
    let r : (a.self.bit + a.n) % 8 ≡ (bit_at a.self + a.n) % 8 = omega arith in
    cc
