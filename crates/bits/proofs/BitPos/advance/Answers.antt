-- `bits::BitPos::advance` meets its contract. Assumes nothing.
use Prim.Native.Nat.{◌+◌, ◌*◌, ◌/◌, ◌%◌}
use mathlib.Core.Path.{◌≡◌}
use native.Mathlib.Omega.{arith}
use Rattle.bits.specs.Bits.{bit_at}
use Rattle.bits.proofs.Laws.{spread}
use Rattle.bits.proofs.BitPos.advance.Goals as goal

pub overflow_mul-part : goal.overflow_mul-part
overflow_mul-part c = let a = c.args in let s = spread a.width a.count (omega arith) in omega arith

pub overflow_add-part : goal.overflow_add-part
overflow_add-part c = let a = c.args in let s = spread a.width a.count (omega arith) in omega arith

pub overflow_mul-result : goal.overflow_mul-result
overflow_mul-result c = let a = c.args in let s = spread a.width a.count (omega arith) in omega arith

pub overflow_add-result : goal.overflow_add-result
overflow_add-result c = let a = c.args in let s = spread a.width a.count (omega arith) in omega arith

pub overflow_add-result-2 : goal.overflow_add-result-2
overflow_add-result-2 c = let a = c.args in let s = spread a.width a.count (omega arith) in omega arith

pub returns : goal.returns
returns c = let a = c.args in
    let s = spread a.width a.count (omega arith) in
    let part = a.self.bit + a.width * (a.count % 8) in
    let q : a.self.byte + a.width * (a.count / 8) + part / 8 ≡ (bit_at a.self + a.width * a.count) / 8 = omega arith in
    let r : part % 8 ≡ (bit_at a.self + a.width * a.count) % 8 = omega arith in
    cc
