-- `bits::BitPos::has_bits` meets its contract. Assumes nothing.
use Prim.Native.Nat.{◌+◌, ◌*◌, ◌-◌, ◌/◌, ◌%◌}
use mathlib.Core.Path.{sym}
use borrow.Author.Tests.{lt-leb}
use native.Mathlib.Omega.{arith}
use Rattle.bits.specs.Bits.{bit_at}
use Rattle.bits.proofs.Laws.{spread, leb_same}
use Rattle.bits.proofs.BitPos.has_bits.Goals as goal

pub returns-then-len-byte : goal.returns-then-len-byte
returns-then-len-byte c = let a = c.args in sym (lt-leb (bit_at a.self + a.width * a.count) (8 * a.len) (omega arith))

pub returns-then-len-q : goal.returns-then-len-q
returns-then-len-q c = let a = c.args in sym (lt-leb (bit_at a.self + a.width * a.count) (8 * a.len) (omega arith))

pub overflow_mul-whole : goal.overflow_mul-whole
overflow_mul-whole c = let a = c.args in let s = spread a.width a.count (omega arith) in omega arith

pub overflow_mul-part : goal.overflow_mul-part
overflow_mul-part c = let a = c.args in let s = spread a.width a.count (omega arith) in omega arith

pub overflow_add-part : goal.overflow_add-part
overflow_add-part c = let a = c.args in let s = spread a.width a.count (omega arith) in omega arith

pub overflow_add-result : goal.overflow_add-result
overflow_add-result c = let a = c.args in let s = spread a.width a.count (omega arith) in omega arith

pub overflow_add-result-2 : goal.overflow_add-result-2
overflow_add-result-2 c = let a = c.args in let s = spread a.width a.count (omega arith) in omega arith

pub returns : goal.returns
returns c = let a = c.args in
    let s = spread a.width a.count (omega arith) in
    let part = a.self.bit % 8 + a.width * (a.count % 8) in
    leb_same (a.width * (a.count / 8) + (part + 7) / 8) (a.len - (a.self.byte + a.self.bit / 8)) (bit_at a.self + a.width * a.count) (8 * a.len) (λ h. omega arith) (λ h. omega arith)
