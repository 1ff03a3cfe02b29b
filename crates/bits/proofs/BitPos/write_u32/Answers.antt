-- `bits::BitPos::write_u32` meets its contract: the tests before each `return` say which case holds. Assumes nothing.
use Prim.Native.Nat.{◌+◌, ◌*◌, ◌/◌, ◌%◌, ◌≤◌, ◌<◌}
use mathlib.Core.Path.{◌≡◌, sym, ◌∙◌}
use borrow.Author.Tests.{leb-true, leb-false}
use lib.ListN.{length}
use Rattle.bits.specs.Bits.{bit_at, bits_of, bits_n, splice}
use Rattle.bits.proofs.Laws.{write_wide, write_short, write_good, bytes_with_lem}
use native.Mathlib.Omega.{arith}
use borrow.Author.Rules.{rules}
use Rattle.bits.proofs.BitPos.write_u32.Goals as goal
use Rattle.bits.proofs.BitPos.write_u32.Goals.{Then-has_bits}

-- what the test of `holds` says of the position
fits : (c : Then-has_bits) → let a = c.args in bit_at a.self + a.n ≤ 8 * length a.out.now
fits c =
    let a = c.args in
    let h : bit_at a.self + 1 * a.n ≤ 8 * length a.out.now = leb-true _ _ (sym c.has_bits.ensures ∙ c.if-has_bits.true) in
    omega arith

pub returns-then-n-gt32 : goal.returns-then-n-gt32
returns-then-n-gt32 c = let e = write_wide c.args.out.now (bit_at c.args.self) c.args.v c.args.n c.if-n-gt32.true in record { value = sym e.0; out_after = sym e.1 }

pub overflow_add-q : goal.overflow_add-q
overflow_add-q c = let h = fits c in search rules

pub put_bits-requires : goal.put_bits-requires
put_bits-requires c = let h = fits (goal.at.put_bits-requires c).Then-has_bits in search rules

pub advance-requires : goal.advance-requires
advance-requires c = let h = fits (goal.at.advance-requires c).Then-has_bits in search rules

pub returns-then-has_bits : goal.returns-then-has_bits
returns-then-has_bits c = let a = c.args in
    let h = fits (goal.at.returns-then-has_bits c).Then-has_bits in
    let e : 8 * (a.self.byte + a.self.bit / 8) + a.self.bit % 8 ≡ bit_at a.self = omega arith in
    let f : bit_at a.self + 1 * a.n ≡ bit_at a.self + a.n = omega arith in
    let g = write_good a.out.now (bit_at a.self) a.v a.n (omega arith) h in
    let b : bits_of c.put_bits.new.out ≡ splice (bits_of a.out.now) (bit_at a.self) (bits_n a.n a.v) = cc c.put_bits.ensures in
    let d = bytes_with_lem a.out.now c.put_bits.new.out (bit_at a.self) (bits_n a.n a.v) c.put_bits.auto.out (λ i k. omega (arith, c.slice_known-then-has_bits-1.given i)) b in
    record { value = cc g.0; out_after = d ∙ sym g.1 }

pub returns-else-has_bits : goal.returns-else-has_bits
returns-else-has_bits c = let a = c.args in
    let h : 8 * length a.out.now < bit_at a.self + 1 * a.n = leb-false _ _ (sym c.has_bits.ensures ∙ c.if-has_bits.false) in
    let e = write_short a.out.now (bit_at a.self) a.v a.n (omega arith) (omega arith) in
    record { value = sym e.0; out_after = sym e.1 }
