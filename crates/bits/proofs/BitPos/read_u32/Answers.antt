-- `bits::BitPos::read_u32` meets its contract: the tests before each `return` say which case holds. Assumes nothing.
use Prim.Native.Nat.{◌+◌, ◌*◌, ◌≤◌, ◌<◌}
use mathlib.Core.Path.{◌≡◌, sym, ◌∙◌}
use borrow.Author.Tests.{leb-true, leb-false}
use lib.ListN.{length}
use Rattle.bits.specs.Bits.{bit_at}
use Rattle.bits.proofs.Laws.{read_wide, read_short, read_good}
use native.Mathlib.Omega.{arith}
use borrow.Author.Rules.{rules}
use Rattle.bits.proofs.BitPos.read_u32.Goals as goal
use Rattle.bits.proofs.BitPos.read_u32.Goals.{Then-has_bits}

-- what the test of `holds` says of the position
fits : (c : Then-has_bits) → let a = c.args in bit_at a.self + a.n ≤ 8 * length a.src.now
fits c =
    let a = c.args in
    let h : bit_at a.self + 1 * a.n ≤ 8 * length a.src.now = leb-true _ _ (sym c.has_bits.ensures ∙ c.if-has_bits.true) in
    omega arith

pub returns-then-n-gt32 : goal.returns-then-n-gt32
returns-then-n-gt32 c = sym (read_wide _ _ _ c.if-n-gt32.true)

pub peek-requires : goal.peek-requires
peek-requires c = let h = fits c in search rules

pub advance-requires : goal.advance-requires
advance-requires c = let h = fits (goal.at.advance-requires c).Then-has_bits in search rules

pub returns-then-has_bits : goal.returns-then-has_bits
returns-then-has_bits c = let a = c.args in
    let h = fits (goal.at.returns-then-has_bits c).Then-has_bits in
    let f : bit_at a.self + 1 * a.n ≡ bit_at a.self + a.n = omega arith in
    cc (read_good a.src.now (bit_at a.self) a.n (omega arith) h)

pub returns-else-has_bits : goal.returns-else-has_bits
returns-else-has_bits c = let a = c.args in
    let h : 8 * length a.src.now < bit_at a.self + 1 * a.n = leb-false _ _ (sym c.has_bits.ensures ∙ c.if-has_bits.false) in
    sym (read_short _ _ _ (omega arith) (omega arith))
