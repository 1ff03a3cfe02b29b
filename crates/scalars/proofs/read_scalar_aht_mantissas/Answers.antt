-- `scalars::read_scalar_aht_mantissas` meets its contract: the tests before each `return` say which case holds. Assumes nothing.
use Prim.Native.Nat.{◌+◌, ◌*◌, ◌≤◌}
use mathlib.Core.Path.{◌≡◌, sym, ap, ◌∙◌}
use lib.ListN.{length}
use native.Mathlib.Omega.{arith}
use borrow.Author.Tests.{leb-true}
use mir.Syntax.{w8}
use mir.ValLaws.{to_z-of_z}
use Rattle.answers.proofs.Numbers.{passed_on}
use Rattle.bits.specs.Bits.{bit_at}
use Rattle.bits.specs.Takes.{ahead}
use Rattle.bits.proofs.Reading.{at_pos}
use Rattle.bits.proofs.Taking.{moved, not_moved}
use Rattle.scalars.specs.Scalars.{gain_of, bin_read, scalars_read}
use Rattle.scalars.proofs.Laws.{scalars_bin}
use Rattle.scalars.proofs.read_scalar_aht_mantissas.Goals as goal
use Rattle.scalars.proofs.read_scalar_aht_mantissas.Goals.{After-new-reader}

-- what the reader has ahead is what the position names
bin_here : (c : After-new-reader) → let a = c.args in
    scalars_read a.src.now (bit_at a.pos) a.hebap a.gaqmod a.gaqbin a.gain_code ≡ bin_read a.hebap c.gain_of-gk.result (ahead c.new-reader.result)
bin_here c =
    let a = c.args in
    let h : bit_at a.pos + 1 * 0 ≤ 8 * length a.src.now = leb-true _ _ (sym c.has_bits.ensures ∙ c.if-not-has_bits.false) in
    let p : bit_at c.new-reader.result.pos ≡ bit_at a.pos = ap bit_at c.new-reader.ensures.place ∙ at_pos (bit_at a.pos) in
    let g : c.gain_of-gk.result ≡ gain_of a.gaqbin a.gain_code a.gaqmod = rw (to_z-of_z w8 a.gaqbin c.ranges.gaqbin) at c.gain_of-gk.ensures in
    rw (p, g, c.new-reader.ensures.bytes) (scalars_bin a.src.now (bit_at a.pos) a.hebap a.gaqmod a.gaqbin a.gain_code c.if-gaqmod-gt3.false c.if-hebap-gt19.false (omega arith))

pub returns-in_err-read_bin : goal.returns-in_err-read_bin
returns-in_err-read_bin c =
    let d = c.in_err-read_bin.ensures in
    rw (passed_on c.from_residual.ensures, bin_here (goal.at.returns-in_err-read_bin c).After-new-reader, ← c.new-reader.ensures.bytes)
    record { value = not_moved _ _ _ _ _ _ d.reads; out_after = d.out_after }

pub returns : goal.returns
returns c =
    let d = c.in_ok-read_bin.ensures in
    rw (bin_here (goal.at.returns c).After-new-reader, ← c.new-reader.ensures.bytes)
    record { value = moved _ _ _ _ _ _ d.reads; out_after = d.out_after }
