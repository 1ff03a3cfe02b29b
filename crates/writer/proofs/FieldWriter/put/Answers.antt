-- `writer::FieldWriter::put` meets its contract. Assumes nothing.
use Prim.Native.Nat.{◌+◌}
use mathlib.Core.Path.{◌≡◌, refl, sym, ap, ◌∙◌}
use native.Mathlib.Omega.{arith}
use lib.ListN.{length}
use Rattle.std.specs.Prelude.{Ok}
use Rattle.answers.specs.Answers.{value_or}
use Rattle.bits.specs.Bits.{bits_n, bits_of, bit_at, pos_of, bytes_with}
use Rattle.bits.specs.declared.BitPos.{BitPos}
use Rattle.bits.proofs.Laws.{write_good, length_bits_n, length_with, bits_with}
use Rattle.writer.proofs.FieldWriter.put.Goals as goal
use Rattle.writer.proofs.FieldWriter.put.Goals.{After-write_u32}

-- there is room, so the bits are written
done : (c : After-write_u32) → let a = c.args in let p = a.self.now.pos in
    (c.write_u32.result ≡ Ok (pos_of (bit_at p + a.n))) × (c.write_u32.new.out ≡ bytes_with a.self.now.out.now (bit_at p) (bits_n a.n a.v))
done c =
    let a = c.args in
    let w = a.self.now in
    let g = write_good w.out.now (bit_at w.pos) a.v a.n c.requires.n_bound (rw length_bits_n at c.requires.room) in
    (c.write_u32.ensures.value ∙ g.0, c.write_u32.ensures.out_after ∙ g.1)

pub unwrap-self-requires : goal.unwrap-self-requires
unwrap-self-requires c = rw (done (goal.at.unwrap-self-requires c).After-write_u32).0

-- the position behind them
behind : (c : After-write_u32) → let a = c.args in (p : BitPos) → c.write_u32.result ≡ Ok p → p ≡ pos_of (bit_at a.self.now.pos + a.n)
behind c p e = ap (value_or p) (sym e ∙ (done c).0)

pub invariant_of-self : goal.invariant_of-self
invariant_of-self c = rw (behind (goal.at.invariant_of-self c).After-write_u32 _ c.unwrap-self.ensures) (omega arith)

pub returns : goal.returns
returns c =
    let d = (goal.at.returns c).After-write_u32 in
    let w = c.args.self.now in
    let n = length_bits_n c.args.n c.args.v in
    let e = (done d).1 in
    record {
      place = rw (behind d _ c.unwrap-self.ensures) (omega arith);
      long = ap length e ∙ length_with w.out.now (bit_at w.pos) _;
      bits = ap bits_of e ∙ bits_with w.out.now (bit_at w.pos) _ c.requires.room;
      same_output = refl;
    }
