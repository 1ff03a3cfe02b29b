-- `writer::FieldWriter::write_gain_bits` meets its contract. Assumes nothing.
use Prim.Native.Nat.{◌+◌}
use lib.ListN.{drop}
use Rattle.bits.specs.Bits.{bits_n}
use Rattle.writer.specs.Work.{gains_enc}
use Rattle.writer.proofs.Turns.{Next, left_all, left_room, left_next, left_none}
use Rattle.writer.proofs.Words.{bits_next, bits_end}
use Rattle.writer.proofs.FieldWriter.write_gain_bits.Goals as goal
use Rattle.writer.proofs.FieldWriter.write_gain_bits.Goals.{After-gain_code}

-- the bit of a gain, before those of the gains behind it
turn : (c : After-gain_code) → let a = c.args in let j = c.loop-gk.gk-index in
    Next (gains_enc a.mode (drop j a.gains.now)) (bits_n 1 c.gain_code.result) (gains_enc a.mode (drop (j + 1) a.gains.now))
turn c = record { is = bits_next c.args.mode c.requires.le_mode c.args.gains.now c.loop-gk.gk-index c.gain_code.result c.gain_code.ensures c.loop-gk-test.true }

pub loop-gk-init : goal.loop-gk-init
loop-gk-init c = left_all c.args.self.now _

pub put-requires-clause-room : goal.put-requires-clause-room
put-requires-clause-room c = left_room c.loop-gk.invariant (turn c) c.requires.room

pub loop-gk-preserved : goal.loop-gk-preserved
loop-gk-preserved c = left_next c.loop-gk.invariant (turn (goal.at.loop-gk-preserved c).After-gain_code) c.requires.room _ c.put.ensures

pub returns : goal.returns
returns c = left_none c.loop-gk.invariant (bits_end c.args.mode c.requires.le_mode c.args.gains.now c.loop-gk.gk-index c.loop-gk-test.false)
