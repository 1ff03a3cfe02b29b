-- `writer::FieldWriter::write_field` meets its contract. Assumes nothing.
use Rattle.writer.proofs.Call.{mode_room, gains_room, bins_room, field_put}
use Rattle.writer.proofs.FieldWriter.write_field.Goals as goal

pub put-requires-clause-room : goal.put-requires-clause-room
put-requires-clause-room c = let a = c.args in mode_room a.mode a.gains.now a.v.bins a.v.x.now c.requires.choice a.self.now c.requires.room

pub write_gains-requires-clause-room : goal.write_gains-requires-clause-room
write_gains-requires-clause-room c = let a = c.args in gains_room a.mode a.gains.now a.v.bins a.v.x.now c.requires.choice a.self.now c.requires.room _ c.put.ensures

pub write_bins-requires : goal.write_bins-requires
write_bins-requires c = let a = c.args in
    bins_room a.mode a.gains.now a.v.bins a.v.x.now c.requires.choice a.self.now c.requires.room _ c.put.ensures _ c.write_gains.ensures

pub returns : goal.returns
returns c = let a = c.args in
    field_put a.mode a.gains.now a.v.bins a.v.x.now c.requires.choice a.self.now c.requires.room _ c.put.ensures _ c.write_gains.ensures _ c.write_bins.ensures
