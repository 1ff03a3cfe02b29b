-- `writer::FieldWriter::write_group_words` meets its contract. Assumes nothing.
use mathlib.Core.Path.{◌∙◌}
use Rattle.std.specs.Slice.Iter.{chunks_rest}
use Rattle.bits.specs.Bits.{bits_n}
use Rattle.writer.specs.Work.{gains_enc}
use Rattle.writer.proofs.Turns.{Next, left_all, left_room, left_next, left_none}
use native.Mathlib.Omega.{arith}
use Rattle.writer.proofs.Words.{groups_next, words_end_lem}
use Rattle.writer.proofs.FieldWriter.write_group_words.Goals as goal
use Rattle.writer.proofs.FieldWriter.write_group_words.Goals.{After-word_of}

-- the word of a group, before those of the groups behind it
turn : (c : After-word_of) → Next (gains_enc 3 (chunks_rest c.loop-group.group-iterator)) (bits_n 5 c.word_of.result) (gains_enc 3 (chunks_rest c.next.new.self))
turn c =
    let h = c.in-Some.ensures.steps in
    let n = rw c.loop-group.invariant.0 at h.1.1 in
    record { is = groups_next _ c.in-Some.group.now _ c.word_of.result h.1.0 n h.1.2 c.word_of.ensures }

pub loop-group-init : goal.loop-group-init
loop-group-init c =
    rw (c.into_iter-group-iterator.ensures.into_iter_gives, c.chunks-group-items.ensures.rest)
    (c.chunks-group-items.ensures.size, left_all c.args.self.now _)

pub put-requires-clause-room : goal.put-requires-clause-room
put-requires-clause-room c = left_room c.loop-group.invariant.1 (turn c) c.requires

pub loop-group-preserved : goal.loop-group-preserved
loop-group-preserved c = (c.in-Some.ensures.steps.0 ∙ c.loop-group.invariant.0, left_next c.loop-group.invariant.1 (turn (goal.at.loop-group-preserved c).After-word_of) c.requires _ c.put.ensures)

pub returns : goal.returns
returns c = left_none c.loop-group.invariant.1 (words_end_lem _ 0 (let e = c.in-None.ensures.steps.1.0 in omega arith))
