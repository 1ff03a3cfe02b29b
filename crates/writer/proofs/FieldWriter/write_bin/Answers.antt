-- `writer::FieldWriter::write_bin` meets its contract. Assumes nothing.
use Rattle.channel.proofs.Codings.{Range, coded_bin}
use Rattle.channel.specs.Field.{bin_of, coded_as}
use mathlib.Core.Path.{◌≡◌, sym, ◌∙◌}
use Rattle.gains.specs.declared.Coding.{Coding}
use Rattle.writer.proofs.Turns.{puts_none}
use Rattle.writer.proofs.FieldWriter.write_bin.Goals as goal
use Rattle.writer.proofs.FieldWriter.write_bin.Goals.{After-coding_of}

-- the bin's hebap and format, by its coding
coded : (c : After-coding_of) (k : Coding) → c.coding_of.result ≡ k → let a = c.args in Range k a.hebap × (bin_of a.mode a.hebap a.gk ≡ coded_as k a.hebap a.gk)
coded c k e = let a = c.args in coded_bin a.mode a.hebap a.gk k c.requires.hebap_bound (sym c.coding_of.ensures ∙ e)

pub write_index-requires : goal.write_index-requires
write_index-requires c = let b = coded (goal.at.write_index-requires c).After-coding_of Coding.Book c.in-Book.is in
    record { le_hebap = b.0; room = rw b.1 at c.requires.room }

pub new-requires : goal.new-requires
new-requires c = ((coded (goal.at.new-requires c).After-coding_of Coding.Fixed c.in-Fixed.is).0, c.requires.hebap_bound)

pub write_six-requires : goal.write_six-requires
write_six-requires c =
    let n = c.new.ensures in
    rw (n.0, n.1) (rw (coded (goal.at.write_six-requires c).After-coding_of Coding.Fixed c.in-Fixed.is).1 at c.requires.room)

pub new-requires-in-Adaptive : goal.new-requires-in-Adaptive
new-requires-in-Adaptive c = ((coded (goal.at.new-requires-in-Adaptive c).After-coding_of Coding.Adaptive c.in-Adaptive.is).0, c.requires.hebap_bound)

pub write_six-requires-in-Adaptive : goal.write_six-requires-in-Adaptive
write_six-requires-in-Adaptive c =
    let n = c.new-in-Adaptive.ensures in
    rw (n.0, n.1) (rw (coded (goal.at.write_six-requires-in-Adaptive c).After-coding_of Coding.Adaptive c.in-Adaptive.is).1 at c.requires.room)

pub returns-in-Nothing : goal.returns-in-Nothing
returns-in-Nothing c = rw (coded (goal.at.returns-in-Nothing c).After-coding_of Coding.Nothing c.in-Nothing.is).1 (puts_none c.args.self.now)

pub returns-in-Book : goal.returns-in-Book
returns-in-Book c = rw (coded (goal.at.returns-in-Book c).After-coding_of Coding.Book c.in-Book.is).1 c.write_index.ensures

pub returns-in-Fixed : goal.returns-in-Fixed
returns-in-Fixed c =
    let n = c.new.ensures in
    rw (coded (goal.at.returns-in-Fixed c).After-coding_of Coding.Fixed c.in-Fixed.is).1 (rw (n.0, n.1) at c.write_six.ensures)

pub returns-in-Adaptive : goal.returns-in-Adaptive
returns-in-Adaptive c =
    let n = c.new-in-Adaptive.ensures in
    rw (coded (goal.at.returns-in-Adaptive c).After-coding_of Coding.Adaptive c.in-Adaptive.is).1 (rw (n.0, n.1) at c.write_six-in-Adaptive.ensures)
