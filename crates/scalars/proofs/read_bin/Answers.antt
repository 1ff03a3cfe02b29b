-- `scalars::read_bin` meets its contract. Assumes nothing.
use mathlib.Core.Path.{refl}
use Rattle.bits.specs.Takes.{ahead}
use Rattle.scalars.proofs.Laws.{bin_none, bin_values_lem}
use Rattle.scalars.proofs.read_bin.Goals as goal

pub returns-then-hebap-lt8 : goal.returns-then-hebap-lt8
returns-then-hebap-lt8 c = let a = c.args in
    rw (bin_none a.hebap a.gk (ahead a.reader.now) c.if-hebap-lt8.true) record { reads = record { is = refl; took = (refl, refl, tt) }; out_after = refl }

pub returns : goal.returns
returns c = let a = c.args in rw (bin_values_lem a.hebap a.gk (ahead a.reader.now) c.if-hebap-lt8.false) c.read_values.ensures
