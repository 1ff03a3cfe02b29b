-- `pages::put_gain` meets its contract. Assumes nothing.
use Rattle.pages.proofs.Cells.{gain_dash, gain_shown}
use Rattle.pages.proofs.put_gain.Goals as goal

pub returns-then-gk-eq0 : goal.returns-then-gk-eq0
returns-then-gk-eq0 c = let a = c.args in gain_dash a.gk a.out.now c.requires c.if-gk-eq0.true

pub returns : goal.returns
returns c = gain_shown c.args.gk c.put_part.new.out c.if-gk-eq0.false (rw (c.from.ensures, c.requires) at c.put_part.ensures)
