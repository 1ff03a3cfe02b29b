-- `planner::choice_fits` meets its contract. Assumes nothing.
use Rattle.planner.proofs.Chosen.{fits_mode, fits_count, fits_gains}
use Rattle.planner.proofs.choice_fits.Goals as goal

pub returns-then-mode-gt3 : goal.returns-then-mode-gt3
returns-then-mode-gt3 c = let a = c.args in fits_mode a.mode a.gains.now a.count a.bins.row.now a.bins.start a.bins.end c.if-mode-gt3.true

pub returns-then-count-count_active : goal.returns-then-count-count_active
returns-then-count-count_active c = let a = c.args in fits_count a.mode a.gains.now a.count a.bins.row.now a.bins.start a.bins.end c.if-mode-gt3.false c.count_active.result c.count_active.ensures c.if-count-count_active.true

pub returns : goal.returns
returns c = let a = c.args in fits_gains a.mode a.gains.now a.count a.bins.row.now a.bins.start a.bins.end c.if-mode-gt3.false c.count_active.result c.count_active.ensures c.any_wrong.result c.if-count-count_active.false c.any_wrong.ensures
