-- `reader::whole_field::read_behind` meets its contract. Assumes nothing.
use mathlib.Core.Path.{◌≡◌}
use mathlib.Core.List.{◌++◌}
use native.Mathlib.Omega.{arith}
use lib.ListN.{length, take, drop}
use lib.Seq.{length-take-le}
use Rattle.answers.proofs.Numbers.{passed_on}
use Rattle.channel.proofs.Rows.{count_most}
use Rattle.reader.proofs.Whole.{GainsRead, gains_stop, gains_read, bins_stop, bins_read_lem}
use Rattle.reader.proofs.whole_field.read_behind.Goals as goal
use Rattle.reader.proofs.whole_field.read_behind.Goals.{After-count_active-count, In_ok-read_gains}

-- there is a place for each gain
long : (c : After-count_active-count) → length (take c.count_active-count.result c.args.gains.now) ≡ c.count_active-count.result
long c = let a = c.args in
    let few = a.bins.few in
    length-take-le _ _ (omega (arith, c.count_active-count.ensures, count_most a.mode a.bins.row.now a.bins.start a.bins.end))

-- what the read gains say of the output that holds them
gains : (c : In_ok-read_gains) → let a = c.args in let n = c.count_active-count.result in
    GainsRead a.mode a.bins.row.now a.bins.start a.bins.end a.reader.now n c.read_gains.new.reader a.gains.now (c.read_gains.new.gains ++ drop n a.gains.now)
gains c = let a = c.args in
    gains_read a.mode a.bins.row.now a.bins.start a.bins.end a.reader.now c.count_active-count.result c.count_active-count.ensures c.read_gains.new.reader _ c.read_gains.new.gains
    (long (goal.at.In_ok-read_gains c).After-count_active-count) c.requires a.gains.now c.in_ok-read_gains.ensures

pub returns-in_err-read_gains : goal.returns-in_err-read_gains
returns-in_err-read_gains c = let a = c.args in
    rw (passed_on c.from_residual.ensures)
    (gains_stop a.mode a.bins.row.now a.bins.start a.bins.end a.reader.now c.count_active-count.result c.count_active-count.ensures c.read_gains.new.reader _ _
    (long (goal.at.returns-in_err-read_gains c).After-count_active-count) _ _ _ _ _ c.in_err-read_gains.ensures)

pub returns-in_err-read_bins : goal.returns-in_err-read_bins
returns-in_err-read_bins c = rw (passed_on c.from_residual-in_err-read_bins.ensures) (bins_stop (gains (goal.at.returns-in_err-read_bins c).In_ok-read_gains) _ _ _ _ c.in_err-read_bins.ensures)

pub returns : goal.returns
returns c = bins_read_lem (gains (goal.at.returns c).In_ok-read_gains) _ _ _ c.in_ok-read_bins.ensures
