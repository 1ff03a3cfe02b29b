-- `planner::plan_bins` meets its contract. Assumes nothing.
use Prim.Native.Nat.{◌≤◌}
use mathlib.Core.Path.{refl}
use native.Mathlib.Omega.{arith}
use Rattle.planner.specs.Work.{AllFew}
use Rattle.planner.proofs.Tallies.{all_few}
use Rattle.planner.proofs.Answer.{mode_most, plan_is}
use Rattle.planner.proofs.plan_bins.Goals as goal
use Rattle.planner.proofs.plan_bins.Goals.{After-tally_bins-plain, After-best_mode-mode}

-- no mode has many bits or gains
few : (c : After-tally_bins-plain) → AllFew c.tally_bins-plain.result c.tally_bins-plain.new.tallies
few c = let t = c.tally_bins-plain in all_few c.args.v.bins.row.now c.args.v.x.now c.args.v.bins.start c.args.v.bins.end t.result t.new.tallies t.ensures c.args.v.bins.few

-- the mode is one of the four
most : (c : After-best_mode-mode) → c.best_mode-mode.result ≤ 3
most c = let a = c.args in let t = c.tally_bins-plain in mode_most a.v.bins.row.now a.v.x.now a.v.bins.start a.v.bins.end t.result t.new.tallies t.ensures c.best_mode-mode.result c.best_mode-mode.ensures

pub best_mode-mode-requires : goal.best_mode-mode-requires
best_mode-mode-requires c = few (goal.at.best_mode-mode-requires c).After-tally_bins-plain

pub bounds-tallies-mode : goal.bounds-tallies-mode
bounds-tallies-mode c = omega (arith, most (goal.at.bounds-tallies-mode c).After-best_mode-mode)

pub payload-payload-requires : goal.payload-payload-requires
payload-payload-requires c = let at = goal.at.payload-payload-requires c in few at.After-tally_bins-plain c.best_mode-mode.result (most at.After-best_mode-mode)

pub returns : goal.returns
returns c =
    let a = c.args in
    let t = c.tally_bins-plain in
    plan_is a.v.bins.row.now a.v.x.now a.v.bins.start a.v.bins.end t.result t.new.tallies t.ensures c.best_mode-mode.result c.best_mode-mode.ensures _ c.payload-payload.result refl c.payload-payload.ensures
