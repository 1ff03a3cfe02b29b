-- `planner::plan_fits` meets its contract. Assumes nothing.
use Prim.Native.Nat.{◌≤◌}
use mathlib.Core.Path.{sym, ◌∙◌}
use native.Mathlib.Nat.{le_trans, le_of_eq}
use Rattle.channel.proofs.Rows.{count_most}
use Rattle.planner.proofs.Steps.{word_small, fits_sum}
use Rattle.planner.proofs.Chosen.{fits_parts, fits_not, fits_payload, chosen_most}
use native.Mathlib.Omega.{arith}
use Rattle.planner.proofs.plan_fits.Goals as goal
use Rattle.planner.proofs.plan_fits.Goals.{After-gains-3-1}

-- no more gains than there are places
few : (c : After-gains-3-1) → c.args.p.count ≤ 256
few c =
    let a = c.args in
    let e = (fits_parts a.p.mode a.p.gains a.p.count a.v.bins.row.now a.v.bins.start a.v.bins.end (sym c.choice_fits.ensures ∙ c.if-not-choice_fits.false)).1 in
    le_trans (le_trans (le_of_eq e) (count_most a.p.mode a.v.bins.row.now a.v.bins.start a.v.bins.end)) c.args.v.bins.few

pub returns-then-not-choice_fits : goal.returns-then-not-choice_fits
returns-then-not-choice_fits c = let a = c.args in fits_not a.p a.v.bins.row.now a.v.bins.start a.v.bins.end a.v.x.now c.choice_fits.result c.choice_fits.ensures c.if-not-choice_fits.true

pub overflow_cast-count : goal.overflow_cast-count
overflow_cast-count c = let f = few (goal.at.overflow_cast-count c).After-gains-3-1 in omega arith

pub gain_word_bits-requires : goal.gain_word_bits-requires
gain_word_bits-requires c = let f = few (goal.at.gain_word_bits-requires c).After-gains-3-1 in omega arith

pub overflow_add-result : goal.overflow_add-result
overflow_add-result c = let a = c.args in
    let f = few (goal.at.overflow_add-result c).After-gains-3-1 in
    record {
      fits = fits_sum (le_trans (le_of_eq c.chosen_bits.ensures) (chosen_most a.p.mode a.p.gains a.v.bins.row.now a.v.x.now a.v.bins.start a.v.bins.end c.args.v.bins.few))
          (le_trans (le_of_eq c.gain_word_bits.ensures) (word_small a.p.mode a.p.count (le_trans f (omega arith))));
    }

pub returns : goal.returns
returns c = let a = c.args in
    fits_payload a.p a.v.bins.row.now a.v.bins.start a.v.bins.end a.v.x.now c.choice_fits.result c.choice_fits.ensures c.chosen_bits.result c.gain_word_bits.result c.if-not-choice_fits.false c.chosen_bits.ensures c.gain_word_bits.ensures
