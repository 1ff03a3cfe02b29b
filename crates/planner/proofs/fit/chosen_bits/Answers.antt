-- `planner::fit::chosen_bits` meets its contract. Assumes nothing.
use Prim.Native.Nat.{◌+◌}
use mathlib.Core.Path.{◌≡◌, refl, sym}
use lib.ListN.{get_or}
use native.Mathlib.Nat.{le_refl}
use native.Mathlib.Omega.{arith}
use Rattle.gains.specs.Gains.{active}
use Rattle.channel.specs.Bins.{sum_over}
use Rattle.channel.proofs.Over.{one_small, sum_none, sum_turn}
use Rattle.channel.proofs.Rows.{count_most, count_start, rank_turn}
use Rattle.planner.specs.Choice.{chosen_at}
use Rattle.planner.proofs.Chosen.{chosen_is, chosen_most}
use Rattle.planner.proofs.fit.chosen_bits.Goals as goal
use Rattle.planner.proofs.fit.chosen_bits.Goals.{After-bin_bits-bits}

-- the bits with one bin more
next : (c : After-bin_bits-bits) → let s = c.args in
    c.loop-bin.bits + c.bin_bits-bits.result ≡ sum_over (chosen_at s.mode s.gains.now s.v.bins.row.now s.v.x.now s.v.bins.start) s.v.bins.start (c.loop-bin.bin + 1)
next c =
    let s = c.args in
    let v = c.loop-bin.invariant in
    sum_turn (chosen_at s.mode s.gains.now s.v.bins.row.now s.v.x.now s.v.bins.start) s.v.bins.start c.loop-bin.bin c.loop-bin.bits c.bin_bits-bits.result c.loop-bin.auto.bin v.1
    (chosen_is s.mode s.gains.now s.v.bins.row.now s.v.x.now s.v.bins.start c.loop-bin.bin c.loop-bin.n c.gain_at.result c.bin_bits-bits.result v.0 c.gain_at.ensures (rw c.six.ensures at c.bin_bits-bits.ensures))

pub loop-bin-init : goal.loop-bin-init
loop-bin-init c = let a = c.args in (sym (count_start a.mode a.v.bins.row.now a.v.bins.start), sym (sum_none (chosen_at a.mode a.gains.now a.v.bins.row.now a.v.x.now a.v.bins.start) a.v.bins.start a.v.bins.start (le_refl a.v.bins.start)))

pub overflow_add-bits : goal.overflow_add-bits
overflow_add-bits c = let s = c.args in omega (arith, next c, chosen_most s.mode s.gains.now s.v.bins.row.now s.v.x.now s.v.bins.start (c.loop-bin.bin + 1))

pub overflow_add-n : goal.overflow_add-n
overflow_add-n c = let s = c.args in omega (arith, count_most s.mode s.v.bins.row.now s.v.bins.start c.loop-bin.bin, c.gains_used-n.ensures, one_small (active s.mode (get_or s.v.bins.row.now c.loop-bin.bin 0)))

pub loop-bin-preserved : goal.loop-bin-preserved
loop-bin-preserved c = let s = c.args in
    (rank_turn s.mode s.v.bins.row.now s.v.bins.start c.loop-bin.bin c.loop-bin.n c.gains_used-n.result (active s.mode (get_or s.v.bins.row.now c.loop-bin.bin 0)) c.loop-bin.auto.bin c.loop-bin.invariant.0 refl c.gains_used-n.ensures, next (goal.at.loop-bin-preserved c).After-bin_bits-bits)
