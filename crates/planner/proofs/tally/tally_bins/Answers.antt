-- `planner::tally::tally_bins` meets its contract. Assumes nothing.
use Prim.Native.Nat.{◌<◌}
use mathlib.Core.Logic.{◌⊎◌, inl, inr}
use native.Mathlib.Omega.{arith}
use lib.ListN.{get_or}
use Rattle.planner.proofs.Codes.{plain_most}
use Rattle.planner.proofs.Tallies.{tallies_start, tally_few, tally_small, tally_plain, tally_next}
use Rattle.planner.proofs.tally.tally_bins.Goals as goal
use Rattle.planner.proofs.tally.tally_bins.Goals.{in-8-to-16, in_default, in_default-via-then-hebap-lt8, in_default-via-else-hebap-lt8+else-hebap-lt17}

pub loop-bin-init : goal.loop-bin-init
loop-bin-init c = tallies_start c.args.v.bins.row.now c.args.v.x.now c.args.v.bins.start c.args.tallies.now c.requires

pub tally_bin-requires : goal.tally_bin-requires
tally_bin-requires c m l = tally_small c.args.v.bins.row.now c.args.v.x.now c.args.v.bins.start c.loop-bin.bin c.loop-bin.plain m _ (c.loop-bin.invariant m l) (omega arith)

pub overflow_add-plain : goal.overflow_add-plain
overflow_add-plain c = let a = c.args in
    let f = (tally_few a.v.bins.row.now a.v.x.now a.v.bins.start c.loop-bin.bin c.loop-bin.plain 0 _ (c.loop-bin.invariant 0 (omega arith)) (omega arith)).0 in
    omega (arith, f, c.plain_bits-plain.ensures, plain_most (get_or a.v.bins.row.now c.loop-bin.bin 0))

pub loop-bin-preserved : goal.loop-bin-preserved
loop-bin-preserved c = let a = c.args in
    let k = c.loop-bin in
    elim c.if-hebap-lt8.branch [
      | in-8-to-16 w ↦ rw (w.tallies-is, w.plain-is) (λ m l. tally_next a.v.bins.row.now a.v.x.now a.v.bins.start k.bin k.plain m _ (k.invariant m l) k.auto.bin (omega arith) (omega arith) w.gain_costs-c.result (rw w.six.ensures at w.gain_costs-c.ensures) _ (w.tally_bin.ensures m l))
      | in_default w ↦
          let out : (get_or a.v.bins.row.now k.bin 0 < 8) ⊎ (16 < get_or a.v.bins.row.now k.bin 0) = elim w.in_default.branch [ in_default-via-then-hebap-lt8 w' ↦ inl (omega arith) | in_default-via-else-hebap-lt8+else-hebap-lt17 w' ↦ inr (omega arith) ] in
          rw (w.tallies-is, w.plain-is) (λ m l. tally_plain a.v.bins.row.now a.v.x.now a.v.bins.start k.bin k.plain m _ (k.invariant m l) k.auto.bin w.plain_bits-plain.result (omega arith) out w.plain_bits-plain.ensures)
    ]
