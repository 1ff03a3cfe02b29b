-- `writer::FieldWriter::write_bins` meets its contract. Assumes nothing.
use native.Mathlib.Omega.{arith}
use Prim.Native.Nat.{◌+◌}
use mathlib.Core.Path.{refl, sym, ap, ◌∙◌}
use mathlib.Core.List.{◌++◌}
use lib.ListN.{get_or}
use Rattle.gains.specs.Gains.{active}
use Rattle.channel.specs.Row.{six_of}
use Rattle.channel.specs.Field.{bin_of}
use Rattle.channel.proofs.Over.{one_small}
use Rattle.channel.proofs.Rows.{known_hebap, rank_turn, count_most, count_start, bin_is}
use Rattle.writer.specs.Work.{bin_enc, bins_enc}
use Rattle.writer.proofs.Turns.{Next, left_all, left_room, left_next, left_none}
use Rattle.writer.proofs.Words.{bins_next, bins_end}
use Rattle.writer.proofs.FieldWriter.write_bins.Goals as goal
use Rattle.writer.proofs.FieldWriter.write_bins.Goals.{After-gain_at}

pub loop-bin-init : goal.loop-bin-init
loop-bin-init c = let a = c.args in (sym (count_start a.mode a.v.bins.row.now a.v.bins.start), left_all a.self.now _)

-- the bits of the bin and of those behind it
turn : (c : After-gain_at)
    → let a = c.args in
    let k = c.loop-bin.bin in
    Next (bins_enc a.mode a.gains.now a.v.bins a.v.x.now k)
    (bin_enc (bin_of a.mode (get_or a.v.bins.row.now k 0) c.gain_at.result) (six_of a.v.x.now k)) (bins_enc a.mode a.gains.now a.v.bins a.v.x.now (k + 1))
turn c =
    let a = c.args in
    let b = a.v.bins in
    let k = c.loop-bin.bin in
    let g = a.gains.now in
    record {
      is =
          bins_next a.mode g b a.v.x.now k (omega arith)
          ∙ ap (λ i. bin_enc i (six_of a.v.x.now k) ++ bins_enc a.mode g b a.v.x.now (k + 1))
          (sym (bin_is a.mode g b.row.now b.start k c.loop-bin.n (get_or b.row.now k 0) c.gain_at.result refl c.loop-bin.invariant.0 c.gain_at.ensures));
    }

pub write_bin-requires-clause-hebap_bound : goal.write_bin-requires-clause-hebap_bound
write_bin-requires-clause-hebap_bound c = let b = c.args.v.bins in
    rw c.hebap-hebap.ensures (known_hebap b.row.now b.start b.end c.loop-bin.bin b.known c.loop-bin.auto.bin c.loop-bin-test.true)

pub write_bin-requires-clause-room : goal.write_bin-requires-clause-room
write_bin-requires-clause-room c =
    rw (c.hebap-hebap.ensures, c.six.ensures) (left_room c.loop-bin.invariant.1 (turn (goal.at.write_bin-requires-clause-room c).After-gain_at) c.requires)

pub overflow_add-n : goal.overflow_add-n
overflow_add-n c = let a = c.args in omega (arith, count_most a.mode a.v.bins.row.now a.v.bins.start c.loop-bin.bin, c.gains_used-n.ensures, one_small (active a.mode c.hebap-hebap.result))

pub loop-bin-preserved : goal.loop-bin-preserved
loop-bin-preserved c = let a = c.args in let b = a.v.bins in let k = c.loop-bin.bin in (
  rank_turn a.mode b.row.now b.start k c.loop-bin.n c.gains_used-n.result (active a.mode (get_or b.row.now k 0)) c.loop-bin.auto.bin c.loop-bin.invariant.0 refl (rw c.hebap-hebap.ensures at c.gains_used-n.ensures),
  left_next c.loop-bin.invariant.1 (turn (goal.at.loop-bin-preserved c).After-gain_at) c.requires _ (rw (c.hebap-hebap.ensures, c.six.ensures) at c.write_bin.ensures),
)

pub returns : goal.returns
returns c = let a = c.args in
    left_none c.loop-bin.invariant.1 (bins_end a.mode a.gains.now a.v.bins a.v.x.now c.loop-bin.bin (omega arith))
