-- `reader::whole_field::read_bins` meets its contract. The invariant is Bins.SoFar, what was read. Assumes nothing.
use mathlib.Core.Path.{refl, sym, ap, ◌∙◌}
use native.Mathlib.Omega.{arith}
use borrow.Author.Rules.{rules}
use Rattle.answers.proofs.Numbers.{passed_on}
use Rattle.bits.specs.Takes.{ahead}
use Rattle.bits.proofs.Taking.{got_to}
use Rattle.gains.specs.Gains.{active}
use Rattle.channel.proofs.Over.{one_small}
use Rattle.channel.proofs.Rows.{known_hebap, rank_turn, count_start, count_most}
use Rattle.reader.proofs.Bins.{none_yet, one_more_lem, cut, done}
use Rattle.reader.proofs.whole_field.read_bins.Goals as goal

pub loop-bin-init : goal.loop-bin-init
loop-bin-init c = let a = c.args in let b = a.bins in
    (none_yet a.mode b.row.now a.gains.now b.start b.end (ahead a.reader.now) a.scratch.now, sym (count_start a.mode b.row.now b.start), refl)

pub read_bin-requires-clause-hebap_bound : goal.read_bin-requires-clause-hebap_bound
read_bin-requires-clause-hebap_bound c =
    let b = c.args.bins in
    rw c.hebap-hebap.ensures (known_hebap b.row.now b.start b.end c.loop-bin.bin b.known c.loop-bin.auto.bin c.loop-bin-test.true)

pub overflow_add-n : goal.overflow_add-n
overflow_add-n c =
    let a = c.args in
    let few = a.bins.few in
    omega (arith, count_most a.mode a.bins.row.now a.bins.start c.loop-bin.bin, c.gains_used-n.ensures, one_small (active a.mode c.hebap-hebap.result))

pub returns-in_err-read_bin : goal.returns-in_err-read_bin
returns-in_err-read_bin c =
    rw (passed_on c.from_residual.ensures)
    (cut c.loop-bin.invariant.0 c.loop-bin.n _ _ (omega arith) c.hebap-hebap.ensures c.loop-bin.invariant.1 c.gain_at-gk.ensures _ _ _ _ _ _ c.in_err-read_bin.ensures)

pub loop-bin-preserved : goal.loop-bin-preserved
loop-bin-preserved c =
    let a = c.args in
    let b = a.bins in
    let h = c.hebap-hebap in
    let t = c.in_ok-read_bin.ensures in (
      one_more_lem c.loop-bin.invariant.0 c.loop-bin.n _ _ (omega arith) h.ensures c.loop-bin.invariant.1 c.gain_at-gk.ensures _ _ _ (search rules) b.few t,
      rank_turn a.mode b.row.now b.start c.loop-bin.bin c.loop-bin.n c.gains_used-n.result (active a.mode h.result) c.loop-bin.auto.bin c.loop-bin.invariant.1 (ap (active a.mode) h.ensures) c.gains_used-n.ensures,
      (got_to _ _ _ _ _ _ t).same ∙ c.loop-bin.invariant.2,
    )

pub returns : goal.returns
returns c = done c.loop-bin.invariant.0 (omega arith) _ _ c.loop-bin.invariant.2 refl
