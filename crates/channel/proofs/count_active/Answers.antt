-- `channel::count_active` meets its contract. Assumes nothing.
use Rattle.channel.specs.Row.{active_count, active_at}
use Rattle.channel.proofs.Over.{sum_more, get_or-within}
use Rattle.channel.proofs.count_active.Goals as goal

pub loop-hebap-preserved : goal.loop-hebap-preserved
unfolding active_count active_at
loop-hebap-preserved c = let s = c.args in
    rw (c.gains_used-n.ensures, get_or-within s.row.now s.start s.end c.loop-hebap.hebap-index 0 c.loop-hebap-test.true)
    (sum_more (active_at s.mode s.row.now) s.start c.loop-hebap.hebap-index c.loop-hebap.n c.loop-hebap.invariant)
