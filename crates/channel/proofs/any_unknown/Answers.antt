-- `channel::any_unknown` meets its contract. Assumes nothing.
use Rattle.channel.specs.Row.{unknown_at}
use Rattle.channel.proofs.Over.{some_more, get_or-within}
use Rattle.channel.proofs.any_unknown.Goals as goal

pub loop-hebap-preserved : goal.loop-hebap-preserved
unfolding unknown_at
loop-hebap-preserved c = let s = c.args in
    rw (get_or-within s.row.now s.start s.end c.loop-hebap.hebap-index 0 c.loop-hebap-test.true)
    (some_more (unknown_at s.row.now) s.start c.loop-hebap.hebap-index c.loop-hebap.found c.loop-hebap.invariant)
