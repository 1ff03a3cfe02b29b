-- `channel::any_unknown` meets its contract. Assumes nothing.
use Prim.Native.Nat.{◌+◌}
use mathlib.Core.Path.{◌≡◌}
use Rattle.channel.specs.Bins.{some_over}
use Rattle.channel.specs.Row.{unknown_at}
use Rattle.channel.proofs.any_unknown.Given as goal

abbrev pub invariant-loop-hebap : goal.invariant-loop-hebap
invariant-loop-hebap l = l.found ≡ some_over (unknown_at l.row) l.start (l.start + l.hebap-index)
