-- `channel::count_active` meets its contract. Assumes nothing.
use Prim.Native.Nat.{◌+◌}
use mathlib.Core.Path.{◌≡◌}
use Rattle.channel.specs.Row.{active_count}
use Rattle.channel.proofs.count_active.Given as goal

abbrev pub invariant-loop-hebap : goal.invariant-loop-hebap
invariant-loop-hebap l = l.n ≡ active_count l.mode l.row l.start (l.start + l.hebap-index)
