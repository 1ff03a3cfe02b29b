use Rattle.std.proofs.Common.{◌≡◌, length, Bor, List, ℕ}
use Rattle.records.specs.Records.{IsReplayed}
use Rattle.records.proofs.replay_from.Given as goal

abbrev pub invariant-loop : goal.invariant-loop
invariant-loop g l =
    IsReplayed (λ bytes ok. (x : Bor (List ℕ)) × (x.now ≡ bytes) × g.F.Fn.post l.fn.right (x, tt) ok) (length l.fn.r)
    (g.R.Read.remaining l.fn.reader) (g.R.Read.remaining l.reader) l.c
