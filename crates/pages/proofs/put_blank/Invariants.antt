-- `pages::put_blank` meets its contract. Assumes nothing.
use mathlib.Core.Path.{◌≡◌}
use lib.ListN.{length}
use Rattle.bits.specs.Bits.{splice}
use Rattle.pages.specs.Work.{blank_lines}
use Rattle.pages.proofs.put_blank.Given as goal

abbrev pub invariant-loop-line : goal.invariant-loop-line
invariant-loop-line l = (length l.out ≡ length l.initial.out) × (l.out ≡ splice l.initial.out 0 (blank_lines l.line))
