-- `desktext::numbers::digits` meets its contract. Assumes nothing.
use Prim.Native.Nat.{◌≤◌}
use mathlib.Core.Path.{◌≡◌}
use lib.ListN.{drop}
use Rattle.desktext.specs.Spelling.{largest}
use Rattle.desktext.specs.Text.{digits}
use Rattle.desktext.proofs.numbers.digits.Given as goal

abbrev pub invariant-loop-n : goal.invariant-loop-n
invariant-loop-n l = (l.value ≤ largest) × (digits l.v l.text ≡ digits l.value (drop l.n l.text))
