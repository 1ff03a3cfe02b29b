-- `desktext::channels::put_row` meets its contract. Assumes nothing.
use Prim.Native.Nat.{◌-◌}
use mathlib.Core.Path.{◌≡◌}
use mathlib.Core.List.{map}
use lib.ListN.{length, take}
use Rattle.bits.specs.Bits.{splice}
use Rattle.desktext.specs.Spelling.{largest}
use Rattle.desktext.specs.Work.{number_of}
use Rattle.desktext.proofs.channels.put_row.Given as goal

abbrev pub invariant-loop-i : goal.invariant-loop-i
invariant-loop-i l = (length l.row ≡ length l.initial.row) × (l.row ≡ splice l.initial.row 0 (map (λ t. number_of t - largest) (take l.i l.numbers)))
