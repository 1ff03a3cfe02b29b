-- `desktext::channels::put_vectors` meets its contract. Assumes nothing.
use mathlib.Core.Path.{◌≡◌}
use mathlib.Core.List.{map}
use lib.ListN.{length, take}
use Rattle.bits.specs.Bits.{splice}
use Rattle.desktext.specs.Printed.{component_of}
use Rattle.desktext.specs.Work.{numbers_of, vector_numbers}
use Rattle.desktext.proofs.channels.put_vectors.Given as goal

abbrev pub invariant-loop-i : goal.invariant-loop-i
invariant-loop-i l = (length l.vectors ≡ length l.initial.vectors) × (l.vectors ≡ splice l.initial.vectors 0 (map component_of (take l.i (vector_numbers l.n (numbers_of l.tokens)))))
