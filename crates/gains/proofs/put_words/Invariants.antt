-- `gains::put_words` meets its contract. Assumes nothing.
use Prim.Native.Nat.{◌+◌, ◌*◌}
use mathlib.Core.Path.{◌≡◌}
use lib.ListN.{drop}
use Rattle.bits.specs.Bits.{bits_of, bit_at}
use Rattle.gains.specs.Gains.{word_bits, codes_from}
use Rattle.gains.proofs.Laws.{Filled}
use Rattle.gains.proofs.put_words.Given as goal

abbrev pub invariant-loop : goal.invariant-loop
invariant-loop l = (bit_at l.p ≡ bit_at l.initial.p + word_bits l.gaqmod * l.counter) × Filled l.initial.out 0 (codes_from l.gaqmod l.counter (drop (bit_at l.initial.p) (bits_of l.src))) l.out l.k
