-- `desktext::channels::are_vectors` meets its contract. Assumes nothing.
use Prim.Native.Nat.{◌+◌, ◌-◌, ◌*◌}
use mathlib.Core.Path.{◌≡◌}
use lib.ListN.{length, drop}
use Rattle.desktext.specs.Channel.{lead, vectors}
use Rattle.desktext.specs.Work.{numbers_of, vector_numbers}
use Rattle.desktext.proofs.channels.are_vectors.Given as goal

abbrev pub invariant-loop : goal.invariant-loop
invariant-loop l =
    let ts = numbers_of l.tokens in
    let rest = numbers_of l.rest in
    (vectors l.n ts ≡ lead (vector_numbers l.counter ts) (vectors (l.n - l.counter) rest)) × (drop (8 * l.counter) ts ≡ rest) × (8 * l.counter + length rest ≡ length ts)
