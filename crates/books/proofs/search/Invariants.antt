-- `books::search` meets its contract. Assumes nothing.
use Prim.Native.Nat.{◌-◌, ◌%◌, ◌≤◌}
use mathlib.Core.Path.{◌≡◌}
use mathlib.Core.Bool.{false}
use lib.Ieee.{inf}
use Rattle.books.specs.Books.{search_from}
use Rattle.books.specs.Fractions.{floats}
use Rattle.books.specs.Work.{distance_in}
use Rattle.books.proofs.Steps.{on_from}
use Rattle.books.proofs.search.Given as goal

abbrev pub invariant-loop-k : goal.invariant-loop-k
invariant-loop-k l = let f = distance_in l.x (floats l.book.columns.now) l.book.count in
    (l.k ≤ l.book.count) × (l.k % 4 ≡ 0) × (l.book.count % 4 ≡ 0) × (on_from f l.book.count l.k l.s ≡ search_from f l.book.count 0 0 (inf false))

abbrev pub decreases-loop-k : goal.decreases-loop-k
decreases-loop-k l = l.book.count - l.k
