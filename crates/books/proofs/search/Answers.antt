-- `books::search` meets its contract. Assumes nothing.
use Prim.Native.Nat.{ℕ, ◌+◌, ◌<◌}
use mathlib.Core.Path.{◌∙◌, sym, ap, refl}
use mathlib.Core.Bool.{false}
use native.Mathlib.Nat.{sub-zero}
use native.Mathlib.Omega.{arith}
use lib.Ieee.{inf, of_bits}
use Rattle.books.specs.Books.{search_from}
use Rattle.books.specs.Fractions.{floats}
use Rattle.books.specs.Work.{distance_in}
use Rattle.books.proofs.Laws.{HasBook, book_of}
use Rattle.books.proofs.Columns.{searched}
use Rattle.books.proofs.Steps.{on_from, by_end, four_on_lem, by_four, by_four_farther}
use Rattle.books.proofs.search.Goals as goal
use Rattle.books.proofs.search.Goals.{After-of-book, then-any_less, else-any_less}

-- the hebap has a book
there : (c : After-of-book) → HasBook c.args.hebap c.of-book.result.count
there c = book_of c.args.hebap c.of-book.result.count c.requires.0 c.requires.1 c.of-book.ensures.count

pub loop-k-init : goal.loop-k-init
unfolding of_bits
loop-k-init c =
    let n = c.of-book.result.count in
    let f = distance_in c.args.x.now (floats c.of-book.result.columns.now) n in (
      omega arith,
      refl,
      (there (goal.at.loop-k-init c).After-of-book).fours,
      ap (λ (m : ℕ). search_from f m 0 0 (inf false)) (sub-zero n),
    )

pub loop-k-preserved : goal.loop-k-preserved
loop-k-preserved c =
    let n = c.of-book.result.count in
    let f = distance_in c.args.x.now (floats c.of-book.result.columns.now) n in
    let i = c.loop-k.invariant in
    let k = c.loop-k.k in
    let s = c.loop-k.s in
    let h : k + 3 < n = omega arith in
    let da = c.distance-a in
    let db = c.distance-b in
    let dc = c.distance-c in
    let dd = c.distance-d in
    let on = by_four f n k s da.result db.result dc.result dd.result h da.ensures db.ensures dc.ensures dd.ensures in
    let off = by_four_farther f n k s da.result db.result dc.result dd.result h da.ensures db.ensures dc.ensures dd.ensures in (
      omega arith,
      omega arith,
      i.2,
      elim c.if-any_less.branch [
        | then-any_less w ↦ ap (on_from f n (k + 4)) (w.s-is ∙ four_on_lem s da.result db.result dc.result dd.result k _ _ _ _ w.nearer.ensures w.nearer-then-any_less.ensures w.nearer-then-any_less-2.ensures w.nearer-s.ensures) ∙ sym on ∙ i.3
        | else-any_less w ↦ ap (on_from f n (k + 4)) w.s-is ∙ sym (off (sym c.any_less.ensures ∙ w.if-any_less.false)) ∙ i.3
      ],
    )

pub returns : goal.returns
returns c =
    let n = c.of-book.result.count in
    let t = c.of-book.result.columns.now in
    let x = c.args.x.now in
    let e = sym (by_end (distance_in x (floats t) n) n c.loop-k.k c.loop-k.s c.loop-k-test.false) ∙ c.loop-k.invariant.3 in
    searched c.args.hebap n t x _ c.of-book.ensures.count (there (goal.at.returns c).After-of-book) c.of-book.ensures.columns e
