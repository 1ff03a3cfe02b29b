-- `books::vq_search` meets its contract. Assumes nothing.
use mathlib.Core.Path.{sym, ap, ◌∙◌}
use Rattle.std.specs.Prelude.{Ok}
use Rattle.books.specs.Books.{vq_search_up_to}
use Rattle.books.proofs.Laws.{HasBook, no_book, has_book_lem}
use Rattle.books.proofs.vq_search.Goals as goal

pub returns-then-vectors_in-eq0 : goal.returns-then-vectors_in-eq0
unfolding vq_search_up_to
returns-then-vectors_in-eq0 c = rw (no_book c.args.hebap c.vectors_in.result c.vectors_in.ensures c.if-vectors_in-eq0.true)

pub returns-then-any_too_large : goal.returns-then-any_too_large
unfolding vq_search_up_to
returns-then-any_too_large c = let there : (HasBook c.args.hebap c.vectors_in.result) = (has_book_lem c.args.hebap c.vectors_in.result c.vectors_in.ensures c.if-vectors_in-eq0.false) in
    let k = there in rw (k.it_has, sym c.any_too_large.ensures ∙ c.if-any_too_large.true)

pub returns : goal.returns
unfolding vq_search_up_to
returns c = let there : (HasBook c.args.hebap c.vectors_in.result) = (has_book_lem c.args.hebap c.vectors_in.result c.vectors_in.ensures c.if-vectors_in-eq0.false) in
    let k = there in
    rw (k.it_has, sym c.any_too_large.ensures ∙ c.if-any_too_large.false) (ap Ok c.search.ensures)

pub search-requires : goal.search-requires
search-requires c = let there : (HasBook c.args.hebap c.vectors_in.result) = (has_book_lem c.args.hebap c.vectors_in.result c.vectors_in.ensures c.if-vectors_in-eq0.false) in
    let k = there in (k.low, k.high)
