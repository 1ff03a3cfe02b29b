-- `reader::scratch::put_vector_row` meets its contract. Assumes nothing.
use mathlib.Core.Path.{sym, ◌∙◌}
use borrow.Author.Rules.{rules}
use Rattle.bits.proofs.Copying.{splice_whole}
use Rattle.books.specs.Books.{vq_lookup, vq_exact}
use Rattle.channel.proofs.Shown.{lookup_long, vector_long}
use Rattle.reader.proofs.scratch.put_vector_row.Goals as goal

pub returns-clause-values_after : goal.returns-clause-values_after
returns-clause-values_after c = let a = c.args in
    c.put_vector.ensures.values_after ∙ splice_whole a.values.now (vq_lookup a.hebap a.index) (search rules ∙ sym (lookup_long a.hebap a.index))

pub returns-clause-exact_after : goal.returns-clause-exact_after
returns-clause-exact_after c = let a = c.args in
    c.put_vector.ensures.exact_after ∙ splice_whole a.exact.now (vq_exact a.hebap a.index) (search rules ∙ sym (vector_long a.hebap a.index))
