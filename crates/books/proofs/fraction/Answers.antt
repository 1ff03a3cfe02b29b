-- `books::fraction` meets its contract. Assumes nothing.
use mathlib.Core.Path.{◌∙◌, ap}
use borrow.Author.Rules.{rules}
use lib.IntN.{pos}
use lib.ListN.{get_or}
use mir.Syntax.{w16}
use mir.ValLaws.{to_z-of_z}
use Rattle.levels.specs.Value.{q15}
use Rattle.books.proofs.fraction.Goals as goal

pub returns : goal.returns
returns c = let a = c.args in c.q15.ensures ∙ ap q15 (to_z-of_z w16 (get_or a.b.now a.i (pos 0)) (search rules))
