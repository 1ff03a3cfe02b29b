-- `tables::hebap_at` meets its contract. Assumes nothing.
use mathlib.Core.Path.{refl}
use borrow.Author.Rules.{rules}
use Rattle.tables.specs.Numbers.{hebaptab}
use Rattle.tables.proofs.hebap_at.Goals as goal

pub bounds-address : goal.bounds-address
unfolding hebaptab
bounds-address c = search rules

pub returns : goal.returns
unfolding hebaptab
returns c = refl
