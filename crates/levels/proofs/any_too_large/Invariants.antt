-- `levels::any_too_large` meets its contract: what was found, or is found from here on, is the whole. Assumes nothing.
use mathlib.Core.Path.{◌≡◌}
use mathlib.Core.Bool.{◌||◌}
use lib.ListN.{drop}
use Rattle.levels.specs.Component.{some_too_large}
use Rattle.levels.proofs.any_too_large.Given as goal

abbrev pub invariant-loop-component : goal.invariant-loop-component
invariant-loop-component l = some_too_large l.x ≡ l.found || some_too_large (drop l.component-index l.x)
