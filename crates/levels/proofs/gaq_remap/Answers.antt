-- `levels::gaq_remap` meets its contract. Assumes nothing.
use mathlib.Core.Path.{◌∙◌, ap}
use Rattle.levels.specs.Work.{remap_by}
use Rattle.levels.proofs.Remapping.{remap_by_lem}
use Rattle.levels.proofs.gaq_remap.Goals as goal

pub returns : goal.returns
returns c = let x = c.args in
    c.remap_by.ensures ∙ ap (λ r. remap_by r x.x) c.remap_of.ensures ∙ remap_by_lem x.hebap x.gk x.x
