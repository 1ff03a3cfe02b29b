-- `desktext::tokens::named` meets its contract. Assumes nothing.
use mathlib.Core.Path.{◌∙◌}
use Rattle.desktext.specs.Text.{named}
use Rattle.desktext.specs.Work.{opening}
use Rattle.desktext.proofs.Laws.{else_seen, else_other}
use Rattle.desktext.proofs.tokens.named.Goals as goal

pub returns-in-Some : goal.returns-in-Some
unfolding named opening
returns-in-Some c =
    let h = c.in-Some.ensures in
    record { shown = else_seen _ _ _ _ _ _ h.shown; onward = h.onward }

pub returns-in-Some-word : goal.returns-in-Some-word
unfolding named opening
returns-in-Some-word c =
    let h = c.in-Some-word.ensures in
    record { shown = else_seen _ _ _ _ _ _ h.shown ∙ else_other _ _ _ _ c.in_default.ensures.shown; onward = h.onward }

pub returns-in-Some-word-2 : goal.returns-in-Some-word-2
unfolding named opening
returns-in-Some-word-2 c =
    let h = c.in-Some-word-2.ensures in
    record { shown = else_seen _ _ _ _ _ _ h.shown ∙ else_other _ _ _ _ c.in_default-word.ensures.shown ∙ else_other _ _ _ _ c.in_default.ensures.shown; onward = h.onward }

pub returns : goal.returns
unfolding named opening
returns c =
    let h = c.word-4.ensures in
    record { shown = h.shown ∙ else_other _ _ _ _ c.in_default-word-2.ensures.shown ∙ else_other _ _ _ _ c.in_default-word.ensures.shown ∙ else_other _ _ _ _ c.in_default.ensures.shown; onward = h.onward }
