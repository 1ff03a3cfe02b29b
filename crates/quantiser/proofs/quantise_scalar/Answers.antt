-- `quantiser::quantise_scalar` meets its contract. Assumes nothing.
use Rattle.std.proofs.Common.{◌≤◌, sym, ◌∙◌}
use borrow.Author.Tests.{not-true, not-false}
use Rattle.levels.specs.Component.{too_large}
use Rattle.quantiser.specs.Quantise.{quantised_up_to}
use Rattle.quantiser.proofs.Ints.{allowed_range}
use Rattle.quantiser.proofs.quantise_scalar.Goals as goal
use Rattle.quantiser.proofs.quantise_scalar.Goals.{Else-not-allows}

hebap_range : (c : Else-not-allows) → (8 ≤ c.args.hebap) × (c.args.hebap ≤ 19)
hebap_range c = allowed_range c.args.hebap c.args.gk (sym c.allows.ensures ∙ c.if-not-allows.false)

pub returns-then-not-allows : goal.returns-then-not-allows
unfolding quantised_up_to
returns-then-not-allows c = rw (sym c.allows.ensures ∙ c.if-not-allows.true)

pub returns-then-not-in_range : goal.returns-then-not-in_range
unfolding quantised_up_to
returns-then-not-in_range c =
    rw (sym c.allows.ensures ∙ c.if-not-allows.false, not-false (too_large c.args.x) (sym c.in_range.ensures ∙ c.if-not-in_range.true))

pub new-requires : goal.new-requires
new-requires c = hebap_range (goal.at.new-requires c).Else-not-allows

pub returns : goal.returns
unfolding quantised_up_to
returns c =
    let n = c.new.ensures in
    let e = rw (n.0, n.1) at c.pick.ensures in
    rw (e, sym c.allows.ensures ∙ c.if-not-allows.false, not-true (too_large c.args.x) (sym c.in_range.ensures ∙ c.if-not-in_range.false))
