-- `quantiser::quantise_bin` meets its contract. Assumes nothing.
use Rattle.std.proofs.Common.{sym, ap, ◌∙◌}
use Rattle.std.specs.Prelude.{Ok}
use Rattle.quantiser.specs.Quantise.{quantised_bin_up_to}
use Rattle.quantiser.proofs.Ints.{allowed_range}
use Rattle.quantiser.proofs.quantise_bin.Goals as goal

pub returns-then-not-allows : goal.returns-then-not-allows
unfolding quantised_bin_up_to
returns-then-not-allows c = rw (sym c.allows.ensures ∙ c.if-not-allows.true)

pub returns-then-any_too_large : goal.returns-then-any_too_large
unfolding quantised_bin_up_to
returns-then-any_too_large c = rw (sym c.allows.ensures ∙ c.if-not-allows.false, sym c.any_too_large.ensures ∙ c.if-any_too_large.true)

pub new-requires : goal.new-requires
new-requires c = allowed_range c.args.hebap c.args.gk (sym c.allows.ensures ∙ c.if-not-allows.false)

pub returns : goal.returns
unfolding quantised_bin_up_to
returns c =
    let n = c.new.ensures in
    let e = rw (n.0, n.1) at c.bin.ensures in
    rw (sym c.allows.ensures ∙ c.if-not-allows.false, sym c.any_too_large.ensures ∙ c.if-any_too_large.false) (ap Ok e)
