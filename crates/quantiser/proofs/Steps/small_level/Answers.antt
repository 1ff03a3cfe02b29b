-- `quantiser::Steps::small_level` meets its contract. Assumes nothing.
use Rattle.std.proofs.Common.{ap, ◌∙◌}
use lib.Ieee.{Float, binary32, mul}
use Rattle.quantiser.specs.Quantise.{small_of}
use Rattle.quantiser.specs.Round.{round_away}
use Rattle.quantiser.proofs.Ints.{held_is}
use Rattle.quantiser.proofs.Steps.small_level.Goals as goal

pub returns : goal.returns
unfolding small_of
returns c = let r = c.round_half_away in
    held_is r.result r.type_inv (r.ensures ∙ ap (λ (w : Float). round_away (mul binary32 c.args.x w)) c.args.self.whole_is)
