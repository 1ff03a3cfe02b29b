-- `desktext::channels::numbers` meets its contract. Assumes nothing.
use mathlib.Core.Path.{◌≡◌}
use lib.ListN.{take, drop}
use Rattle.desktext.specs.Channel.{lead, items, numbers}
use Rattle.desktext.specs.Work.{opening, number_of, numbers_of}
use Rattle.desktext.specs.declared.Token.TheVariants.{Number}
use Rattle.desktext.proofs.channels.numbers.Given as goal

abbrev pub invariant-loop-n : goal.invariant-loop-n
invariant-loop-n l =
    let low = number_of (Number l.low) in
    let high = number_of (Number l.high) in
    numbers (opening l.fn.name) low high (numbers_of l.tokens) ≡ lead (numbers_of (take l.n l.items)) (items low high (numbers_of (drop l.n l.items)))
