-- `desktext::channels::are_vectors` meets its contract. Assumes nothing.
use native.Mathlib.Omega.{arith}
use mathlib.Core.Path.{refl, sym, ◌∙◌}
use lib.ListN.{length-map}
use Rattle.desktext.specs.Work.{number_of, numbers_of, opening}
use Rattle.desktext.proofs.Signed.{in_bounds}
use Rattle.desktext.proofs.Forms.{vectors_start, vectors_halt, vectors_uneven, vectors_turn, vectors_last}
use Rattle.desktext.proofs.channels.are_vectors.Goals as goal

pub loop-init : goal.loop-init
loop-init c = (vectors_start (numbers_of c.args.tokens.now) c.args.n, refl, omega arith)

pub numbers-requires : goal.numbers-requires
numbers-requires c = in_bounds

pub returns-in_default : goal.returns-in_default
unfolding number_of opening
returns-in_default c =
    let i = c.loop.invariant in
    record { shown = sym (vectors_halt _ _ _ _ i.0 i.1 i.2 c.loop-test.true c.in_default.ensures); within = tt }

pub returns-then-six-ne-COMPONENTS : goal.returns-then-six-ne-COMPONENTS
unfolding number_of opening
returns-then-six-ne-COMPONENTS c =
    let i = c.loop.invariant in
    let l = length-map c.in-Some.six.now number_of in
    record { shown = sym (vectors_uneven _ _ _ _ i.0 i.1 i.2 c.loop-test.true _ _ c.in-Some.ensures (λ e. c.if-six-ne-COMPONENTS.true (sym l ∙ e))); within = tt }

pub loop-preserved : goal.loop-preserved
unfolding number_of opening
loop-preserved c =
    let i = c.loop.invariant in
    vectors_turn _ _ _ _ i.0 i.1 i.2 c.loop-test.true _ _ c.in-Some.ensures (length-map c.in-Some.six.now number_of ∙ c.if-six-ne-COMPONENTS.false)

pub returns : goal.returns
returns c =
    let i = c.loop.invariant in
    vectors_last _ _ _ _ i.0 i.1 i.2 (omega arith) _ (sym c.is_last.ensures)
