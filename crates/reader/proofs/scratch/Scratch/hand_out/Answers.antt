-- `reader::scratch::Scratch::hand_out` meets its contract. Assumes nothing.
use Prim.Native.Nat.{◌-◌, ◌*◌}
use mathlib.Core.Path.{◌≡◌, refl, ap, ◌∙◌}
use mathlib.Core.List.{List, [], ◌∷◌, ◌++◌}
use borrow.Author.Rules.{rules}
use Rattle.std.specs.List.{flat_map}
use Rattle.bits.specs.Bits.{splice}
use Rattle.bits.proofs.Copying.{part_put}
use Rattle.channel.specs.Shown.{joined}
use Rattle.reader.proofs.scratch.Scratch.hand_out.Goals as goal

-- rows one behind the other
one_list : {A : Type 0} (rows : List (List A)) → flat_map (λ x. x) rows ≡ joined rows
unfolding joined
one_list [] = refl
one_list (row ∷ rows) = ap (λ l. row ++ l) (one_list rows)

pub returns-clause-values_after : goal.returns-clause-values_after
returns-clause-values_after c = let a = c.args in
    part_put a.values.now _ (6 * a.bins.start) (6 * a.bins.end - 6 * a.bins.start) (search rules)
    ∙ ap (splice a.values.now (6 * a.bins.start)) (c.copy_from_slice.ensures.after ∙ c.as_flattened.ensures.value ∙ one_list _)

pub returns-clause-exact_after : goal.returns-clause-exact_after
returns-clause-exact_after c = let a = c.args in
    part_put a.exact.now _ (6 * a.bins.start) (6 * a.bins.end - 6 * a.bins.start) (search rules)
    ∙ ap (splice a.exact.now (6 * a.bins.start)) (c.copy_from_slice-2.ensures.after ∙ c.as_flattened-2.ensures.value ∙ one_list _)

pub returns-clause-indices_after : goal.returns-clause-indices_after
returns-clause-indices_after c = let a = c.args in
    part_put a.indices.now _ a.bins.start (a.bins.end - a.bins.start) (search rules)
    ∙ ap (splice a.indices.now a.bins.start) c.copy_from_slice-3.ensures.after
