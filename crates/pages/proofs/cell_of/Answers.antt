-- `pages::cell_of` meets its contract. Assumes nothing.
use mathlib.Core.Path.{◌≡◌, sym, ◌∙◌}
use mathlib.Core.Bool.{cond}
use mathlib.Core.Logic.{inl, inr}
use lib.ListN.{get_or}
use Rattle.gains.specs.Gains.{active}
use Rattle.levels.proofs.Common.{chosen}
use Rattle.pages.proofs.Cells.{cell_is}
use Rattle.pages.proofs.cell_of.Goals as goal
use Rattle.pages.proofs.cell_of.Goals.{else-is_active, then-is_active}

pub returns : goal.returns
returns c = let a = c.args in
    let h = get_or a.v.bins.row.now a.bin 0 in
    let y : c.if-is_active.gk ≡ cond (active a.mode h) c.gain_at-gain.result 0 =
    chosen (λ v. cond v c.gain_at-gain.result 0) (active a.mode h) c.if-is_active.gk
    (elim c.if-is_active.branch [
      | then-is_active w ↦ inl (sym c.is_active.ensures ∙ w.if-is_active.true, w.gk-is)
      | else-is_active w ↦ inr (sym c.is_active.ensures ∙ w.if-is_active.false, w.gk-is)
    ]) in
    cell_is a.mode a.gains.now a.v.bins.row.now a.v.x.now a.v.bins.start a.bin a.n c.gain_at-gain.result c.if-is_active.gk c.bin_bits-bits.result c.requires.n_value
    c.gain_at-gain.ensures y c.bin_bits-bits.ensures
