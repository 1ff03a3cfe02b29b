-- `pages::put_cells` meets its contract. Assumes nothing.
use native.Mathlib.Omega.{arith}
use native.Mathlib.Nat.{le_refl, le_antisymm}
use Prim.Native.Nat.{◌-◌, ◌+◌, ◌≤◌}
use mathlib.Core.Path.{◌≡◌, refl, sym, ap, ◌∙◌}
use lib.ListN.{length, get_or}
use Rattle.gains.specs.Gains.{active}
use Rattle.channel.proofs.Over.{one_small}
use Rattle.channel.proofs.Rows.{count_most, count_start, rank_turn}
use Rattle.pages.specs.Pages.{cell_text_at}
use Rattle.pages.specs.Work.{with_cells}
use Rattle.pages.proofs.Lines.{place_inside, place_next, cells_none, cells_turn}
use Rattle.pages.proofs.Cells.{cell_long, part_over}
use Rattle.pages.proofs.put_cells.Goals as goal
use Rattle.pages.proofs.put_cells.Goals.{After-place_of-at}

pub loop-bin-init : goal.loop-bin-init
loop-bin-init c = let a = c.args in let b = a.v.bins in (
  sym (count_start a.mode b.row.now b.start),
  refl,
  sym (cells_none (cell_text_at a.mode a.gains.now b.row.now a.v.x.now b.start) b.start b.start a.out.now (le_refl b.start)),
)

pub cell_of-c-requires : goal.cell_of-c-requires
cell_of-c-requires c = record { in_bins = (omega arith, omega arith); n_value = c.loop-bin.invariant.0 }

-- the cell lies within the output
room : (c : After-place_of-at) → c.place_of-at.result + 12 ≤ length c.loop-bin.out
room c = let b = c.args.v.bins in
    let p = place_next (c.loop-bin.bin - b.start) (b.end - b.start) (omega arith) in
    let e : length c.loop-bin.out ≡ length c.args.out.now = c.loop-bin.invariant.1 in
    let r = c.requires in
    let q = c.place_of-at.ensures in
    omega arith

pub overflow_add-at : goal.overflow_add-at
overflow_add-at c = let b = c.args.v.bins in let f = b.few in let p = place_inside (c.loop-bin.bin - b.start) 64 (omega arith) in let q = c.place_of-at.ensures in omega arith

pub slice_bounds-put_cell-end : goal.slice_bounds-put_cell-end
slice_bounds-put_cell-end c = let r = room c in omega arith

pub overflow_add-n : goal.overflow_add-n
overflow_add-n c = let b = c.args.v.bins in
    let f = b.few in
    let m = count_most c.args.mode b.row.now b.start c.loop-bin.bin in
    let v = c.loop-bin.invariant.0 in
    let o = one_small (active c.args.mode (get_or b.row.now c.loop-bin.bin 0)) in
    let e = c.gains_used-n.ensures in
    omega arith

pub loop-bin-preserved : goal.loop-bin-preserved
loop-bin-preserved c = let a = c.args in let b = a.v.bins in
    let k = c.loop-bin.bin in
    let h = get_or b.row.now k 0 in
    let l = ap length c.put_cell.ensures ∙ cell_long c.cell_of-c.result in
    let p = part_over c.loop-bin.out c.put_cell.new.out c.place_of-at.result 12 l (room (goal.at.loop-bin-preserved c).After-place_of-at) in (
      rank_turn a.mode b.row.now b.start k c.loop-bin.n c.gains_used-n.result (active a.mode h) (omega arith) c.loop-bin.invariant.0 refl c.gains_used-n.ensures,
      p.long ∙ c.loop-bin.invariant.1,
      cells_turn (cell_text_at a.mode a.gains.now b.row.now a.v.x.now b.start) b.start k a.out.now c.loop-bin.out _ (omega arith)
          c.loop-bin.invariant.2 (p.text ∙ rw (c.put_cell.ensures, c.place_of-at.ensures, c.cell_of-c.ensures) refl),
    )

pub returns : goal.returns
returns c = let a = c.args in let b = a.v.bins in
    c.loop-bin.invariant.2
    ∙ ap (λ e. with_cells (cell_text_at a.mode a.gains.now b.row.now a.v.x.now b.start) b.start e a.out.now) (le_antisymm (c.loop-bin.auto.bin-end b.ordered) c.loop-bin-test.false)

pub shape_of-out : goal.shape_of-out
shape_of-out c = c.loop-bin.invariant.1
