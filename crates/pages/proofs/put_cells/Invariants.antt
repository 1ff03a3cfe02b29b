-- `pages::put_cells` meets its contract. Assumes nothing.
use mathlib.Core.Path.{◌≡◌}
use lib.ListN.{length}
use Rattle.channel.specs.Row.{active_count}
use Rattle.pages.specs.Pages.{cell_text_at}
use Rattle.pages.specs.Work.{with_cells}
use Rattle.pages.proofs.put_cells.Given as goal

abbrev pub invariant-loop-bin : goal.invariant-loop-bin
invariant-loop-bin l = (l.n ≡ active_count l.mode l.v.bins.row.now l.v.bins.start l.bin) × (length l.out ≡ length l.initial.out) × (l.out ≡ with_cells (cell_text_at l.mode l.gains l.v.bins.row.now l.v.x.now l.v.bins.start) l.v.bins.start l.bin l.initial.out)
