-- `levels::scales` meets its contract: one computed test of the rows. Assumes nothing.
use mathlib.Core.Path.{refl}
use lib.Ieee.{of_bits, div, of_int, nan_bits}
use Rattle.tables.specs.Numbers.{mant_bits_table, gaq_remap_table}
use Rattle.tables.specs.Tables.{mant_bits, gaq_remap_at}
use Rattle.levels.specs.Value.{q15}
use Rattle.levels.specs.Work.{remap_of, scale_of, scale_at}
use Rattle.levels.proofs.ScaleRows.{are_scales}
use Rattle.levels.proofs.scales.Goals as goal

pub returns : goal.returns
unfolding mant_bits mant_bits_table gaq_remap_at gaq_remap_table remap_of scale_of scale_at q15 div of_int of_bits nan_bits
returns c = are_scales _ refl tt tt tt refl
