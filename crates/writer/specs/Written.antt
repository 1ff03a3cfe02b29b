-- What is written of a plan: its mode, its gains, and for each bin the search's index or the quantiser's codes.
-- docs/FORMAT.md, Writer.
use Rattle.std.specs.Prelude.{ℕ, ◌+◌, ◌*◌, Bool, cond, List, map, Float, leb, length, Option, None, Some, Result}
use Rattle.answers.specs.Answers.{answered}
use Rattle.answers.specs.Causes.{first_of, afterwards}
use Rattle.answers.specs.declared.Refusal.{Refusal}
use Rattle.answers.specs.declared.Refusal.TheVariants.{OutputFull}
use Rattle.bits.specs.Bits.{pos_of, bytes_with}
use Rattle.bits.specs.declared.BitPos.{BitPos}
use Rattle.levels.specs.declared.Code.{Code}
use Rattle.channel.specs.Bins.{over}
use Rattle.channel.specs.Row.{six_of}
use Rattle.channel.specs.Field.{Bin, none, book, scalar, Item, nothing, index, codes, bin_at, Channel, field}
use Rattle.books.specs.Books.{search_of}
use Rattle.quantiser.specs.Quantise.{picked}
use Rattle.planner.specs.declared.Plan.{Plan}
use Rattle.levels.specs.Component.{largest_size}
use Rattle.planner.specs.Planning.{total_of, gains_of}
use Rattle.planner.specs.Fit.{plan_cause_up_to}

-- the quantiser's codes for components
abbrev pub codes_of : ℕ → ℕ → List Float → List Code
codes_of h g v = map (λ x. (picked h g x).0) v

-- what is written for a bin with the vector v, and for the bin k of a row
abbrev pub item_of : Bin → List Float → Item
item_of none v = nothing
item_of (book h) v = index (search_of h v)
item_of (scalar h g) v = codes (codes_of h g v)

abbrev pub written_at : ℕ → List ℕ → List ℕ → List Float → ℕ → ℕ → Item
written_at mode gains row x start k = item_of (bin_at mode gains row start k) (six_of x k)

-- the channel of a mode and gains
abbrev pub written_of : ℕ → List ℕ → List ℕ → List Float → ℕ → ℕ → Channel
written_of mode gains row x start end = record { mode = mode; gains = gains; items = over (written_at mode gains row x start) start end }

-- ---- write_aht_channel
-- the field of a plan
abbrev pub field_of : Plan → List ℕ → ℕ → ℕ → List Float → List Bool
field_of p row start end x = (field row start end).enc (written_of p.mode (gains_of p) row x start end)

-- causes 1 to 7 for the position at of n bits: the lowest that holds, if one does
unfoldable pub write_cause_up_to : ℕ → Plan → List ℕ → ℕ → ℕ → List Float → ℕ → ℕ → Option Refusal
write_cause_up_to limit p row start end x n at =
    first_of (plan_cause_up_to limit p row start end x) (cond (leb (at + total_of p) n) None (Some OutputFull))

-- the answer: the position behind the field, or the refusal
unfoldable pub channel_write_up_to : ℕ → Plan → List ℕ → ℕ → ℕ → List Float → List ℕ → ℕ → Result BitPos Refusal
channel_write_up_to limit p row start end x out at =
    answered (write_cause_up_to limit p row start end x (8 * length out) at) (pos_of (at + total_of p))

-- the output afterwards: with the field from the position on, or as it was
unfoldable pub channel_written_up_to : ℕ → Plan → List ℕ → ℕ → ℕ → List Float → List ℕ → ℕ → List ℕ
channel_written_up_to limit p row start end x out at =
    afterwards (write_cause_up_to limit p row start end x (8 * length out) at) (bytes_with out at (field_of p row start end x)) out

-- at the limit that holds
abbrev pub write_cause : Plan → List ℕ → ℕ → ℕ → List Float → ℕ → ℕ → Option Refusal
write_cause = write_cause_up_to largest_size

abbrev pub channel_write : Plan → List ℕ → ℕ → ℕ → List Float → List ℕ → ℕ → Result BitPos Refusal
channel_write = channel_write_up_to largest_size

abbrev pub channel_written : Plan → List ℕ → ℕ → ℕ → List Float → List ℕ → ℕ → List ℕ
channel_written = channel_written_up_to largest_size
