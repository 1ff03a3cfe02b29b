-- Components were accepted up to 1024 in size before they were up to 16384: what each call answered then, and what
-- stood in the output, it answers now; a 5 of a component between the two is answered, or refused with a later number.
-- Assumes nothing.
use Prim.Native.Nat.{ℕ, ◌≤◌}
use mathlib.Core.List.{List}
use lib.Dec.{lit≤}
use lib.Ieee.{Float}
use Rattle.answers.specs.declared.Refusal.{Refusal}
use Rattle.std.specs.Prelude.{Result}
use Rattle.answers.specs.Answers.{answer_number}
use Rattle.levels.specs.Component.{largest_size, too_large, some_too_large, Widened}
use Rattle.channel.specs.Bins.{some_over}
use Rattle.books.specs.Books.{vq_search, vq_search_up_to}
use Rattle.books.proofs.Wider.{search_widened}
use Rattle.quantiser.specs.Quantise.{quantised, quantised_up_to, quantised_bin, quantised_bin_up_to}
use Rattle.quantiser.proofs.Wider.{scalar_widened, bin_widened}
use Rattle.planner.specs.declared.Plan.{Plan}
use Rattle.planner.specs.Planning.{too_large_at, planned, planned_up_to}
use Rattle.planner.proofs.Wider.{planned_widened}
use Rattle.bits.specs.declared.BitPos.{BitPos}
use Rattle.writer.specs.Written.{channel_write, channel_write_up_to, channel_written, channel_written_up_to}
use Rattle.writer.proofs.Wider.{write_widened}

-- the limit that was
abbrev pub earlier_size : ℕ
earlier_size = 1024

pub record EarlierKept : Type 0 where
  pub vq_search_lem : (h : ℕ) (x : List Float) → Widened answer_number (some_too_large x) (vq_search_up_to earlier_size h x) (vq_search h x)
  pub quantise_scalar : (h g : ℕ) (x : Float) → Widened answer_number (too_large x) (quantised_up_to earlier_size h g x) (quantised h g x)
  pub quantise_bin : (h g : ℕ) (x : List Float)
      → Widened answer_number (some_too_large x) (quantised_bin_up_to earlier_size h g x) (quantised_bin h g x)
  pub plan_aht_channel : (row : List ℕ) (start end : ℕ) (x : List Float)
      → Widened answer_number (some_over (too_large_at row x) start end) (planned_up_to earlier_size row start end x) (planned row start end x)
  pub write_aht_channel : (p : Plan) (row : List ℕ) (start end : ℕ) (x : List Float) (out : List ℕ) (at : ℕ)
      → Widened (λ (a : Result BitPos Refusal × List ℕ). answer_number a.0) (some_over (too_large_at row x) start end)
      (channel_write_up_to earlier_size p row start end x out at, channel_written_up_to earlier_size p row start end x out at)
      (channel_write p row start end x out at, channel_written p row start end x out at)

pub earlier_kept : EarlierKept
earlier_kept = record {
  vq_search_lem = search_widened earlier_size largest_size wide;
  quantise_scalar = scalar_widened earlier_size largest_size wide;
  quantise_bin = bin_widened earlier_size largest_size wide;
  plan_aht_channel = planned_widened earlier_size largest_size wide;
  write_aht_channel = λ p row start end x out at. write_widened p row start end x out at earlier_size largest_size wide;
}
  where
    wide : earlier_size ≤ largest_size
    wide = lit≤ tt
