-- The calls of the crates below as C has them: positions by a byte and a bit, and a plan lent part by part.
use Rattle.std.specs.Prelude.{ℕ, ◌+◌, ◌*◌, List, Float, ℤ, length, Result}
use Rattle.answers.specs.Answers.{after_answer}
use Rattle.answers.specs.declared.Refusal.{Refusal}
use Rattle.bits.specs.Bits.{bit_at, pos_of, read_u32, write_u32}
use Rattle.bits.specs.Format.{Got, move_answer}
use Rattle.bits.specs.declared.BitPos.{BitPos}
use Rattle.gains.specs.Gains.{read_gaq_gains}
use Rattle.scalars.specs.Scalars.{scalars_read}
use Rattle.planner.specs.declared.Plan.{Plan}
use Rattle.writer.specs.Written.{channel_write}
use Rattle.reader.specs.Reading.{Call, call}
use Rattle.reader.specs.declared.ChannelRead.{ChannelRead}

-- ---- positions
-- the position that a byte and a bit name, and its bit
abbrev pub place : ℕ → ℕ → BitPos
place byte bit = record { byte = byte; bit = bit }

abbrev pub bit_of_place : ℕ → ℕ → ℕ
bit_of_place byte bit = bit_at (place byte bit)

-- the calls at it
abbrev pub read_u32_at : List ℕ → ℕ → ℕ → ℕ → Result (ℕ × BitPos) Refusal
read_u32_at s byte bit n = read_u32 s (bit_of_place byte bit) n

abbrev pub write_u32_at : List ℕ → ℕ → ℕ → ℕ → Result BitPos Refusal
write_u32_at s byte bit n = write_u32 s (bit_of_place byte bit) n

abbrev pub gains_at : List ℕ → ℕ → ℕ → ℕ → ℕ → ℕ → Result (ℕ × BitPos) Refusal
gains_at s byte bit mode n places = read_gaq_gains s (bit_of_place byte bit) mode n places

abbrev pub scalars_at : List ℕ → ℕ → ℕ → ℕ → ℕ → ℤ → ℕ → Got (List Float)
scalars_at s byte bit h mode gaqbin code = scalars_read s (bit_of_place byte bit) h mode gaqbin code

abbrev pub scalars_move : List ℕ → ℕ → ℕ → ℕ → ℕ → ℤ → ℕ → Result BitPos Refusal
scalars_move s byte bit h mode gaqbin code = move_answer (8 * length s) (scalars_at s byte bit h mode gaqbin code)

abbrev pub channel_at : Plan → List ℕ → ℕ → ℕ → List Float → List ℕ → ℕ → ℕ → Result BitPos Refusal
channel_at p row start end x out byte bit = channel_write p row start end x out (bit_of_place byte bit)

abbrev pub call_at : List ℕ → ℕ → ℕ → List Float → List ℤ → List ℕ → Call
call_at s byte bit values exact indices = call s (bit_of_place byte bit) values exact indices

-- ---- a channel
-- the position after a read: behind the field, or where it was
abbrev pub place_after : BitPos → Result ChannelRead Refusal → BitPos
place_after p = after_answer (λ (c : ChannelRead). pos_of (bit_at p + c.bits)) p

-- the plan that C lends part by part
abbrev pub lent_plan : ℕ → List ℕ → ℕ → ℕ → Plan
lent_plan mode gains count payload = record { mode = mode; gains = gains; count = count; payload = payload }
