-- Promise 3, sentence by sentence. Assumes nothing.
use Prim.Native.Nat.{ℕ, ◌+◌, ◌*◌, ◌≤◌, ◌<◌}
use mathlib.Core.Path.{◌≡◌, ap}
use mathlib.Core.List.{List}
use mathlib.Core.Logic.{◌↔◌}
use lib.Ieee.{Float}
use lib.IntN.{ℤ}
use lib.ListN.{length}
use Rattle.answers.specs.Answers.{answer_number, value_or}
use Rattle.bits.specs.Bits.{pos_of, bytes_with}
use Rattle.planner.specs.Choice.{Choice, choice_bits}
use Rattle.planner.specs.Planning.{planned, total_of, plan_answered}
use Rattle.planner.specs.declared.Plan.{Plan}
use Rattle.planner.proofs.Answer.{answer_least, answer_lowest}
use Rattle.writer.specs.Written.{field_of, channel_write, channel_written}
use Rattle.writer.proofs.Planned.{field_long, is_written}
use Rattle.reader.specs.Reading.{Call, call, answer_to, channel_answered}
use Rattle.promise3.specs.Promise.{Allowed, accepted_field, LongEnough, SameShown, ShowsPlan}
use Rattle.promise3.proofs.Calls.{accepted_found}
use Rattle.promise3.proofs.Plans.{given}
use Rattle.promise3.proofs.Same.{found_same}
use Rattle.promise3.proofs.ReadBack.{answered, shows}

-- For every row and bins, any two fields that the channel reader accepts for them, in whichever buffers and at
-- whichever positions, are equal exactly when they show the same mode, the same gains, the same book index in every
-- book bin and the same six exact values in every scalar bin.
pub equal_exactly : (row : List ℕ) (start end : ℕ) (c c' : Call) → answer_number (answer_to row start end c) ≡ 0 → answer_number (answer_to row start end c') ≡ 0
    → (accepted_field row start end c ≡ accepted_field row start end c') ↔ SameShown row start end c c'
equal_exactly row start end c c' h h' = found_same row start end c c' (accepted_found row start end c h) (accepted_found row start end c' h')

module _ (row : List ℕ) (start end : ℕ) (x : List Float) (a : Allowed row start end x) where
  abbrev p : Plan
  p = plan_answered row start end x

  -- For every row, bins and vectors that are allowed (docs/FORMAT.md, Words), the planner gives a plan,
  pub plan_given : answer_number (planned row start end x) ≡ 0
  plan_given = given row start end x a

  module _ (out : List ℕ) (at : ℕ) (space : at + total_of p ≤ 8 * length out) where
    -- and with enough space the field written from it has exactly the plan's total of bits.
    pub exactly_total : (answer_number (channel_write p row start end x out at) ≡ 0)
        × (value_or (pos_of at) (channel_write p row start end x out at) ≡ pos_of (at + total_of p))
        × (channel_written p row start end x out at ≡ bytes_with out at (field_of p row start end x))
        × (length (field_of p row start end x) ≡ total_of p)
    exactly_total = let w = is_written row start end x plan_given out at space in (ap answer_number w.0, ap (value_or (pos_of at)) w.0, w.1, field_long row start end x plan_given)

    module _ (v : List Float) (e : List ℤ) (i : List ℕ) where
      abbrev c : Call
      c = call (channel_written p row start end x out at) at v e i

      module _ (long : LongEnough row start end c) where
        -- The channel reader accepts that field for the row and bins.
        pub accepted : (answer_number (answer_to row start end c) ≡ 0) × ((channel_answered row start end c).bits ≡ total_of p) × (accepted_field row start end c ≡ field_of p row start end x)
        accepted = answered row start end x a out at space v e i long

        -- It shows the plan's mode and gains, the search's index in every book bin and the quantiser's values in
        -- every scalar bin.
        pub shows_plan : ShowsPlan p row start end x c
        shows_plan = shows row start end x a out at space v e i long

  module _ (mode : ℕ) (gains : List ℕ) (choice : Choice mode gains row start end) where
    -- Every choice of a mode from 0 to 3 and of gains allowed there has at least as many bits as that total,
    pub no_fewer : total_of p ≤ choice_bits mode gains row x start end
    no_fewer = answer_least row start end x plan_given mode gains choice

    -- and every choice of a lower mode than the plan's has more.
    pub lower_has_more : mode < p.mode → total_of p < choice_bits mode gains row x start end
    lower_has_more = answer_lowest row start end x plan_given mode gains choice
