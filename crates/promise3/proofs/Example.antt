-- Promise 3 of the channel of docs/FORMAT.md, Desk text, word for word: it has such a channel to speak of. Assumes
-- nothing.
use Prim.Native.Nat.{ℕ, ◌+◌, ◌*◌, ◌≤◌, ◌<◌}
use mathlib.Core.Path.{◌≡◌, refl, ap, subst}
use mathlib.Core.List.{List, [], ◌∷◌}
use mathlib.Core.Logic.{◌↔◌}
use native.Mathlib.Omega.{arith}
use lib.Ieee.{of_bits}
use lib.ListN.{length}
use Rattle.std.specs.Prelude.{Ok}
use Rattle.answers.specs.Answers.{answer_number, value_or}
use Rattle.levels.specs.Component.{beyond}
use Rattle.channel.specs.Bins.{some_over}
use Rattle.channel.specs.Row.{unknown_at, row_cause}
use Rattle.planner.specs.Choice.{Choice, choice_bits}
use Rattle.planner.specs.Planning.{beyond_at, cause_up_to, planned, total_of, plan_answered}
use Rattle.planner.specs.declared.Plan.{Plan}
use Rattle.writer.specs.Written.{field_of, channel_written}
use Rattle.reader.specs.Reading.{Call, answer_to, channel_answered}
use Rattle.promise3.specs.Promise.{Allowed, accepted_field, SameShown, ShowsPlan}
use Rattle.promise3.proofs.Allowing.{allowed_exactly}
use Rattle.promise3.proofs.Points.{desk_row, desk_vectors, desk_plan, reading, points}
use Rattle.promise3.proofs.Promise.{equal_exactly, accepted, shows_plan, no_fewer, lower_has_more}

pub desk_allowed : Allowed desk_row 0 2 desk_vectors
unfolding cause_up_to row_cause some_over unknown_at beyond_at beyond of_bits
desk_allowed = (allowed_exactly desk_row 0 2 desk_vectors).1 refl

-- the bytes of its field, and a call of the reader for them
abbrev pub desk_bytes : List ℕ
desk_bytes = 0x69 ∷ 0x80 ∷ []

abbrev pub desk_call : Call
desk_call = reading desk_bytes 2

pub record DeskPromise : Type 0 where
  -- The planner gives a plan,
  pub given : planned desk_row 0 2 desk_vectors ≡ Ok desk_plan
  -- and with enough space the field written from it has exactly the plan's total of bits.
  pub written : channel_written desk_plan desk_row 0 2 desk_vectors (0 ∷ 0 ∷ []) 0 ≡ desk_bytes
  pub total : total_of desk_plan ≡ 15
  -- The channel reader accepts that field for the row and bins.
  pub is_accepted : (answer_number (answer_to desk_row 0 2 desk_call) ≡ 0) × ((channel_answered desk_row 0 2 desk_call).bits ≡ 15)
      × (accepted_field desk_row 0 2 desk_call ≡ field_of desk_plan desk_row 0 2 desk_vectors)
  -- It shows the plan's mode and gains and the quantiser's values.
  pub shown : ShowsPlan desk_plan desk_row 0 2 desk_vectors desk_call
  -- Every choice has at least as many bits, and every choice of a lower mode has more.
  pub least : (mode : ℕ) (gains : List ℕ) → Choice mode gains desk_row 0 2 → 15 ≤ choice_bits mode gains desk_row desk_vectors 0 2
  pub lowest : (mode : ℕ) (gains : List ℕ) → Choice mode gains desk_row 0 2 → mode < 1 → 15 < choice_bits mode gains desk_row desk_vectors 0 2
  -- Any field that the reader accepts for the row and bins equals this one exactly when it shows the same.
  pub equal : (c : Call) → answer_number (answer_to desk_row 0 2 c) ≡ 0 → (accepted_field desk_row 0 2 c ≡ accepted_field desk_row 0 2 desk_call) ↔ SameShown desk_row 0 2 c desk_call

abbrev p : Plan
p = plan_answered desk_row 0 2 desk_vectors

plan_is : p ≡ desk_plan
plan_is = ap (value_or _) points.p11.5

bytes_are : channel_written desk_plan desk_row 0 2 desk_vectors (0 ∷ 0 ∷ []) 0 ≡ desk_bytes
bytes_are = points.p11.7

-- the call for what is written of a plan
abbrev after : Plan → Call
after q = reading (channel_written q desk_row 0 2 desk_vectors (0 ∷ 0 ∷ []) 0) 2

space : 0 + total_of p ≤ 8 * length {A = ℕ} (0 ∷ 0 ∷ [])
space = let e = ap total_of plan_is in omega arith

-- what holds of a plan and a call holds of these
of_desk : (P : Plan → Call → Type 0) → P p (after p) → P desk_plan desk_call
of_desk P h = subst (λ (s : List ℕ). P desk_plan (reading s 2)) bytes_are (subst (λ (q : Plan). P q (after q)) plan_is h)

abbrev Accepts : Plan → Call → Type 0
Accepts q c = (answer_number (answer_to desk_row 0 2 c) ≡ 0) × ((channel_answered desk_row 0 2 c).bits ≡ total_of q) × (accepted_field desk_row 0 2 c ≡ field_of q desk_row 0 2 desk_vectors)

accepts : Accepts desk_plan desk_call
accepts = of_desk Accepts (accepted desk_row 0 2 desk_vectors desk_allowed (0 ∷ 0 ∷ []) 0 space _ _ _ (omega arith, omega arith, omega arith))

pub desk_promise : DeskPromise
desk_promise = record {
  given = points.p11.5;
  written = bytes_are;
  total = refl;
  is_accepted = accepts;
  shown = of_desk (λ q c. ShowsPlan q desk_row 0 2 desk_vectors c) (shows_plan desk_row 0 2 desk_vectors desk_allowed (0 ∷ 0 ∷ []) 0 space _ _ _ (omega arith, omega arith, omega arith));
  least = λ mode gains h. subst (λ (q : Plan). total_of q ≤ choice_bits mode gains desk_row desk_vectors 0 2) plan_is (no_fewer desk_row 0 2 desk_vectors desk_allowed mode gains h);
  lowest = λ mode gains h.
      subst (λ (q : Plan). mode < q.mode → total_of q < choice_bits mode gains desk_row desk_vectors 0 2) plan_is (lower_has_more desk_row 0 2 desk_vectors desk_allowed mode gains h);
  equal = λ c h. equal_exactly desk_row 0 2 c desk_call h accepts.0;
}
