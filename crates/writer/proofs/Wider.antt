-- What the writer answered at a limit, and wrote, it does at a wider one. Assumes nothing.
use Prim.Native.Nat.{ℕ, ◌+◌, ◌*◌, ◌≤◌}
use mathlib.Core.Path.{◌≡◌, sym, ◌∙◌, subst}
use mathlib.Core.List.{List}
use lib.Dec.{leb, lit<}
use lib.ListN.{length}
use lib.Ieee.{Float}
use Rattle.std.specs.Prelude.{Option, Result}
use Rattle.answers.specs.Answers.{answered, answer_number}
use Rattle.answers.specs.Causes.{cause_number, afterwards}
use Rattle.answers.specs.declared.Refusal.{Refusal}
use Rattle.answers.specs.declared.Refusal.TheVariants.{OutputFull}
use Rattle.answers.proofs.Numbers.{answered_number}
use Rattle.bits.specs.Bits.{pos_of, bytes_with}
use Rattle.levels.specs.Component.{Later, Widened}
use Rattle.levels.proofs.Wider.{made_of}
use Rattle.channel.specs.Bins.{some_over}
use Rattle.planner.specs.declared.Plan.{Plan}
use Rattle.planner.specs.Planning.{beyond_at, total_of}
use Rattle.planner.proofs.Wider.{behind_widened, own_late, plan_cause_widened}
use Rattle.bits.specs.declared.BitPos.{BitPos}
use Rattle.writer.specs.Written.{field_of, write_cause_up_to, channel_write_up_to, channel_written_up_to}

-- ---- the answer, by its cause
module _ (p : Plan) (row : List ℕ) (start end : ℕ) (x : List Float) (out : List ℕ) (at : ℕ) where
  abbrev answer : Option Refusal → Result BitPos Refusal × List ℕ
  answer c = (answered c (pos_of (at + total_of p)), afterwards c (bytes_with out at (field_of p row start end x)) out)

  number_is : (c : Option Refusal) → answer_number (answer c).0 ≡ cause_number c
  number_is c = answered_number c (pos_of (at + total_of p))

  -- its number is the cause's
  pub write_number_lem : (l : ℕ) → answer_number (channel_write_up_to l p row start end x out at) ≡ cause_number (write_cause_up_to l p row start end x (8 * length out) at)
  unfolding channel_write_up_to
  write_number_lem l = number_is (write_cause_up_to l p row start end x (8 * length out) at)

  -- write_aht_channel, with what stands in the output
  pub write_widened : (l l' : ℕ) → l ≤ l'
      → Widened (λ (a : Result BitPos Refusal × List ℕ). answer_number a.0) (some_over (beyond_at l' row x) start end)
      (channel_write_up_to l p row start end x out at, channel_written_up_to l p row start end x out at)
      (channel_write_up_to l' p row start end x out at, channel_written_up_to l' p row start end x out at)
  unfolding channel_write_up_to channel_written_up_to write_cause_up_to
  write_widened l l' w =
      let over = some_over (beyond_at l' row x) start end in
      made_of cause_number (λ (a : Result BitPos Refusal × List ℕ). answer_number a.0) answer
      (λ c e. number_is c ∙ e) (λ c e. sym (number_is c) ∙ e) (λ c h. subst Later (sym (number_is c)) h) over _ _
      (behind_widened _ (own_late (leb (at + total_of p) (8 * length out)) OutputFull (lit< tt)) over _ _ (plan_cause_widened l l' w row start end x p))
