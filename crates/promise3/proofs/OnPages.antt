-- The pages of a plan beside its field. Assumes nothing.
use Prim.Native.Nat.{ℕ, ◌+◌, ◌-◌, ◌*◌, ◌≤◌, ◌<◌}
use mathlib.Core.Path.{◌≡◌, sym, ap, ◌∙◌}
use mathlib.Core.Bool.{Bool, true, false, cond}
use mathlib.Core.Logic.{◌↔◌}
use mathlib.Core.List.{List}
use native.Mathlib.Omega.{arith}
use lib.Dec.{leb}
use lib.ListN.{length}
use lib.Ieee.{Float}
use Rattle.answers.specs.declared.Refusal.TheVariants.{OutputFull}
use Rattle.answers.specs.declared.Refusal.{Refusal}
use Rattle.std.specs.Prelude.{Some, None, Option}
use Rattle.answers.specs.Causes.{cause_number, first_of}
use Rattle.answers.specs.Answers.{answer_number}
use Rattle.gains.specs.Gains.{gain_word_bits}
use Rattle.channel.specs.Bins.{sum_over}
use Rattle.planner.specs.declared.Plan.{Plan}
use Rattle.levels.specs.Component.{largest_size}
use Rattle.planner.specs.Planning.{gains_of, total_of}
use Rattle.planner.specs.Fit.{plan_cause}
use Rattle.planner.proofs.Answer.{plan_cause_none, plan_fitting}
use Rattle.writer.specs.Written.{field_of, write_cause_up_to, channel_write}
use Rattle.writer.proofs.Channel.{bin_few}
use Rattle.writer.proofs.Planned.{fits_long}
use Rattle.writer.proofs.Wider.{write_number_lem}
use Rattle.pages.specs.Pages.{cell_at, pages_length, pages_text}
use Rattle.pages.specs.Printing.{pages_cause, pages_print}
use Rattle.pages.specs.Reading.{at_place, cell_in}
use Rattle.pages.proofs.Printed.{bin_read_lem, bits_add_up, print_number}

module _ (p : Plan) (row : List ℕ) (start end : ℕ) (x : List Float) where
  -- Refusals 1 to 6 of print_pages are those of write_aht_channel, whatever the two outputs.
  pub as_writer : (out other : List ℕ) (at k : ℕ) → 1 ≤ k → k ≤ 6
      → (answer_number (channel_write p row start end x out at) ≡ k) ↔ (answer_number (pages_print p row start end x other) ≡ k)
  unfolding write_cause_up_to pages_cause
  as_writer out other at k l u =
      let room = leb (at + total_of p) (8 * length out) in
      let long = leb (pages_length start end) (length other) in
      rw (write_number_lem p row start end x out at largest_size, print_number p row start end x other) (λ e. to long (from room e), λ e. to room (from long e))
    where
      c : Option Refusal
      c = plan_cause p row start end x

      -- both are c, where there is one
      from : (t : Bool) → cause_number (first_of c (cond t None (Some OutputFull))) ≡ k → cause_number c ≡ k
      from t e = go c t e
        where
          go : (d : Option Refusal) (t : Bool) → cause_number (first_of d (cond t None (Some OutputFull))) ≡ k → cause_number d ≡ k
          go None true e = absurd (omega arith)
          go None false e = absurd (omega arith)
          go (Some j) t e = e

      to : (t : Bool) → cause_number c ≡ k → cause_number (first_of c (cond t None (Some OutputFull))) ≡ k
      to t e = go c e
        where
          go : (d : Option Refusal) → cause_number d ≡ k → cause_number (first_of d (cond t None (Some OutputFull))) ≡ k
          go None e = absurd (omega arith)
          go (Some j) e = e

  -- ---- a plan that fits
  module _ (none : plan_cause p row start end x ≡ None) (places : length p.gains ≡ 256) where
    -- Its field has the two bits of the mode, the gain words, and the bits that its pages show,
    pub field_as_shown : length (field_of p row start end x)
        ≡ 2 + (sum_over (λ k. (cell_in (at_place (pages_text p row start end x) (k - start))).bits) start end + gain_word_bits p.mode p.count)
    field_as_shown =
        let f = plan_cause_none p row start end x none in
        fits_long p row start end x places f.0 f.1 ∙ ap (λ (n : ℕ). 2 + n) (sym (bits_add_up p row start end x none places))

    -- and of a bin these are 120 at most.
    pub bits_most : (k : ℕ) → start ≤ k → k < end → (cell_in (at_place (pages_text p row start end x) (k - start))).bits ≤ 120
    unfolding cell_at
    bits_most k l u =
        let f = plan_fitting p row start end x places none in
        rw (bin_read_lem p row start end x none places k l u) (bin_few p.mode (gains_of p) row x start end f.within f.inside f.choice k l u)
