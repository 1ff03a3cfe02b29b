-- The call by its cases. Assumes nothing.
use Prim.Native.Nat.{ℕ, ◌-◌, ◌*◌, ◌≤◌, ◌<◌}
use mathlib.Core.Path.{◌≡◌, refl, ap, ◌∙◌}
use mathlib.Core.List.{List}
use native.Mathlib.Omega.{arith}
use borrow.Author.Tests.{le-leb, lt-leb}
use lib.ListN.{length}
use lib.Ieee.{Float}
use Rattle.bits.specs.Bits.{splice}
use Rattle.planner.specs.declared.Plan.{Plan}
use Rattle.planner.specs.Fit.{plan_cause}
use Rattle.planner.specs.Planning.{gains_of}
use Rattle.std.specs.Prelude.{None, Some, Result, Ok, Err}
use Rattle.answers.specs.declared.Refusal.{Refusal}
use Rattle.answers.specs.declared.Refusal.TheVariants.{OutputFull}
use Rattle.pages.specs.Pages.{cell_at, cell_text_at, page_count, pages_length, pages_text}
use Rattle.pages.specs.Printing.{pages_cause, pages_print, pages_printed}
use Rattle.pages.specs.Work.{blank_lines, with_cells}
use Rattle.pages.proofs.Cells.{cell_long}
use Rattle.pages.proofs.Lines.{lines_long, cells_put}

-- there is a place for every bin
pub places_enough : (start end : ℕ) → end - start ≤ 4 * (50 * page_count start end)
unfolding page_count
places_enough start end = omega arith

module _ (p : Plan) (row : List ℕ) (start end : ℕ) (x : List Float) where
  abbrev pub cells : ℕ → List ℕ
  cells = cell_text_at p.mode (gains_of p) row x start

  pub cells_long : (k : ℕ) → length (cells k) ≡ 12
  cells_long k = cell_long (cell_at p.mode (gains_of p) row x start k)

  -- The pages have 3250 bytes each.
  pub pages_long : length (pages_text p row start end x) ≡ pages_length start end
  unfolding pages_text
  pages_long = lines_long cells cells_long start end (50 * page_count start end) ∙ omega arith

  module _ (out : List ℕ) where
    abbrev pub Answers : Result ℕ Refusal → List ℕ → Type 0
    Answers r e = (r ≡ pages_print p row start end x out) × (e ≡ pages_printed p row start end x out)

    refused_with : (k : Refusal) → pages_cause p row start end x (length out) ≡ Some k → Answers (Err k) out
    unfolding pages_print pages_printed
    refused_with k e = rw e (refl, refl)

    pub call_cause : (k : Refusal) → plan_cause p row start end x ≡ Some k → Answers (Err k) out
    unfolding pages_cause
    call_cause k e = refused_with k (rw e)

    module _ (none : plan_cause p row start end x ≡ None) where
      pub call_short : length out < pages_length start end → Answers (Err OutputFull) out
      unfolding pages_cause
      call_short h = refused_with OutputFull (rw (none, lt-leb (pages_length start end) (length out) h))

      pub call_good : (n : ℕ) (blank after : List ℕ) → n ≡ 50 * page_count start end → 65 * n ≤ length out → blank ≡ splice out 0 (blank_lines n) → after ≡ with_cells cells start end blank
          → Answers (Ok (65 * n)) after
      unfolding pages_cause pages_print pages_printed pages_text
      call_good n blank after en h eb ea =
          let q = places_enough start end in
          let l : 65 * n ≡ pages_length start end = omega arith in
          let t = ea ∙ ap (with_cells cells start end) eb ∙ cells_put cells cells_long start end n out (omega arith) in
          rw (none, le-leb (pages_length start end) (length out) (omega arith)) (ap Ok l, rw en at t)
