-- What print_pages answers, and the output afterwards. docs/FORMAT.md, Pages and 'Causes and refusals'.
use Rattle.std.specs.Prelude.{ℕ, cond, List, leb, length, Float, Option, None, Some, Result}
use Rattle.answers.specs.Answers.{answered}
use Rattle.answers.specs.Causes.{first_of, afterwards}
use Rattle.answers.specs.declared.Refusal.{Refusal}
use Rattle.answers.specs.declared.Refusal.TheVariants.{OutputFull}
use Rattle.bits.specs.Bits.{splice}
use Rattle.planner.specs.declared.Plan.{Plan}
use Rattle.planner.specs.Fit.{plan_cause}
use Rattle.pages.specs.Pages.{pages_length, pages_text}

-- causes 1 to 6 as the writer's, then 7 for an output of n bytes: the lowest that holds, if one does
unfoldable pub pages_cause : Plan → List ℕ → ℕ → ℕ → List Float → ℕ → Option Refusal
pages_cause p row start end x n =
    first_of (plan_cause p row start end x) (cond (leb (pages_length start end) n) None (Some OutputFull))

-- the answer: how many bytes the pages have, or the refusal
unfoldable pub pages_print : Plan → List ℕ → ℕ → ℕ → List Float → List ℕ → Result ℕ Refusal
pages_print p row start end x out = answered (pages_cause p row start end x (length out)) (pages_length start end)

-- the output afterwards: with the pages at its front, or as it was
unfoldable pub pages_printed : Plan → List ℕ → ℕ → ℕ → List Float → List ℕ → List ℕ
pages_printed p row start end x out = afterwards (pages_cause p row start end x (length out)) (splice out 0 (pages_text p row start end x)) out
