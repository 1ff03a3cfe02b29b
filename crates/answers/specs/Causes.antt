-- Why a call refuses: the causes by their numbers in docs/FORMAT.md, Causes and refusals.
use Rattle.std.specs.Prelude.{ℕ, Option, None, Some}
use Rattle.answers.specs.declared.Refusal.{Refusal}
use Rattle.answers.specs.declared.Refusal.TheVariants.{StartAboveEnd, EndAbove256, TooShort, HebapAbove19, Component, PlanMisfit, OutputFull, InputEnds, GroupWord, UnusedCode, NoQuantiser, OutOfRange, Text}

abbrev pub number : Refusal → ℕ
-- start above end
number StartAboveEnd = 1
-- end above 256
number EndAbove256 = 2
-- row, vectors or outputs too short for the bins
number TooShort = 3
-- a hebap above 19
number HebapAbove19 = 4
-- a component NaN, infinite or too large
number Component = 5
-- the plan does not fit
number PlanMisfit = 6
-- the output too short from the position on, or for the pages, or the position past its end
number OutputFull = 7
-- the input runs out, or the position is past its end
number InputEnds = 8
-- a group word above 26
number GroupWord = 9
-- an unused code of the last group word not 0
number UnusedCode = 10
-- a hebap or gain that the quantiser does not have
number NoQuantiser = 11
-- a mode above 3, more than 32 bits, or a mask outside -65536 to 65536
number OutOfRange = 12
-- the desk's text malformed
number Text = 13

-- the number of a cause that may not hold, 0 where it does not
abbrev pub cause_number : Option Refusal → ℕ
cause_number None = 0
cause_number (Some k) = number k

-- the first of two causes, each of which may not hold
abbrev pub first_of : Option Refusal → Option Refusal → Option Refusal
first_of None d = d
first_of (Some k) d = Some k

-- what stands in a place afterwards: the new value where no cause holds, and the old one else
abbrev pub afterwards : {A : Type 0} → Option Refusal → A → A → A
afterwards None new old = new
afterwards (Some k) new old = old
