-- The bins start to end - 1 of a row, by their places: which are active, the gain of each, and causes 1 to 4.
-- docs/FORMAT.md, Words, Gains, and 'Causes and refusals'; ATSC A/52 Annex E, 3.4.2.
use Rattle.std.specs.Prelude.{ℕ, ◌*◌, ◌≤◌, ◌≡◌, Bool, false, cond, ◌||◌, List, ltb, length, get_or, take, drop, replicate, Float, Option, None, Some}
use Rattle.answers.specs.declared.Refusal.{Refusal}
use Rattle.answers.specs.declared.Refusal.TheVariants.{StartAboveEnd, EndAbove256, TooShort, HebapAbove19}
use Rattle.gains.specs.Gains.{active}
use Rattle.channel.specs.Bins.{sum_over, some_over}

-- ---- active bins and their gains
unfoldable pub active_at : ℕ → List ℕ → ℕ → ℕ
active_at mode row k = cond (active mode (get_or row k 0)) 1 0

-- how many bins are active
unfoldable pub active_count : ℕ → List ℕ → ℕ → ℕ → ℕ
active_count mode row start end = sum_over (active_at mode row) start end

-- Gk of the bin k: the gains of the active bins stand in bin order, every other bin has gain 1
unfoldable pub gain_at : ℕ → List ℕ → List ℕ → ℕ → ℕ → ℕ
gain_at mode gains row start k = cond (active mode (get_or row k 0)) (get_or gains (active_count mode row start k) 0) 1

-- 256 places of gains, none used
unfoldable pub no_gains : List ℕ
no_gains = replicate 256 0

-- ---- vectors, six components a bin, kept flat
-- the six components of the bin k
abbrev pub six_of : List Float → ℕ → List Float
six_of x k = take 6 (drop (6 * k) x)

-- ---- causes 1 to 4
-- cause 4 at the bin k
unfoldable pub unknown_at : List ℕ → ℕ → Bool
unknown_at row k = ltb 19 (get_or row k 0)

-- the lowest that holds, if one does, where short says that some buffer beside the row is too short for the bins
unfoldable pub row_cause : List ℕ → ℕ → ℕ → Bool → Option Refusal
row_cause row start end short =
    cond (ltb end start) (Some StartAboveEnd)
    (cond (ltb 256 end) (Some EndAbove256)
    (cond (ltb (length row) end || short) (Some TooShort)
    (cond (some_over (unknown_at row) start end) (Some HebapAbove19) None)))

-- none of them holds of the row and the bins
pub record RowOk (row : List ℕ) (start end : ℕ) : Type 0 where
  pub ordered : start ≤ end
  pub few : end ≤ 256
  pub rows : end ≤ length row
  pub known : some_over (unknown_at row) start end ≡ false
