-- A choice of a mode and gains, its bits, and the choice that the planner takes. docs/FORMAT.md, Words (a choice and
-- its bits) and Planner (equal cost takes the lower gain, then the lower mode; the total is 2 plus the payload).
use Rattle.std.specs.Prelude.{ℕ, zero, suc, ◌+◌, ◌<◌, ◌≤◌, ◌≡◌, true, cond, List, [], ◌∷◌, ◌++◌, leb, ltb, length, get_or, Float}
use Rattle.gains.specs.Gains.{active, other_gains, allowed_gain, gain_word_bits}
use Rattle.channel.specs.Bins.{sum_over}
use Rattle.channel.specs.Row.{active_count, gain_at, six_of}
use Rattle.planner.specs.Cost.{bin_bits}

-- the first of g and k that costs least, of g and ks, and of 0 to n
abbrev pub cheaper : (ℕ → ℕ) → ℕ → ℕ → ℕ
cheaper cost g k = cond (ltb (cost k) (cost g)) k g

unfoldable pub cheapest : (ℕ → ℕ) → ℕ → List ℕ → ℕ
cheapest cost g [] = g
cheapest cost g (k ∷ ks) = cheapest cost (cheaper cost g k) ks

unfoldable pub least_up_to : (ℕ → ℕ) → ℕ → ℕ
least_up_to cost zero = 0
least_up_to cost (suc n) = cheaper cost (least_up_to cost n) (suc n)

-- ---- a choice, for the bins start to end - 1 of a row and its vectors
-- the bits of the bin k
unfoldable pub chosen_at : ℕ → List ℕ → List ℕ → List Float → ℕ → ℕ → ℕ
chosen_at mode gains row x start k = bin_bits (get_or row k 0) (gain_at mode gains row start k) (six_of x k)

-- the bins and the gain words
unfoldable pub payload_of : ℕ → List ℕ → List ℕ → List Float → ℕ → ℕ → ℕ
payload_of mode gains row x start end = sum_over (chosen_at mode gains row x start) start end + gain_word_bits mode (active_count mode row start end)

-- with the two bits of the mode
unfoldable pub choice_bits : ℕ → List ℕ → List ℕ → List Float → ℕ → ℕ → ℕ
choice_bits mode gains row x start end = 2 + payload_of mode gains row x start end

-- one allowed gain for each active bin
pub record Choice (mode : ℕ) (gains : List ℕ) (row : List ℕ) (start end : ℕ) : Type 0 where
  pub mode_is : mode ≤ 3
  pub one_each : length gains ≡ active_count mode row start end
  pub allowed : (i : ℕ) → i < length gains → allowed_gain mode (get_or gains i 0) ≡ true

-- ---- the plan
-- the bin k at its cheapest gain, the lower one of equals
unfoldable pub best_gain : ℕ → List ℕ → List Float → ℕ → ℕ
best_gain mode row x k = cheapest (λ g. bin_bits (get_or row k 0) g (six_of x k)) 1 (other_gains mode)

unfoldable pub least_at : ℕ → List ℕ → List Float → ℕ → ℕ
least_at mode row x k = bin_bits (get_or row k 0) (cond (active mode (get_or row k 0)) (best_gain mode row x k) 1) (six_of x k)

-- the payload of a mode, each active bin at its cheapest gain
unfoldable pub least_of : List ℕ → List Float → ℕ → ℕ → ℕ → ℕ
least_of row x start end mode = sum_over (least_at mode row x) start end + gain_word_bits mode (active_count mode row start end)

-- the mode of least payload, the lowest of equals, and its gains in bin order
unfoldable pub plan_mode : List ℕ → List Float → ℕ → ℕ → ℕ
plan_mode row x start end = least_up_to (least_of row x start end) 3

unfoldable pub gains_over : ℕ → List ℕ → List Float → ℕ → ℕ → List ℕ
gains_over mode row x start zero = []
gains_over mode row x start (suc e) =
    cond (leb start e)
    (cond (active mode (get_or row e 0)) (gains_over mode row x start e ++ (best_gain mode row x e ∷ [])) (gains_over mode row x start e))
    []

unfoldable pub plan_gains : List ℕ → List Float → ℕ → ℕ → List ℕ
plan_gains row x start end = gains_over (plan_mode row x start end) row x start end

unfoldable pub plan_payload : List ℕ → List Float → ℕ → ℕ → ℕ
plan_payload row x start end = least_of row x start end (plan_mode row x start end)
