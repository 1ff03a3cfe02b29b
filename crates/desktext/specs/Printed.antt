-- A channel's tokens in order, the numbers that are allowed, and the texts of a channel. docs/FORMAT.md, Desk text.
use Rattle.std.specs.Prelude.{ℕ, zero, suc, ◌+◌, ◌-◌, ◌*◌, ◌≤◌, ◌≡◌, cond, List, [], ◌∷◌, ◌++◌, map, leb, pos, Float, length, take, drop}
use Rattle.std.specs.Float.{binary32}
use Rattle.std.specs.Float.Ieee.{of_int, div, neg}
use Rattle.levels.specs.Value.{f32768}
use Rattle.desktext.specs.Spelling.{largest, last_number, channel_token, bins_token, row_token, vector_token, close_token, TextOf}

-- A channel is given by its bins a and b, the row's numbers, and the numbers of its vectors, these as tokens.
-- ---- order: bins, row, one vector for each row number
-- a form: its name, its items and its closing bracket, with what comes after it
abbrev pub form : ℕ → List ℕ → List ℕ → List ℕ
form name items after = name ∷ (items ++ (close_token ∷ after))

-- n vectors of six numbers, and the channel's closing bracket
unfoldable pub vector_forms : ℕ → List ℕ → List ℕ
vector_forms zero vs = close_token ∷ []
vector_forms (suc n) vs = form vector_token (take 6 vs) (vector_forms n (drop 6 vs))

unfoldable pub channel_tokens : ℕ → ℕ → List ℕ → List ℕ → List ℕ
channel_tokens a b row vs =
    channel_token ∷ form bins_token ((largest + a) ∷ (largest + b) ∷ []) (form row_token (map (λ k. largest + k) row) (vector_forms (length row) vs))

-- ---- numbers
unfoldable pub AllIn : ℕ → ℕ → List ℕ → Type 0
AllIn low high [] = Unit {0}
AllIn low high (x ∷ xs) = (low ≤ x) × (x ≤ high) × AllIn low high xs

-- just two bins, not below 0; at most 256 row numbers, 0 to 255; just six numbers for each, -16777216 to 16777216
pub record InLimits (a b : ℕ) (row vs : List ℕ) : Type 0 where
  pub start : a ≤ largest
  pub end : b ≤ largest
  pub few : length row ≤ 256
  pub bytes : AllIn 0 255 row
  pub six : length vs ≡ 6 * length row
  pub numbers : AllIn 0 last_number vs

-- ---- texts
-- s is a text of that channel, at most 65,536 bytes long
pub record IsText (a b : ℕ) (row vs s : List ℕ) : Type 0 where
  pub allowed : InLimits a b row vs
  pub spelt : TextOf (channel_tokens a b row vs) s
  pub short : length s ≤ 65536

-- ---- values
-- a component is the number / 32768, in f32
unfoldable pub component_of : ℕ → Float
component_of t =
    cond (leb largest t) (div binary32 (of_int binary32 (pos (t - largest))) f32768) (neg (div binary32 (of_int binary32 (pos (largest - t))) f32768))
