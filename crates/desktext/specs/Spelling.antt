-- How a text is spelt: its tokens and their bytes. docs/FORMAT.md, Desk text.
use Rattle.std.specs.Prelude.{ℕ, zero, suc, ◌+◌, ◌-◌, ◌≤◌, ◌<◌, ◌≡◌, List, [], ◌∷◌, ◌++◌, ◌⊎◌, Bool, true, false, cond, leb, eqb}
use Rattle.plantext.specs.PlanText.{decimal_value}

-- ---- tokens
-- Numbers lie in -16777216 to 16777216. A token t up to 33554432 is the number t - 16777216.
abbrev pub largest : ℕ
largest = 16777216

abbrev pub last_number : ℕ
last_number = 33554432

-- above these stand the four forms' opening brackets with their names, and the closing bracket
abbrev pub channel_token : ℕ
channel_token = 33554433

abbrev pub bins_token : ℕ
bins_token = 33554434

abbrev pub row_token : ℕ
row_token = 33554435

abbrev pub vector_token : ℕ
vector_token = 33554436

abbrev pub close_token : ℕ
close_token = 33554437

-- ---- bytes: 10 is a line end, 32 a space, 40 and 41 are the brackets, 45 is the minus, 48 to 57 are the digits
-- an opening bracket and its name: (channel, (bins, (row and (vector
abbrev pub channel_word : List ℕ
channel_word = 40 ∷ 99 ∷ 104 ∷ 97 ∷ 110 ∷ 110 ∷ 101 ∷ 108 ∷ []

abbrev pub bins_word : List ℕ
bins_word = 40 ∷ 98 ∷ 105 ∷ 110 ∷ 115 ∷ []

abbrev pub row_word : List ℕ
row_word = 40 ∷ 114 ∷ 111 ∷ 119 ∷ []

abbrev pub vector_word : List ℕ
vector_word = 40 ∷ 118 ∷ 101 ∷ 99 ∷ 116 ∷ 111 ∷ 114 ∷ []

unfoldable pub AllDigits : List ℕ → Type 0
AllDigits [] = Unit {0}
AllDigits (d ∷ ds) = (48 ≤ d) × (d ≤ 57) × AllDigits ds

-- the digits of a number m: no plus, no leading zero, at most 16777216
unfoldable pub Digits : ℕ → List ℕ → Type 0
Digits m [] = ⊥
Digits m (d ∷ ds) = ((d ≡ 48) × (ds ≡ []) × (m ≡ 0)) ⊎ ((48 < d) × (d ≤ 57) × AllDigits ds × (m ≡ decimal_value (d - 48) ds) × (m ≤ largest))

-- the bytes w of a token t: a number, with a minus where it is below 0 (no -0), or a form's beginning
pub data Word (t : ℕ) (w : List ℕ) : Type 0 where
  plain : (m : ℕ) → t ≡ largest + m → Digits m w → Word t w
  minus : (m : ℕ) (v : List ℕ) → w ≡ 45 ∷ v → t ≡ largest - m → (m ≡ 0 → ⊥) → Digits m v → Word t w
  channel_name : t ≡ channel_token → w ≡ channel_word → Word t w
  bins_name : t ≡ bins_token → w ≡ bins_word → Word t w
  row_name : t ≡ row_token → w ≡ row_word → Word t w
  vector_name : t ≡ vector_token → w ≡ vector_word → Word t w

-- What follows the text's first name. One space or one line end stands before each item; one line end may stand before
-- a closing bracket and after the last one.
pub data Spelt : List ℕ → List ℕ → Type 0 where
  end : Spelt [] []
  end_line : Spelt [] (10 ∷ [])
  close : {ts s : List ℕ} → Spelt ts s → Spelt (close_token ∷ ts) (41 ∷ s)
  close_line : {ts s : List ℕ} → Spelt ts s → Spelt (close_token ∷ ts) (10 ∷ 41 ∷ s)
  space : {t : ℕ} {ts w s : List ℕ} → Word t w → Spelt ts s → Spelt (t ∷ ts) (32 ∷ (w ++ s))
  line : {t : ℕ} {ts w s : List ℕ} → Word t w → Spelt ts s → Spelt (t ∷ ts) (10 ∷ (w ++ s))

-- a text with those tokens
pub data TextOf : List ℕ → List ℕ → Type 0 where
  text : {t : ℕ} {ts w s : List ℕ} → Word t w → Spelt ts s → TextOf (t ∷ ts) (w ++ s)

-- Nesting reaches 4 levels: of d open forms, the tokens close these and all that they open, never more than 4 at once.
-- The tokens of every channel (specs/Printed.antt) are so: law `nested_channel`.
unfoldable pub nested : ℕ → List ℕ → Bool
nested zero [] = true
nested zero (t ∷ ts) = false
nested (suc d) [] = false
nested (suc d) (t ∷ ts) = cond (eqb t close_token) (nested d ts) (cond (leb t last_number) (nested (suc d) ts) (cond (leb 4 (suc d)) false (nested (suc (suc d)) ts)))
