-- A list of tokens read as a channel, and what read_text answers. docs/FORMAT.md, Desk text and cause 13.
-- The rules are those of specs/Printed.antt: law `text_read`.
use Rattle.std.specs.Prelude.{ℕ, zero, suc, ◌+◌, ◌-◌, List, [], ◌∷◌, ◌++◌, map, Bool, false, cond, length, get_or, leb, eqb, Float, Result, Ok, Err}
use Rattle.answers.specs.declared.Refusal.{Refusal}
use Rattle.answers.specs.declared.Refusal.TheVariants.{Text}
use Rattle.bits.specs.Bits.{splice}
use Rattle.desktext.specs.Spelling.{largest, last_number, channel_token, bins_token, row_token, vector_token, close_token}
use Rattle.desktext.specs.Printed.{component_of}
use Rattle.desktext.specs.Text.{ReadText, got, malformed, tokens}
use Rattle.desktext.specs.declared.Shape.{Shape}

-- the numbers of a form, as tokens, and the tokens after its closing bracket
pub data Part : Type 0 where
  part : List ℕ → List ℕ → Part
  missing : Part

abbrev pub lead : List ℕ → Part → Part
lead xs (part ys r) = part (xs ++ ys) r
lead xs missing = missing

-- numbers from low to high, up to a closing bracket
unfoldable pub items : ℕ → ℕ → List ℕ → Part
items low high [] = missing
items low high (t ∷ ts) =
    cond (eqb t close_token) (part [] ts) (cond (leb low t) (cond (leb t high) (lead (t ∷ []) (items low high ts)) missing) missing)

-- a form of that name with such numbers and nothing else
unfoldable pub numbers : ℕ → ℕ → ℕ → List ℕ → Part
numbers name low high [] = missing
numbers name low high (t ∷ ts) = cond (eqb t name) (items low high ts) missing

-- the last closing bracket
unfoldable pub closes : List ℕ → Bool
closes [] = false
closes (t ∷ []) = eqb t close_token
closes (t ∷ u ∷ ts) = false

-- so many vectors of six numbers, then the channel's closing bracket
abbrev pub on_vector : (List ℕ → Part) → Part → Part
on_vector more missing = missing
on_vector more (part v r) = cond (eqb (length v) 6) (lead v (more r)) missing

unfoldable pub vectors : ℕ → List ℕ → Part
vectors zero ts = cond (closes ts) (part [] []) missing
vectors (suc n) ts = on_vector (vectors n) (numbers vector_token 0 last_number ts)

-- bins, the row's numbers, and six numbers of a vector for each of these, as tokens: the number t - 16777216
pub data TextChannel : Type 0 where
  channel : ℕ → ℕ → List ℕ → List ℕ → TextChannel
  none : TextChannel

abbrev pub on_vectors : ℕ → ℕ → List ℕ → Part → TextChannel
on_vectors a b row missing = none
on_vectors a b row (part vs r) = channel a b row vs

abbrev pub on_row : ℕ → ℕ → Part → TextChannel
on_row a b missing = none
on_row a b (part row r) = cond (leb (length row) 256) (on_vectors a b (map (λ t. t - largest) row) (vectors (length row) r)) none

abbrev pub on_bins : Part → TextChannel
on_bins missing = none
on_bins (part ab r) =
    cond (eqb (length ab) 2) (on_row (get_or ab 0 0 - largest) (get_or ab 1 0 - largest) (numbers row_token largest (largest + 255) r)) none

-- the channel of a list of tokens: the bins are not below 0, the row's numbers 0 to 255, at most 256 of them
unfoldable pub channel_from : List ℕ → TextChannel
channel_from [] = none
channel_from (t ∷ ts) = cond (eqb t channel_token) (on_bins (numbers bins_token largest last_number ts)) none

-- the channel of a text of at most 65,536 bytes
abbrev pub on_got : ReadText → TextChannel
on_got (got ts) = channel_from ts
on_got malformed = none

unfoldable pub channel_in : List ℕ → TextChannel
channel_in text = cond (leb (length text) 65536) (on_got (tokens text)) none

-- what read_text answers: the bins and how many numbers the row has, or 13
abbrev pub text_answer : TextChannel → Result Shape Refusal
text_answer (channel a b row vs) = Ok (record { start = a; end = b; count = length row })
text_answer none = Err Text

-- what stands in the outputs afterwards: the row and the vectors' components at the front, all else as it was
abbrev pub row_after : TextChannel → List ℕ → List ℕ
row_after (channel a b row vs) out = splice out 0 row
row_after none out = out

abbrev pub vectors_after : TextChannel → List Float → List Float
vectors_after (channel a b row vs) out = splice out 0 (map component_of vs)
vectors_after none out = out
