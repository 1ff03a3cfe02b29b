-- How the reading goes about it: no meaning of its own. What holds is said by Text, Channel and Desk.
use Rattle.std.specs.Prelude.{ℕ, zero, suc, ◌+◌, ◌-◌, ◌*◌, ◌≤◌, ◌<◌, ◌≡◌, List, [], ◌++◌, map, Bool, false, cond, leb, length, take, drop, Float, Option, Some, None, Result, Ok, Err, ℤ, pos, negsuc}
use Rattle.std.specs.Borrow.{Bor}
use Rattle.answers.specs.Causes.{number}
use Rattle.answers.specs.declared.Refusal.{Refusal}
use Rattle.bits.specs.Bits.{splice}
use Rattle.plantext.specs.PlanText.{refused_text}
use Rattle.planner.specs.declared.Plan.{Plan}
use Rattle.planner.specs.Planning.{planned}
use Rattle.desktext.specs.Spelling.{largest, last_number, channel_token, bins_token, row_token, vector_token, close_token}
use Rattle.desktext.specs.Printed.{AllIn}
use Rattle.desktext.specs.Text.{Seen, seen, unseen, leads, got, malformed, after, rest, tokens}
use Rattle.desktext.specs.declared.Shape.{Shape}
use Rattle.desktext.specs.declared.Name.{Name}
use Rattle.desktext.specs.declared.Name.TheVariants as name
use Rattle.desktext.specs.declared.Token.{Token}
use Rattle.desktext.specs.declared.Token.TheVariants as token
use Rattle.desktext.specs.Channel.{Part, part, missing, vectors, TextChannel, channel, none}

-- ---- tokens
-- above the numbers of all tokens
abbrev pub beyond : ℕ
beyond = 33554438

unfoldable pub opening : Name → ℕ
opening name.Channel = channel_token
opening name.Bins = bins_token
opening name.Row = row_token
opening name.Vector = vector_token

-- the number of a token (Spelling). A number that is too large for a text is none of its tokens.
unfoldable pub number_of : Token → ℕ
number_of (token.Number (pos m)) = cond (leb m largest) (largest + m) beyond
number_of (token.Number (negsuc m)) = cond (leb (suc m) largest) (largest - suc m) beyond
number_of (token.Open n) = opening n
number_of token.Close = close_token

abbrev pub numbers_of : List Token → List ℕ
numbers_of ts = map number_of ts

-- ---- the bytes
-- no text of a channel has more: law `text_short`
abbrev pub longest : ℕ
longest = 23121

-- what is found, and the text behind it
abbrev pub seen_in : {A : Type 0} → (A → ℕ) → Option (A × Bor (List ℕ)) → Seen
seen_in f (Some p) = seen (f p.0) p.1.now
seen_in f None = unseen

-- it is of at most `limit`, and the text behind it is shorter than s
abbrev pub IsAhead : {A : Type 0} → (A → ℕ) → List ℕ → ℕ → Option (A × Bor (List ℕ)) → Type 0
IsAhead f s limit (Some p) = (length p.1.now < length s) × (f p.0 ≤ limit)
IsAhead f s limit None = Unit {0}

-- a token at the front of s
pub record Finds (s : List ℕ) (there : Seen) (r : Option (Token × Bor (List ℕ))) : Type 0 where
  pub shown : seen_in number_of r ≡ there
  pub onward : IsAhead number_of s close_token r

-- the name with its bracket, if its word is there
abbrev pub word_seen : List ℕ → List ℕ → Name → Seen
word_seen s w n = cond (leads w s) (seen (opening n) (drop (length w) s)) unseen

-- the size of a number, by its digits at the front of s or further on
abbrev pub IsNoLonger : List ℕ → Option (ℕ × Bor (List ℕ)) → Type 0
IsNoLonger s (Some p) = (length p.1.now ≤ length s) × (p.0 ≤ largest)
IsNoLonger s None = Unit {0}

pub record Counts (s : List ℕ) (there : Seen) (r : Option (ℕ × Bor (List ℕ))) : Type 0 where
  pub shown : seen_in (λ m. m) r ≡ there
  pub onward : IsNoLonger s r

-- n tokens are read, and r is left to read in so many open forms
pub record Reading (s r : List ℕ) (n depth : ℕ) (out : List Token) : Type 0 where
  pub whole : tokens s ≡ after (numbers_of (take n out)) (rest (suc (length s) - n) depth r)
  pub fewer : n + length r ≤ length s

abbrev pub StepReads : List ℕ → ℕ → List Token → Option (Bor (List ℕ) × ℕ) → Type 0
StepReads s depth out (Some p) = Reading s p.0.now p.1 depth out
StepReads s depth out None = tokens s ≡ malformed

-- of s something is read, and by each two bytes one token at most: k is 1 where a bracket is closed that was opened
-- before s, and else 0
abbrev pub Goes : List ℕ → ℕ → ℕ → Option (Bor (List ℕ) × ℕ) → Type 0
Goes s n k (Some p) = (length p.0.now < length s) × (2 * p.1 + length p.0.now ≤ 2 * n + length s + k)
Goes s n k None = Unit {0}

-- the first n elements of a buffer are the text's tokens
abbrev pub ListedIn : List ℕ → List Token → Option ℕ → Type 0
ListedIn text out (Some n) = (tokens text ≡ got (numbers_of (take n out))) × (n ≤ length out)
ListedIn text out None = tokens text ≡ malformed

-- ---- a channel's tokens
-- the ends of a range of numbers
abbrev pub InBounds : ℤ → ℤ → Type 0
InBounds low high = (number_of (token.Number low) ≤ last_number) × (number_of (token.Number high) ≤ last_number)

abbrev pub is_within : ℤ → ℤ → Token → Bool
is_within low high t = cond (leb (number_of (token.Number low)) (number_of t)) (leb (number_of t) (number_of (token.Number high))) false

-- the numbers of a form and what comes after it
abbrev pub part_in : Option (Bor (List Token) × Bor (List Token)) → Part
part_in (Some p) = part (numbers_of p.0.now) (numbers_of p.1.now)
part_in None = missing

-- six numbers of each of n vectors that stand one after the other
unfoldable pub vector_numbers : ℕ → List ℕ → List ℕ
vector_numbers zero ts = []
vector_numbers (suc n) ts = take 6 (drop 1 ts) ++ vector_numbers n (drop 8 ts)

-- n vectors and the last bracket
pub record Stands (ts : List ℕ) (n : ℕ) (r : Bool) : Type 0 where
  pub shown : cond r (part (vector_numbers n ts) []) missing ≡ vectors n ts
  pub within : cond r (8 * n < length ts) (Unit {0})

-- the shape, the row's numbers and the vectors
abbrev pub checked_in : Option (Shape × Bor (List Token) × Bor (List Token)) → TextChannel
checked_in (Some p) = channel p.0.start p.0.end (map (λ t. t - largest) (numbers_of p.1.now)) (vector_numbers p.0.count (numbers_of p.2.now))
checked_in None = none

abbrev pub IsRow : List Token → Type 0
IsRow ts = (length ts ≤ 256) × AllIn largest (largest + 255) (numbers_of ts)

abbrev pub AreVectors : ℕ → List Token → Type 0
AreVectors n ts = (8 * n < length ts) × AllIn 0 last_number (vector_numbers n (numbers_of ts))

abbrev pub IsFitting : Option (Shape × Bor (List Token) × Bor (List Token)) → Type 0
IsFitting (Some p) = (p.0.count ≡ length p.1.now) × IsRow p.1.now × AreVectors p.0.count p.2.now
IsFitting None = Unit {0}

pub record Checks (there : TextChannel) (r : Option (Shape × Bor (List Token) × Bor (List Token))) : Type 0 where
  pub shown : checked_in r ≡ there
  pub fits : IsFitting r

-- ---- the answer
-- the planner gives this plan
abbrev pub Given : Plan → List ℕ → ℕ → ℕ → List Float → Type 0
Given p row start end x = planned row start end x ≡ Ok p

-- a text is put at the front of the output and its length answered, or it is a refusal, and nothing is put
abbrev pub Prints : List ℕ → List ℕ → List ℕ → Result ℕ Refusal → Type 0
Prints text out after (Ok n) = (n ≡ length text) × (after ≡ splice out 0 text)
Prints text out after (Err k) = (refused_text (number k) ≡ text) × (after ≡ out)
