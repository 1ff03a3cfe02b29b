-- A text read as tokens, byte by byte. docs/FORMAT.md, Desk text.
-- The rules are those of specs/Spelling.antt: law `text_read`.
use Rattle.std.specs.Prelude.{ℕ, zero, suc, ◌+◌, ◌-◌, ◌*◌, List, [], ◌∷◌, ◌++◌, Bool, true, false, cond, length, drop, leb, eqb}
use Rattle.desktext.specs.Spelling.{largest, last_number, channel_token, bins_token, row_token, vector_token, close_token, channel_word, bins_word, row_word, vector_word}

-- what is read at a place: a token and the bytes after it, or nothing of the kind
pub data Seen : Type 0 where
  seen : ℕ → List ℕ → Seen
  unseen : Seen

abbrev pub or_else : Seen → Seen → Seen
or_else (seen t r) other = seen t r
or_else unseen other = other

-- w stands at the head of s
unfoldable pub leads : List ℕ → List ℕ → Bool
leads [] s = true
leads (x ∷ w) [] = false
leads (x ∷ w) (y ∷ s) = cond (eqb x y) (leads w s) false

-- an opening bracket with one of the four names
unfoldable pub named : List ℕ → Seen
named s =
    cond (leads channel_word s) (seen channel_token (drop 8 s))
    (cond (leads bins_word s) (seen bins_token (drop 5 s))
    (cond (leads row_word s) (seen row_token (drop 4 s))
    (cond (leads vector_word s) (seen vector_token (drop 7 s)) unseen)))

-- a number without plus, leading zero or -0, of size at most 16777216. After a first 0 no digit is read.
abbrev pub is_digit : ℕ → Bool
is_digit b = cond (leb 48 b) (leb b 57) false

unfoldable pub digits : ℕ → List ℕ → Seen
digits v [] = seen v []
digits v (b ∷ s) = cond (is_digit b) (cond (leb (v * 10 + (b - 48)) largest) (digits (v * 10 + (b - 48)) s) unseen) (seen v (b ∷ s))

unfoldable pub natural : List ℕ → Seen
natural [] = unseen
natural (b ∷ s) = cond (eqb b 48) (seen 0 s) (cond (is_digit b) (digits (b - 48) s) unseen)

abbrev pub above : Seen → Seen
above (seen m r) = seen (largest + m) r
above unseen = unseen

abbrev pub below : Seen → Seen
below (seen m r) = cond (eqb m 0) unseen (seen (largest - m) r)
below unseen = unseen

unfoldable pub number_seen : List ℕ → Seen
number_seen [] = unseen
number_seen (b ∷ s) = cond (eqb b 45) (below (natural s)) (above (natural (b ∷ s)))

-- an item after its one space or line end: a form's bracket and name, or a number
unfoldable pub item_head : List ℕ → Seen
item_head [] = unseen
item_head (b ∷ s) = cond (eqb b 32) (or_else (named s) (number_seen s)) (cond (eqb b 10) (or_else (named s) (number_seen s)) unseen)

-- a closing bracket, before which one line end may stand
unfoldable pub bracket : List ℕ → Seen
bracket [] = unseen
bracket (b ∷ s) = cond (eqb b 41) (seen close_token s) unseen

unfoldable pub closing : List ℕ → Seen
closing [] = unseen
closing (b ∷ s) = cond (eqb b 10) (bracket s) (bracket (b ∷ s))

-- what a text is: its tokens in order, or malformed
pub data ReadText : Type 0 where
  got : List ℕ → ReadText
  malformed : ReadText

abbrev pub after : List ℕ → ReadText → ReadText
after ts (got us) = got (ts ++ us)
after ts malformed = malformed

-- after the last bracket: nothing, or one line end
unfoldable pub ending : List ℕ → ReadText
ending [] = got []
ending (b ∷ []) = cond (eqb b 10) (got []) malformed
ending (b ∷ c ∷ s) = malformed

-- an item of the forms that are open, and what follows it, which goes by how many are open then: at most four
abbrev pub on_item : (ℕ → List ℕ → ReadText) → ℕ → Seen → ReadText
on_item go depth unseen = malformed
on_item go depth (seen t r) =
    cond (leb t last_number) (after (t ∷ []) (go depth r)) (cond (leb 4 depth) malformed (after (t ∷ []) (go (suc depth) r)))

abbrev pub on_close : (ℕ → List ℕ → ReadText) → ℕ → Seen → ReadText → ReadText
on_close go depth (seen t r) other = after (t ∷ []) (go depth r)
on_close go depth unseen other = other

unfoldable pub step : (ℕ → List ℕ → ReadText) → ℕ → List ℕ → ReadText
step go zero s = ending s
step go (suc depth) s = on_close go depth (closing s) (on_item go (suc depth) (item_head s))

-- the rest of a text in which so many forms are open, of at most n tokens
unfoldable pub rest : ℕ → ℕ → List ℕ → ReadText
rest zero depth s = malformed
rest (suc n) depth s = step (rest n) depth s

abbrev pub on_name : ℕ → Seen → ReadText
on_name n (seen t r) = after (t ∷ []) (rest n 1 r)
on_name n unseen = malformed

-- a text has at most as many tokens as bytes
unfoldable pub tokens : List ℕ → ReadText
tokens s = on_name (length s) (named s)
