-- What the desk prints: docs/FORMAT.md, Desk text. Text is its bytes, with what they spell beside them.
use Rattle.std.specs.Prelude.{ℕ, zero, suc, ◌+◌, ◌-◌, ◌*◌, ◌/◌, ◌%◌, cond, List, [], ◌∷◌, ◌++◌, leb}
use Rattle.planner.specs.declared.Plan.{Plan}
use Rattle.planner.specs.Planning.{total_of, gains_of}

-- ---- items
-- a number in base ten, of at most so many digits: 48 is 0; ten digits hold every u32
unfoldable pub decimal : ℕ → ℕ → List ℕ
decimal zero n = []
decimal (suc places) n = cond (leb 10 n) (decimal places (n / 10) ++ ((48 + n % 10) ∷ [])) ((48 + n) ∷ [])

-- and back: the number whose digits are those of v and then ds
unfoldable pub decimal_value : ℕ → List ℕ → ℕ
decimal_value v [] = v
decimal_value v (d ∷ ds) = decimal_value (v * 10 + (d - 48)) ds

abbrev pub numeral : ℕ → List ℕ
numeral n = decimal 10 n

-- a lower-case hex digit: 48 is 0 and 97 is a
unfoldable pub hex_of : ℕ → ℕ
hex_of d = cond (leb 10 d) (87 + d) (48 + d)

-- each number after a space
unfoldable pub spaced : List ℕ → List ℕ
spaced [] = []
spaced (n ∷ ns) = (32 ∷ numeral n) ++ spaced ns

-- each byte as two hex digits after a space
unfoldable pub hexes : List ℕ → List ℕ
hexes [] = []
hexes (b ∷ bs) = 32 ∷ hex_of (b / 16) ∷ hex_of (b % 16) ∷ hexes bs

-- ---- lines
-- a line with a form: a bracket and the name, the items, a bracket and the line end
unfoldable pub line : List ℕ → List ℕ → List ℕ
line name items = (40 ∷ name) ++ (items ++ (41 ∷ 10 ∷ []))

-- mode
abbrev pub mode_name : List ℕ
mode_name = 109 ∷ 111 ∷ 100 ∷ 101 ∷ []

-- gains
abbrev pub gains_name : List ℕ
gains_name = 103 ∷ 97 ∷ 105 ∷ 110 ∷ 115 ∷ []

-- payload
abbrev pub payload_name : List ℕ
payload_name = 112 ∷ 97 ∷ 121 ∷ 108 ∷ 111 ∷ 97 ∷ 100 ∷ []

-- total
abbrev pub total_name : List ℕ
total_name = 116 ∷ 111 ∷ 116 ∷ 97 ∷ 108 ∷ []

-- field
abbrev pub field_name : List ℕ
field_name = 102 ∷ 105 ∷ 101 ∷ 108 ∷ 100 ∷ []

-- refused
abbrev pub refused_name : List ℕ
refused_name = 114 ∷ 101 ∷ 102 ∷ 117 ∷ 115 ∷ 101 ∷ 100 ∷ []

-- the lines of a mode and its gains: (gains) if there are none
unfoldable pub choice_lines : ℕ → List ℕ → List ℕ
choice_lines mode gains = line mode_name (spaced (mode ∷ [])) ++ line gains_name (spaced gains)

-- the lines of the payload and the total, in bits
unfoldable pub size_lines : ℕ → ℕ → List ℕ
size_lines payload total = line payload_name (spaced (payload ∷ [])) ++ line total_name (spaced (total ∷ []))

-- ---- the answers
-- the plan and the bytes of its field, between the lines (plan and )
unfoldable pub plan_text : Plan → List ℕ → List ℕ
plan_text p field =
    (40 ∷ 112 ∷ 108 ∷ 97 ∷ 110 ∷ 10 ∷ [])
    ++ (choice_lines p.mode (gains_of p)
    ++ (size_lines p.payload (total_of p)
    ++ (line field_name (hexes field)
    ++ (41 ∷ 10 ∷ []))))

-- the refusal n
unfoldable pub refused_text : ℕ → List ℕ
refused_text n = line refused_name (spaced (n ∷ []))
