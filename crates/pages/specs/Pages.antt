-- A plan on pages: lines of 64 characters, four bins to a line, 50 lines to a page. docs/FORMAT.md, Pages.
-- Text is its bytes: 10 is a line end, 32 a space, 45 a dash.
use Rattle.std.specs.Prelude.{ℕ, ◌+◌, ◌-◌, ◌*◌, ◌/◌, ◌%◌, cond, List, [], ◌∷◌, ◌++◌, eqb, ltb, length, get_or, replicate, Float}
use Rattle.gains.specs.Gains.{active}
use Rattle.channel.specs.Bins.{from}
use Rattle.channel.specs.Row.{gain_at}
use Rattle.channel.specs.Shown.{joined}
use Rattle.planner.specs.declared.Plan.{Plan}
use Rattle.planner.specs.Choice.{chosen_at}
use Rattle.planner.specs.Planning.{gains_of}
use Rattle.plantext.specs.PlanText.{decimal}
use Rattle.pages.specs.declared.Cell.{Cell}

-- ---- characters
abbrev pub spaces : ℕ → List ℕ
spaces n = replicate n 32

-- a number of at most n digits, right-aligned in n characters
unfoldable pub aligned : ℕ → ℕ → List ℕ
aligned n k = spaces (n - length (decimal n k)) ++ decimal n k

-- s with spaces to the n-th character
abbrev pub filled : ℕ → List ℕ → List ℕ
filled n s = s ++ spaces (n - length s)

-- parts with a space between
unfoldable pub spread : List (List ℕ) → List ℕ
spread [] = []
spread (s ∷ []) = s
spread (s ∷ t ∷ ss) = s ++ (32 ∷ spread (t ∷ ss))

-- ---- a bin
-- what is shown of the bin k of a row, for a mode and gains: Gk is 0 where the bin isn't active; the bits are its cost at
-- its Gk, without gain words
unfoldable pub cell_at : ℕ → List ℕ → List ℕ → List Float → ℕ → ℕ → Cell
cell_at mode gains row x start k = record {
  bin = k;
  hebap = get_or row k 0;
  gk = cond (active mode (get_or row k 0)) (gain_at mode gains row start k) 0;
  bits = chosen_at mode gains row x start k;
}

-- Gk, or a dash
unfoldable pub gain_text : ℕ → List ℕ
gain_text g = cond (eqb g 0) (45 ∷ []) (aligned 1 g)

-- bin in 3, hebap in 2, Gk in 1, bits in 3 characters: 12 with the spaces between
unfoldable pub cell_text : Cell → List ℕ
cell_text c = spread (aligned 3 c.bin ∷ aligned 2 c.hebap ∷ gain_text c.gk ∷ aligned 3 c.bits ∷ [])

abbrev pub cell_text_at : ℕ → List ℕ → List ℕ → List Float → ℕ → ℕ → List ℕ
cell_text_at mode gains row x start k = cell_text (cell_at mode gains row x start k)

-- ---- lines and pages, of bins k whose text is cell k
-- the place of the bin k, which stays blank from end on
unfoldable pub place_text : (ℕ → List ℕ) → ℕ → ℕ → List ℕ
place_text cell end k = cond (ltb k end) (cell k) (spaces 12)

-- the line of the bins k to k + 3
unfoldable pub line_text : (ℕ → List ℕ) → ℕ → ℕ → List ℕ
line_text cell end k = filled 64 (spread (from (place_text cell end) k 4)) ++ (10 ∷ [])

-- the byte at which the bin start + i begins: 65 bytes a line, 13 columns a place
unfoldable pub place_at : ℕ → ℕ
place_at i = 65 * (i / 4) + 13 * (i % 4)

-- so many lines, from that of the bin start on
unfoldable pub lines_text : (ℕ → List ℕ) → ℕ → ℕ → ℕ → List ℕ
lines_text cell start end n = joined (from (λ l. line_text cell end (start + 4 * l)) 0 n)

-- the pages that are begun by 200 bins each, and their bytes
unfoldable pub page_count : ℕ → ℕ → ℕ
page_count start end = (end - start + 199) / 200

abbrev pub pages_length : ℕ → ℕ → ℕ
pages_length start end = 3250 * page_count start end

-- the pages of a plan
unfoldable pub pages_text : Plan → List ℕ → ℕ → ℕ → List Float → List ℕ
pages_text p row start end x = lines_text (cell_text_at p.mode (gains_of p) row x start) start end (50 * page_count start end)
