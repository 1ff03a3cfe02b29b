-- The field of a channel: two bits of mode, gain words, then the bins start to end - 1 in rising order.
-- ATSC A/52 Annex E, 3.4; docs/FORMAT.md, Gains, Writer and Channel reader.
use Rattle.std.specs.Prelude.{ℕ, zero, suc, Bool, cond, ◌&&◌, ◌||◌, List, [], ◌∷◌, eqb, leb, get_or, drop, replicate}
use Rattle.answers.specs.declared.Refusal.TheVariants.{GroupWord, UnusedCode}
use Rattle.bits.specs.Format.{Format, number, only, both, tested, shown, each}
use Rattle.tables.specs.Tables.{mant_bits, vq_bits}
use Rattle.gains.specs.Gains.{coding_of, gain_value, first_code, second_code, third_code, group_of}
use Rattle.gains.specs.declared.Coding.{Coding}
use Rattle.levels.specs.declared.Code.{Code}
use Rattle.levels.specs.Codes.{coded}
use Rattle.channel.specs.Bins.{over}
use Rattle.channel.specs.Row.{active_count, gain_at}

-- ---- gain words (3.4.2, Tables E3.3 and E3.4): gains as Gk, in bin order
-- the code of a gain
abbrev pub gain_code : ℕ → ℕ → ℕ
gain_code g mode = cond (eqb g 1) 0 (cond (eqb mode 3) (cond (eqb g 2) 1 2) 1)

-- modes 1 and 2: a bit for each gain
abbrev pub gain_bit : ℕ → Format ℕ
gain_bit mode = shown (number 1) (λ c. gain_value c mode) (λ g. gain_code g mode)

-- mode 3: a word of five bits for three gains; 9 above 26
abbrev pub grpgain : Format ℕ
grpgain = tested (number 5) (λ w. leb w 26) GroupWord

-- its gains
abbrev pub first : ℕ → ℕ
first w = gain_value (first_code w) 3

abbrev pub second : ℕ → ℕ
second w = gain_value (second_code w) 3

abbrev pub third : ℕ → ℕ
third w = gain_value (third_code w) 3

-- the word of the gains, up to three; missing codes are 0
abbrev pub packed : List ℕ → ℕ
packed [] = 0
packed (a ∷ []) = group_of (gain_code a 3) 0 0
packed (a ∷ b ∷ []) = group_of (gain_code a 3) (gain_code b 3) 0
packed (a ∷ b ∷ c ∷ gs) = group_of (gain_code a 3) (gain_code b 3) (gain_code c 3)

-- the word of one gain, and of two: the missing codes are 0
abbrev pub one_gain : ℕ → Bool
one_gain w = eqb (second_code w) 0 && eqb (third_code w) 0

abbrev pub two_gains : ℕ → Bool
two_gains w = eqb (third_code w) 0

-- n gains in words of three; 10 where a missing code is not 0
unfoldable pub group_words : ℕ → Format (List ℕ)
group_words zero = only []
group_words (suc zero) = shown (tested grpgain one_gain UnusedCode) (λ w. first w ∷ []) packed
group_words (suc (suc zero)) = shown (tested grpgain two_gains UnusedCode) (λ w. first w ∷ second w ∷ []) packed
group_words (suc (suc (suc n))) =
    shown (both grpgain (λ w. group_words n)) (λ p. first p.0 ∷ second p.0 ∷ third p.0 ∷ p.1) (λ gs. (packed gs, drop 3 gs))

-- the gain words of n active bins
unfoldable pub gain_words : ℕ → ℕ → Format (List ℕ)
gain_words mode n = cond (eqb mode 1 || eqb mode 2) (each (λ (k : ℕ). gain_bit mode) (replicate n 0)) (cond (eqb mode 3) (group_words n) (only []))

-- ---- bins (3.4.4)
-- a bin: not coded, with a book, or with six codes at a gain
pub data Bin : Type 0 where
  none : Bin
  book : ℕ → Bin
  scalar : ℕ → ℕ → Bin

-- what stands in the field for it
pub data Item : Type 0 where
  nothing : Item
  index : ℕ → Item
  codes : List Code → Item

abbrev pub of_index : Item → ℕ
of_index nothing = 0
of_index (index i) = i
of_index (codes cs) = 0

abbrev pub of_codes : Item → List Code
of_codes nothing = []
of_codes (index i) = []
of_codes (codes cs) = cs

-- which codes a scalar bin has, by hebap and gain: the layout is the same for all of these
abbrev pub Coder : Type 1
Coder = ℕ → ℕ → Format Code

-- every code of m bits (3.4.4.2)
abbrev pub lenient : Coder
lenient h g = coded (mant_bits h) g

abbrev pub item : Coder → Bin → Format Item
item F none = only nothing
item F (book h) = shown (number (vq_bits h)) index of_index
item F (scalar h g) = shown (each (λ (k : ℕ). F h g) (replicate 6 0)) codes of_codes

-- the bin of a coding, at the gain g where it has one of its own
abbrev pub coded_as : Coding → ℕ → ℕ → Bin
coded_as Coding.Nothing h g = none
coded_as Coding.Book h g = book h
coded_as Coding.Fixed h g = scalar h 1
coded_as Coding.Adaptive h g = scalar h g

-- a hebap above 19 is refused before; nothing stands for it
unfoldable pub bin_of : ℕ → ℕ → ℕ → Bin
bin_of mode h g = cond (leb h 19) (coded_as (coding_of mode h) h g) none

-- the bin k of a row, and the bins start to end - 1
unfoldable pub bin_at : ℕ → List ℕ → List ℕ → ℕ → ℕ → Bin
bin_at mode gains row start k = bin_of mode (get_or row k 0) (gain_at mode gains row start k)

abbrev pub bins_of : ℕ → List ℕ → List ℕ → ℕ → ℕ → List Bin
bins_of mode gains row start end = over (bin_at mode gains row start) start end

-- ---- the field
-- a mode, its gains and an item for each bin
pub record Channel : Type 0 where
  pub mode : ℕ
  pub gains : List ℕ
  pub items : List Item

abbrev pub from_parts : ℕ × (List ℕ × List Item) → Channel
from_parts p = record { mode = p.0; gains = p.1.0; items = p.1.1 }

abbrev pub to_parts : Channel → ℕ × (List ℕ × List Item)
to_parts c = (c.mode, (c.gains, c.items))

-- behind the mode: gain words, and the bins that go by the gains
abbrev pub behind_mode : Coder → List ℕ → ℕ → ℕ → ℕ → Format (List ℕ × List Item)
behind_mode F row start end mode =
    both (gain_words mode (active_count mode row start end)) (λ gains. each (item F) (bins_of mode gains row start end))

abbrev pub field_by : Coder → List ℕ → ℕ → ℕ → Format Channel
field_by F row start end = shown (both (number 2) (behind_mode F row start end)) from_parts to_parts

-- the field that writer and reader have
abbrev pub field : List ℕ → ℕ → ℕ → Format Channel
field = field_by lenient
