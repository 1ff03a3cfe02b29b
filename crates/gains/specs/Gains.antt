-- Gain-adaptive quantisation: which bins have a gain, and how gains stand in the field.
-- docs/FORMAT.md, Gains and 'Small ports'; ATSC A/52 Annex E, 3.4.2 and 3.4.4.2, Tables E3.3 and E3.4.
use Rattle.std.specs.Prelude.{ℕ, zero, suc, ◌+◌, ◌*◌, ◌/◌, ◌%◌, min, List, [], ◌∷◌, ◌++◌, map, Bool, false, cond, not, ◌&&◌, ◌||◌, eqb, leb, ltb, ℤ, pos, negsuc, length, take, drop, Result, Ok, Err}
use Rattle.bits.specs.Bits.{number_of, bits_of, pos_of}
use Rattle.bits.specs.declared.BitPos.{BitPos}
use Rattle.answers.specs.declared.Refusal.{Refusal}
use Rattle.answers.specs.declared.Refusal.TheVariants.{InputEnds, OutOfRange}
use Rattle.gains.specs.declared.Coding.{Coding}
use Rattle.gains.specs.declared.GroupCodes.{GroupCodes}

-- ---- which bins have a gain (3.4.2)
-- gains are for hebap 8 up to endbap, not included; mode 0 has the endbap of mode 1, though no gain is read there
unfoldable pub endbap : ℕ → ℕ
endbap mode = cond (ltb mode 2) 12 17

abbrev pub marked : ℕ → ℕ → Bool
marked mode h = ltb 7 h && ltb h (endbap mode)

-- chgaqbin: 1 for hebap 8 to endbap - 1, also in mode 0; -1 from endbap on; else 0
unfoldable pub gaqbin_of : ℕ → ℕ → ℤ
gaqbin_of mode h = cond (marked mode h) (pos 1) (cond (leb (endbap mode) h) (negsuc 0) (pos 0))

-- chactivegaqbins: how many bins of a row are marked 1
unfoldable pub marked_bins : ℕ → List ℕ → ℕ
marked_bins mode [] = 0
marked_bins mode (h ∷ row) = cond (marked mode h) 1 0 + marked_bins mode row

-- a bin is active, with a gain of its own, where it is marked; in mode 0 none is, since no gain is read there
unfoldable pub active : ℕ → ℕ → Bool
active mode h = not (eqb mode 0) && marked mode h

-- how a bin is coded: hebap 0 not at all, 1 to 7 by an index of its book, 8 to 19 by six codes, at its own gain or at
-- Gk 1
unfoldable pub coding_of : ℕ → ℕ → Coding
coding_of mode h =
    cond (eqb h 0) Coding.Nothing
    (cond (leb h 7) Coding.Book
    (cond (active mode h) Coding.Adaptive Coding.Fixed))

-- chgaqsections: the gain words of n active bins
unfoldable pub sections : ℕ → ℕ → ℕ
sections mode n = cond (eqb mode 0) 0 (cond (eqb mode 3) ((n + 2) / 3) n)

-- ---- gains (Tables E3.3 and E3.4)
-- Gk of a code: mode 1 has 1 and 2, mode 2 has 1 and 4, mode 3 has 1, 2 and 4
unfoldable pub gain_value : ℕ → ℕ → ℕ
gain_value code mode =
    cond (eqb code 0) 1
    (cond (eqb mode 1) 2
    (cond (eqb mode 2) 4
    (cond (eqb mode 3) (cond (eqb code 1) 2 4) 1)))

-- the gains that a mode allows its active bins: 1, and these
unfoldable pub other_gains : ℕ → List ℕ
other_gains mode = cond (eqb mode 1) (2 ∷ []) (cond (eqb mode 2) (4 ∷ []) (cond (eqb mode 3) (2 ∷ 4 ∷ []) []))

abbrev pub member : ℕ → List ℕ → Bool
member g [] = false
member g (k ∷ ks) = eqb g k || member g ks

unfoldable pub allowed_gain : ℕ → ℕ → Bool
allowed_gain mode g = member g (1 ∷ other_gains mode)

-- the bits of a gain word: one a gain in modes 1 and 2, five for three gains in mode 3
unfoldable pub word_bits : ℕ → ℕ
word_bits mode = cond (eqb mode 3) 5 1

-- the bits of the gain words of n active bins: a bit each in modes 1 and 2, 5 bits for each three begun in mode 3
unfoldable pub gain_word_bits : ℕ → ℕ → ℕ
gain_word_bits mode n = word_bits mode * sections mode n

-- the three codes of a group word: grpgain / 9, grpgain % 9 / 3 and grpgain % 9 % 3; words 27 to 31 have their first
-- cut to 2, as the Rust
abbrev pub first_code : ℕ → ℕ
first_code w = min 2 (w / 9)

abbrev pub second_code : ℕ → ℕ
second_code w = w % 9 / 3

abbrev pub third_code : ℕ → ℕ
third_code w = w % 9 % 3

abbrev pub group_codes : ℕ → GroupCodes
group_codes w = record { first = first_code w; second = second_code w; third = third_code w }

-- the word of three codes
abbrev pub group_of : ℕ → ℕ → ℕ → ℕ
group_of a b c = 9 * a + 3 * b + c

-- the codes of a gain word: the bit itself, or three
unfoldable pub word_codes : ℕ → ℕ → List ℕ
word_codes mode w = cond (eqb mode 3) (first_code w ∷ second_code w ∷ third_code w ∷ []) (w ∷ [])

-- the codes of n words that stand one after the other
unfoldable pub codes_from : ℕ → ℕ → List Bool → List ℕ
codes_from mode zero bs = []
codes_from mode (suc n) bs = word_codes mode (number_of (take (word_bits mode) bs)) ++ codes_from mode n (drop (word_bits mode) bs)

-- ---- what the functions answer; a mode above 3 gives 12
unfoldable pub endbap_for_gaqmod : ℕ → Result ℕ Refusal
endbap_for_gaqmod mode = cond (leb mode 3) (Ok (endbap mode)) (Err OutOfRange)

unfoldable pub gaq_gain_value : ℕ → ℕ → Result ℕ Refusal
gaq_gain_value code mode = cond (leb mode 3) (Ok (gain_value code mode)) (Err OutOfRange)

unfoldable pub gaq_sections : ℕ → ℕ → Result ℕ Refusal
gaq_sections mode n = cond (leb mode 3) (Ok (sections mode n)) (Err OutOfRange)

-- as many bins as the row has, and no more than there are places
unfoldable pub fill_gaqbin : ℕ → List ℕ → ℕ → Result ℕ Refusal
fill_gaqbin mode row places = cond (leb mode 3) (Ok (marked_bins mode (take places row))) (Err OutOfRange)

unfoldable pub gaqbin_after : ℕ → List ℕ → List ℤ → List ℤ
gaqbin_after mode row out = cond (leb mode 3) (map (gaqbin_of mode) (take (length out) row) ++ drop (length row) out) out

-- ---- read_gaq_gains, for the bytes s, the bit position at, n sections and an output of some places
-- the words that it reads: in modes 1 and 2 it stops where the output is full, in mode 3 it reads on
unfoldable pub words_read : ℕ → ℕ → ℕ → ℕ
words_read mode n places = cond (eqb mode 0) 0 (cond (eqb mode 3) n (min n places))

-- the position behind them
unfoldable pub words_end : ℕ → ℕ → ℕ → ℕ → ℕ
words_end at mode n places = at + word_bits mode * words_read mode n places

-- the codes that it puts out
unfoldable pub gain_codes : List ℕ → ℕ → ℕ → ℕ → ℕ → List ℕ
gain_codes s at mode n places = take places (codes_from mode (words_read mode n places) (drop at (bits_of s)))

-- 12 for a mode above 3; 8 where the input has not the bits of its words, or the position is past the end
unfoldable pub read_gaq_gains : List ℕ → ℕ → ℕ → ℕ → ℕ → Result (ℕ × BitPos) Refusal
read_gaq_gains s at mode n places =
    cond (leb mode 3)
    (cond (leb (words_end at mode n places) (8 * length s))
    (Ok (length (gain_codes s at mode n places), pos_of (words_end at mode n places)))
    (Err InputEnds))
    (Err OutOfRange)

-- the output afterwards; as it was where it refuses
unfoldable pub gains_after : List ℕ → ℕ → ℕ → ℕ → List ℕ → List ℕ
gains_after s at mode n out =
    cond (leb mode 3)
    (cond (leb (words_end at mode n (length out)) (8 * length s))
    (gain_codes s at mode n (length out) ++ drop (length (gain_codes s at mode n (length out))) out)
    out)
    out
