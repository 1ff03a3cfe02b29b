-- The section's example, and texts that a single byte spoils. Assumes nothing.
use Prim.Native.Nat.{ℕ, ◌+◌, ◌-◌}
use mathlib.Core.Path.{◌≡◌, refl}
use mathlib.Core.List.{List, [], ◌∷◌, ◌++◌, map}
use lib.ListN.{replicate}
use lib.Ieee.{add, sub, mul, div, le, neg, of_int, of_bits, is_nan}
use Rattle.bits.specs.Bits.{bits_n, number_of, bits_of, bytes_of, splice, bytes_with}
use Rattle.bits.specs.Format.{number, each_enc}
use Rattle.tables.specs.Numbers.{mant_bits_table, gaq_remap_table}
use Rattle.tables.specs.Tables.{mant_bits, gaq_remap_at}
use Rattle.levels.specs.Codes.{tagged, coded}
use Rattle.levels.specs.Component.{beyond}
use Rattle.levels.specs.Value.{q15, offset_at, gaq_remap, divided}
use Rattle.gains.specs.Gains.{endbap, active, coding_of, other_gains, gain_value, word_bits, sections, gain_word_bits}
use Rattle.channel.specs.Bins.{from, sum_over, some_over}
use Rattle.channel.specs.Row.{active_at, active_count, gain_at, no_gains, unknown_at, row_cause}
use Rattle.channel.specs.Shown.{joined}
use Rattle.channel.specs.Field.{group_words, gain_words, bin_of, bin_at}
use Rattle.quantiser.specs.Round.{round_mag, round_away}
use Rattle.quantiser.specs.Quantise.{abs_f, value_at, probed, best_of, est_one, best_one, slope_at, est_large, best_large, small_of, one_code, large_code, tagged_code, picked, codes_bits}
use Rattle.planner.specs.Cost.{bin_bits}
use Rattle.planner.specs.Choice.{cheapest, least_up_to, chosen_at, best_gain, least_at, least_of, plan_mode, gains_over, plan_gains, plan_payload}
use Rattle.planner.specs.Planning.{beyond_at, plan_of, cause_up_to, planned_up_to}
use Rattle.plantext.proofs.Printing.{sample_plan, sample_text, sample_text_lem}
use Rattle.plantext.specs.PlanText.{decimal}
use Rattle.pages.specs.Pages.{spaces, aligned, spread, cell_at, gain_text, cell_text, place_text, line_text, lines_text, page_count, pages_text}
use Rattle.pages.specs.Work.{blank_lines}
use Rattle.desktext.specs.Spelling.{largest}
use Rattle.desktext.specs.Printed.{component_of}
use Rattle.desktext.specs.Text.{leads, named, digits, natural, number_seen, item_head, bracket, closing, ending, step, rest, tokens}
use Rattle.desktext.specs.Channel.{numbers, items, vectors, closes, channel_from, channel_in, channel, none}
use Rattle.desktext.specs.Desk.{plan_answer}
use Rattle.desktext.specs.declared.View.TheVariants.{WithField, OnPages}

-- ---- the example of docs/FORMAT.md
unfoldable pub example_text : List ℕ
example_text =
    40 ∷ 99 ∷ 104 ∷ 97 ∷ 110 ∷ 110 ∷ 101 ∷ 108 ∷ 10 ∷  -- (channel
    40 ∷ 98 ∷ 105 ∷ 110 ∷ 115 ∷ 32 ∷ 48 ∷ 32 ∷ 50 ∷ 41 ∷ 10 ∷  -- (bins 0 2)
    40 ∷ 114 ∷ 111 ∷ 119 ∷ 32 ∷ 56 ∷ 32 ∷ 48 ∷ 41 ∷ 10 ∷  -- (row 8 0)
    40 ∷ 118 ∷ 101 ∷ 99 ∷ 116 ∷ 111 ∷ 114 ∷ 32 ∷ 56 ∷ 49 ∷ 57 ∷ 50 ∷ 32 ∷ 48 ∷ 32 ∷ 45 ∷ 56 ∷ 49 ∷ 57 ∷ 50 ∷ 32 ∷ 48 ∷ 32 ∷ 48 ∷ 32 ∷ 48 ∷ 41 ∷ 10 ∷  -- (vector 8192 0 -8192 0 0 0)
    40 ∷ 118 ∷ 101 ∷ 99 ∷ 116 ∷ 111 ∷ 114 ∷ 32 ∷ 48 ∷ 32 ∷ 48 ∷ 32 ∷ 48 ∷ 32 ∷ 48 ∷ 32 ∷ 48 ∷ 32 ∷ 48 ∷ 41 ∷ 10 ∷  -- (vector 0 0 0 0 0 0)
    41 ∷ 10 ∷ []  -- )

-- its vectors, as tokens: 8192, 0, -8192 and zeros
abbrev pub example_vectors : List ℕ
example_vectors = (largest + 8192) ∷ largest ∷ (largest - 8192) ∷ replicate 9 largest

pub example : channel_in example_text ≡ channel 0 2 (8 ∷ 0 ∷ []) example_vectors
unfolding channel_in tokens rest step named leads item_head number_seen natural digits closing bracket ending channel_from numbers items vectors closes example_text
example = refl

-- the page of its plan: bin 0 has hebap 8, Gk 2 and 12 bits, bin 1 is not coded; 49 lines are blank
unfoldable pub example_page : List ℕ
example_page =
    32 ∷ 32 ∷ 48 ∷ 32 ∷ 32 ∷ 56 ∷ 32 ∷ 50 ∷ 32 ∷ 32 ∷ 49 ∷ 50 ∷ 32 ∷  -- __0__8_2__12_
    32 ∷ 32 ∷ 49 ∷ 32 ∷ 32 ∷ 48 ∷ 32 ∷ 45 ∷ 32 ∷ 32 ∷ 32 ∷ 48 ∷  -- __1__0_-___0
    (spaces 39 ++ (10 ∷ blank_lines 49))

-- its plan with the field, and on pages, computed
pub example_planned : let x = map component_of example_vectors in
    (plan_answer WithField (8 ∷ 0 ∷ []) 0 2 x ≡ sample_text) × (plan_answer OnPages (8 ∷ 0 ∷ []) 0 2 x ≡ example_page)
unfolding plan_answer sample_plan component_of
    add sub mul div le neg of_int of_bits is_nan bits_n number_of bits_of bytes_of splice bytes_with number each_enc
    mant_bits_table gaq_remap_table mant_bits gaq_remap_at tagged coded beyond q15 offset_at gaq_remap divided endbap active coding_of other_gains gain_value word_bits sections gain_word_bits
    group_words gain_words bin_of bin_at gain_at from round_mag round_away abs_f value_at probed best_of est_one
    best_one slope_at est_large best_large small_of one_code large_code tagged_code picked sum_over some_over bin_bits codes_bits cheapest least_up_to
    active_at active_count best_gain least_at least_of plan_mode gains_over plan_gains plan_payload no_gains unknown_at beyond_at plan_of cause_up_to planned_up_to row_cause
    chosen_at joined decimal aligned spread cell_at gain_text cell_text place_text line_text lines_text page_count pages_text blank_lines example_page
example_planned = (sample_text_lem, refl)

-- ---- texts that a single byte spoils, or does not
-- one line, no last line end, a row without numbers: (channel (bins 0 0) (row))
one_line : channel_in (40 ∷ 99 ∷ 104 ∷ 97 ∷ 110 ∷ 110 ∷ 101 ∷ 108 ∷ 32 ∷ 40 ∷ 98 ∷ 105 ∷ 110 ∷ 115 ∷ 32 ∷ 48 ∷ 32 ∷ 48 ∷ 41 ∷ 32 ∷ 40 ∷ 114 ∷ 111 ∷ 119 ∷ 41 ∷ 41 ∷ []) ≡ channel 0 0 [] []
unfolding channel_in tokens rest step named leads item_head number_seen natural digits closing bracket ending channel_from numbers items vectors closes
one_line = refl

-- a line end before closing brackets: (channel (bins 0 0) (row\n)\n)\n
line_before_close : channel_in (40 ∷ 99 ∷ 104 ∷ 97 ∷ 110 ∷ 110 ∷ 101 ∷ 108 ∷ 32 ∷ 40 ∷ 98 ∷ 105 ∷ 110 ∷ 115 ∷ 32 ∷ 48 ∷ 32 ∷ 48 ∷ 41 ∷ 32 ∷ 40 ∷ 114 ∷ 111 ∷ 119 ∷ 10 ∷ 41 ∷ 10 ∷ 41 ∷ 10 ∷ []) ≡ channel 0 0 [] []
unfolding channel_in tokens rest step named leads item_head number_seen natural digits closing bracket ending channel_from numbers items vectors closes
line_before_close = refl

-- a space before a closing bracket: (channel (bins 0 0) (row ))
space_before_close : channel_in (40 ∷ 99 ∷ 104 ∷ 97 ∷ 110 ∷ 110 ∷ 101 ∷ 108 ∷ 32 ∷ 40 ∷ 98 ∷ 105 ∷ 110 ∷ 115 ∷ 32 ∷ 48 ∷ 32 ∷ 48 ∷ 41 ∷ 32 ∷ 40 ∷ 114 ∷ 111 ∷ 119 ∷ 32 ∷ 41 ∷ 41 ∷ []) ≡ none
unfolding channel_in tokens rest step named leads item_head number_seen natural digits closing bracket ending channel_from numbers items vectors closes
space_before_close = refl

-- two last line ends: (channel (bins 0 0) (row))\n\n
two_last_lines : channel_in (40 ∷ 99 ∷ 104 ∷ 97 ∷ 110 ∷ 110 ∷ 101 ∷ 108 ∷ 32 ∷ 40 ∷ 98 ∷ 105 ∷ 110 ∷ 115 ∷ 32 ∷ 48 ∷ 32 ∷ 48 ∷ 41 ∷ 32 ∷ 40 ∷ 114 ∷ 111 ∷ 119 ∷ 41 ∷ 41 ∷ 10 ∷ 10 ∷ []) ≡ none
unfolding channel_in tokens rest step named leads item_head number_seen natural digits closing bracket ending channel_from numbers items vectors closes
two_last_lines = refl

-- nothing between two forms: (channel (bins 0 0)(row))
no_space : channel_in (40 ∷ 99 ∷ 104 ∷ 97 ∷ 110 ∷ 110 ∷ 101 ∷ 108 ∷ 32 ∷ 40 ∷ 98 ∷ 105 ∷ 110 ∷ 115 ∷ 32 ∷ 48 ∷ 32 ∷ 48 ∷ 41 ∷ 40 ∷ 114 ∷ 111 ∷ 119 ∷ 41 ∷ 41 ∷ []) ≡ none
unfolding channel_in tokens rest step named leads item_head number_seen natural digits closing bracket ending channel_from numbers items vectors closes
no_space = refl
