-- P1 to P12 of docs/FORMAT.md ('Points to hold to'), over the definitions that the public calls' contracts cite.
-- Assumes nothing.
use Prim.Native.Nat.{ℕ, zero, suc, ◌+◌, ◌-◌, ◌*◌, ◌/◌, ◌≤◌, ◌<◌}
use native.Mathlib.Nat.{le_refl, le_trans, le_of_eq}
use native.Mathlib.Omega.{arith}
use mathlib.Core.Bool.{Bool, true, false, cond, ◌||◌}
use mathlib.Core.List.{List, [], ◌∷◌, map}
use mathlib.Core.Path.{◌≡◌, refl, sym, ap, ◌∙◌}
use borrow.Author.Tests.{ne_eqb, le-ltb}
use lib.Dec.{eqb, leb}
use lib.Signed.{lt_z}
use lib.IntN.{ℤ, pos, negsuc, neg_ℤ, ◌-ℤ◌}
use lib.ListN.{length, get_or, take, replicate}
use lib.Ieee.{Float, binary32, sub, mul, div, le, of_int, of_bits, is_nan}
use Rattle.answers.specs.declared.Refusal.TheVariants.{Component, PlanMisfit, OutputFull}
use Rattle.answers.specs.declared.Refusal.{Refusal}
use Rattle.std.specs.Prelude.{Ok, Err, Some, None, Result}
use Rattle.answers.specs.Causes.{cause_number, first_of}
use Rattle.answers.specs.Answers.{answer_number}
use Rattle.bits.specs.Bits.{bits_n, number_of, bits_of, bytes_of, splice, pos_of, bytes_with}
use Rattle.bits.specs.Format.{number, each_enc, each_dec}
use Rattle.tables.specs.Numbers.{hebaptab, mant_bits_table, gaq_remap_table}
use Rattle.tables.specs.Tables.{mant_bits, gaq_remap_at, hebap_from_address}
use Rattle.levels.specs.declared.Code.{Code}
use Rattle.levels.specs.Codes.{tagged, coded}
use Rattle.levels.specs.Component.{largest_size, beyond, too_large, some_too_large}
use Rattle.levels.specs.Exact.{exact_of}
use Rattle.levels.specs.Value.{f0, q15, offset_at, gaq_remap, divided}
use Rattle.gains.specs.Gains.{endbap, active, coding_of, other_gains, gain_value, word_bits, sections, gain_word_bits, word_codes, codes_from, words_read, words_end, gain_codes, allowed_gain, read_gaq_gains, gains_after}
use Rattle.channel.specs.Bins.{from, sum_over, some_over}
use Rattle.channel.specs.Row.{active_at, active_count, gain_at, no_gains, unknown_at, row_cause}
use Rattle.channel.specs.Field.{group_words, gain_words, bin_of, bin_at}
use Rattle.channel.specs.Shown.{joined}
use Rattle.channel.proofs.Over.{sum_none}
use Rattle.quantiser.specs.Round.{round_mag, round_away}
use Rattle.quantiser.specs.Quantise.{abs_f, value_at, probed, best_of, est_one, best_one, slope_at, est_large, best_large, small_of, one_code, large_code, tagged_code, picked, code_level, codes_bits, bin_picked, allowed, quantised, quantised_up_to, quantised_bin, quantised_bin_up_to}
use Rattle.books.specs.Books.{has_book, search_of, vq_search, vq_search_up_to}
use Rattle.quantiser.specs.declared.CodeLevel.{CodeLevel}
use Rattle.planner.specs.Cost.{bin_bits}
use Rattle.planner.specs.Choice.{cheapest, least_up_to, chosen_at, payload_of, choice_bits, Choice, best_gain, least_at, least_of, plan_mode, gains_over, plan_gains, plan_payload}
use Rattle.planner.specs.Planning.{beyond_at, plan_of, total_of, cause_of, cause_up_to, planned, planned_up_to, plan_answered}
use Rattle.planner.specs.declared.Plan.{Plan}
use Rattle.planner.specs.Fit.{wrong_gain, choice_fits, plan_fits, plan_cause_up_to}
use Rattle.planner.proofs.Answer.{answer_plan, refusal_is}
use Rattle.planner.proofs.Optimal.{least_same, gains_none, least_mode}
use Rattle.writer.specs.Written.{field_of, write_cause_up_to, channel_write, channel_written, channel_written_up_to}
use Rattle.writer.proofs.Planned.{is_written}
use Rattle.writer.proofs.Wider.{write_number_lem}
use Rattle.reader.specs.Reading.{Call, call, read_cause, found, answer_to, exact_after, channel_answered}
use Rattle.promise3.specs.Promise.{Allowed}
use Rattle.promise3.proofs.Places.{empty}
use Rattle.promise3.proofs.Plans.{given}

-- ---- how the points show an answer
-- the bits of the picked code and its exact value; none where the quantiser refuses
abbrev pub code_of : ℕ → ℕ → Result CodeLevel Refusal → List Bool × ℤ
code_of h g (Ok p) = ((coded (mant_bits h) g).enc p.code, exact_of h g p.code)
code_of h g (Err k) = ([], pos 0)

-- the picked code is small, or escapes
abbrev pub Small : Code → Type 0
Small (Code.Small s) = Unit {0}
Small (Code.Large l) = ⊥

abbrev pub Large : Code → Type 0
Large (Code.Small s) = ⊥
Large (Code.Large l) = Unit {0}

abbrev pub IsSmall : Result CodeLevel Refusal → Type 0
IsSmall (Ok p) = Small p.code
IsSmall (Err k) = ⊥

abbrev pub Escapes : Result CodeLevel Refusal → Type 0
Escapes (Ok p) = Large p.code
Escapes (Err k) = ⊥

-- an f32 by its bit pattern
abbrev pub f32 : ℕ → Float
f32 bits = of_bits binary32 bits

-- 16384 and -16384; the next f32 above each in size, the infinities, and NaNs, quiet and signalling
abbrev pub largest : List Float
largest = f32 0x4680_0000 ∷ f32 0xc680_0000 ∷ []

abbrev pub too_large_ones : List Float
too_large_ones = f32 0x4680_0001 ∷ f32 0xc680_0001 ∷ f32 0x7f80_0000 ∷ f32 0xff80_0000 ∷ f32 0x7fc0_0000 ∷ f32 0xffc0_0000 ∷ f32 0x7f80_0001 ∷ f32 0xff80_0001 ∷ []

-- a call of the reader over bytes, from their first bit on, with outputs for n bins
abbrev pub reading : List ℕ → ℕ → Call
reading src n = call src 0 (replicate (6 * n) f0) (replicate (6 * n) (pos 0)) (replicate n 0)

-- the desk channel: hebap 8 with 0.25, 0, -0.25, 0, 0, 0, then hebap 0; and its plan
abbrev pub desk_row : List ℕ
desk_row = 8 ∷ 0 ∷ []

abbrev pub desk_vectors : List Float
desk_vectors = f32 0x3e80_0000 ∷ f0 ∷ f32 0xbe80_0000 ∷ f0 ∷ f0 ∷ f0 ∷ f0 ∷ f0 ∷ f0 ∷ f0 ∷ f0 ∷ f0 ∷ []

abbrev pub desk_plan : Plan
desk_plan = record { mode = 1; gains = 2 ∷ replicate 255 0; count = 1; payload = 13 }

-- ---- the points
pub record Points : Type 0 where
  -- start = end: field 00, total 2
  pub p1 : (row : List ℕ) (x : List Float) (s : ℕ) → s ≤ 256 → s ≤ length row → 6 * s ≤ length x
      → let p = plan_answered row s s x in (answer_number (planned row s s x) ≡ 0) × (total_of p ≡ 2)
      × ((out : List ℕ) (at : ℕ) → at + 2 ≤ 8 * length out → channel_written p row s s x out at ≡ bytes_with out at (false ∷ false ∷ []))
  -- hebap 8, Gk 1, 0.25: k = 1, exact 306782208
  pub p2 : code_of 8 1 (quantised 8 1 (f32 0x3e80_0000)) ≡ (false ∷ false ∷ true ∷ [], pos 306782208)
  -- hebap 8, Gk 4, 0: the one bit 0
  pub p3 : code_of 8 4 (quantised 8 4 f0) ≡ (false ∷ [], pos 0)
  -- same, 0.25: bits 1 000, exact 268435456
  pub p4 : code_of 8 4 (quantised 8 4 (f32 0x3e80_0000)) ≡ (true ∷ false ∷ false ∷ false ∷ [], pos 268435456)
  -- hebap 8, Gk 2, 0.5: 10 00, exact 536870912
  pub p5 : code_of 8 2 (quantised 8 2 (f32 0x3f00_0000)) ≡ (true ∷ false ∷ false ∷ false ∷ [], pos 536870912)
  -- hebap 8, Gk 2, bits 10 11: exact -536854528 (76 00 00 is mode 1, the gain's bit 1, 10 11, and five codes 00)
  pub p6 : let c = reading (0x76 ∷ 0 ∷ 0 ∷ []) 1 in
      (answer_number (answer_to (8 ∷ []) 0 1 c) ≡ 0) × ((channel_answered (8 ∷ []) 0 1 c).bits ≡ 17) × (take 1 (channel_answered (8 ∷ []) 0 1 c).gains ≡ 2 ∷ [])
      × (take 1 (exact_after (8 ∷ []) 0 1 c) ≡ negsuc 536854527 ∷ [])
  -- hebap 9, Gk 2: 0.375 small, 0.4375 and -0.4375 escape
  pub p7 : IsSmall (quantised 9 2 (f32 0x3ec0_0000)) × Escapes (quantised 9 2 (f32 0x3ee0_0000)) × Escapes (quantised 9 2 (f32 0xbee0_0000))
  -- word 26 is 2, 2, 2; 27 is refused, though read_gaq_gains gives 2, 0, 0 (f4 and f6 have mode 3 and then these words,
  -- d0 and d8 the words alone)
  pub p8 : let c = reading (0xf4 ∷ 0 ∷ 0 ∷ 0 ∷ []) 3 in let r = channel_answered (8 ∷ 8 ∷ 8 ∷ []) 0 3 c in
      (answer_number (answer_to (8 ∷ 8 ∷ 8 ∷ []) 0 3 c) ≡ 0) × (r.mode ≡ 3) × (r.count ≡ 3) × (take 3 r.gains ≡ 4 ∷ 4 ∷ 4 ∷ [])
      × (gains_after (0xd0 ∷ []) 0 3 1 (1 ∷ 1 ∷ 1 ∷ []) ≡ 2 ∷ 2 ∷ 2 ∷ [])
      × (answer_number (answer_to (8 ∷ 8 ∷ 8 ∷ []) 0 3 (reading (0xf6 ∷ 0 ∷ 0 ∷ 0 ∷ []) 3)) ≡ 9)
      × (read_gaq_gains (0xd8 ∷ []) 0 3 1 3 ≡ Ok (3, pos_of 5))
      × (gains_after (0xd8 ∷ []) 0 3 1 (1 ∷ 1 ∷ 1 ∷ []) ≡ 2 ∷ 0 ∷ 0 ∷ [])
  -- hebap 12 is active in mode 2, not 1: a choice of mode 2 has a gain for it, one of mode 1 none; of zeros they have
  -- 33 and 44 bits
  pub p9 : Choice 2 (4 ∷ []) (12 ∷ []) 0 1 × (choice_bits 2 (4 ∷ []) (12 ∷ []) (replicate 6 f0) 0 1 ≡ 33)
      × ((gains : List ℕ) → Choice 1 gains (12 ∷ []) 0 1 → gains ≡ []) × (choice_bits 1 [] (12 ∷ []) (replicate 6 f0) 0 1 ≡ 44)
  -- hebap_from_address at difference 255 gives 7, at 256 gives 8, at -1 gives 0
  pub p10 : (psd mask : ℤ) → lt_z mask (neg_ℤ (pos 65536)) || lt_z (pos 65536) mask ≡ false
      → (psd -ℤ mask ≡ pos 255 → hebap_from_address psd mask ≡ Ok 7)
      × (psd -ℤ mask ≡ pos 256 → hebap_from_address psd mask ≡ Ok 8)
      × (psd -ℤ mask ≡ negsuc 0 → hebap_from_address psd mask ≡ Ok 0)
  -- the desk channel: modes 0 to 3 have payload 18, 13, 13, 17: these choices have, and none of their mode has less
  pub p11 : (Choice 0 [] desk_row 0 2 × (payload_of 0 [] desk_row desk_vectors 0 2 ≡ 18))
      × (Choice 1 (2 ∷ []) desk_row 0 2 × (payload_of 1 (2 ∷ []) desk_row desk_vectors 0 2 ≡ 13))
      × (Choice 2 (4 ∷ []) desk_row 0 2 × (payload_of 2 (4 ∷ []) desk_row desk_vectors 0 2 ≡ 13))
      × (Choice 3 (2 ∷ []) desk_row 0 2 × (payload_of 3 (2 ∷ []) desk_row desk_vectors 0 2 ≡ 17))
      × ((mode : ℕ) (gains : List ℕ) → Choice mode gains desk_row 0 2 → get_or (18 ∷ 13 ∷ 13 ∷ 17 ∷ []) mode 0 ≤ payload_of mode gains desk_row desk_vectors 0 2)
      × (planned desk_row 0 2 desk_vectors ≡ Ok desk_plan)
      × (total_of desk_plan ≡ 15)
      × (channel_written desk_plan desk_row 0 2 desk_vectors (0 ∷ 0 ∷ []) 0 ≡ 0x69 ∷ 0x80 ∷ [])
  -- a component of 16384 is accepted, the next f32 above is not: in either sign, and no infinity or NaN is
  pub p12 : (map too_large largest ≡ false ∷ false ∷ []) × (map too_large too_large_ones ≡ replicate 8 true)
      × ((h g : ℕ) (x : Float) → allowed h g ≡ true → answer_number (quantised h g x) ≡ cond (too_large x) 5 0)
  -- whichever of the six it is, and by each call: the bin, the search, the planner, and the writer before 6 and 7
  pub p12_any : (a b c d e f : Float) → let six = a ∷ b ∷ c ∷ d ∷ e ∷ f ∷ [] in
      ((h g : ℕ) → allowed h g ≡ true → answer_number (quantised_bin h g six) ≡ cond (some_too_large six) 5 0)
      × ((h : ℕ) → has_book h ≡ true → answer_number (vq_search h six) ≡ cond (some_too_large six) 5 0)
      × ((h : ℕ) → 1 ≤ h → h ≤ 19 → (answer_number (planned (h ∷ []) 0 1 six) ≡ cond (some_too_large six) 5 0)
      × ((p : Plan) (out : List ℕ) (at : ℕ) → answer_number (channel_write p (h ∷ []) 0 1 six out at)
      ≡ cond (some_too_large six) 5 (cond (plan_fits p (h ∷ []) 0 1 six) (cond (leb (at + total_of p) (8 * length out)) 0 7) 6)))

-- ---- P1: no bins cost nothing in any mode, so the lowest mode is taken
no_words : (mode : ℕ) → gain_word_bits mode 0 ≡ 0
unfolding gain_word_bits word_bits sections
no_words mode = go (eqb mode 0) (eqb mode 3)
  where
    go : (a b : Bool) → cond b 5 1 * cond a 0 (cond b ((0 + 2) / 3) 0) ≡ 0
    go true true = refl
    go true false = refl
    go false true = refl
    go false false = refl

module _ (row : List ℕ) (x : List Float) (s : ℕ) where
  no_payload : (mode : ℕ) → least_of row x s s mode ≡ 0
  unfolding least_of active_count
  no_payload mode = rw (sum_none (least_at mode row x) s s (le_refl s), sum_none (active_at mode row) s s (le_refl s), no_words mode)

  lowest_mode : plan_mode row x s s ≡ 0
  unfolding plan_mode least_up_to
  lowest_mode = least_same (least_of row x s s) (λ mode. 0) 3 (λ mode m. no_payload mode)

  no_gains_lem : plan_gains row x s s ≡ []
  unfolding plan_gains
  no_gains_lem = gains_none (plan_mode row x s s) row x s s (le_refl s)

  p1_is : (total_of (plan_of row x s s) ≡ 2) × (field_of (plan_of row x s s) row s s x ≡ false ∷ false ∷ [])
  unfolding plan_of plan_payload number bits_n gain_words from each_enc
  p1_is = (rw (no_payload (plan_mode row x s s)), let none : s - s ≡ 0 = omega arith in rw (none, no_gains_lem, lowest_mode))

-- of the answers
p1_answers : (row : List ℕ) (x : List Float) (s : ℕ) → s ≤ 256 → s ≤ length row → 6 * s ≤ length x
    → let p = plan_answered row s s x in (answer_number (planned row s s x) ≡ 0) × (total_of p ≡ 2)
    × ((out : List ℕ) (at : ℕ) → at + 2 ≤ 8 * length out → channel_written p row s s x out at ≡ bytes_with out at (false ∷ false ∷ []))
p1_answers row x s few rows vectors =
    let a : Allowed row s s x = record {
      ordered = le_refl s;
      few = few;
      rows = rows;
      vectors = vectors;
      known = λ k l u. absurd (omega arith);
      components = λ k l u n. absurd (omega arith);
    } in
    let g = given row s s x a in
    let e = answer_plan row s s x g in
    let q = p1_is row x s in
    let two : total_of (plan_answered row s s x) ≡ 2 = ap total_of e ∙ q.0 in (
      g,
      two,
      λ out at h. (is_written row s s x g out at (omega arith)).1 ∙ ap (λ (p : Plan). bytes_with out at (field_of p row s s x)) e ∙ ap (bytes_with out at) q.1,
    )

-- ---- P9, P11: choices
one_gain_lem : (mode g : ℕ) (row : List ℕ) (end : ℕ) → mode ≤ 3 → 1 ≡ active_count mode row 0 end → allowed_gain mode g ≡ true → Choice mode (g ∷ []) row 0 end
one_gain_lem mode g row end m n a = record { mode_is = m; one_each = n; allowed = only }
  where
    only : (i : ℕ) → i < 1 → allowed_gain mode (get_or (g ∷ []) i 0) ≡ true
    only zero u = a
    only (suc i) u = absurd (omega arith)

no_gain : (mode : ℕ) (row : List ℕ) (end : ℕ) → mode ≤ 3 → 0 ≡ active_count mode row 0 end → Choice mode [] row 0 end
no_gain mode row end m n = record { mode_is = m; one_each = n; allowed = λ i u. absurd (omega arith) }

-- ---- P12
scalar_number : (h g : ℕ) (x : Float) → allowed h g ≡ true → answer_number (quantised h g x) ≡ cond (too_large x) 5 0
unfolding quantised_up_to
scalar_number h g x k = rw k (go (too_large x))
  where
    go : (t : Bool) → answer_number (cond t (Err Component) (Ok (code_level (picked h g x)))) ≡ cond t 5 0
    go true = refl
    go false = refl

bin_number : (h g : ℕ) (x : List Float) → allowed h g ≡ true → answer_number (quantised_bin h g x) ≡ cond (some_too_large x) 5 0
unfolding quantised_bin_up_to
bin_number h g x k = rw k (go (some_too_large x))
  where
    go : (t : Bool) → answer_number (cond t (Err Component) (Ok (bin_picked h g x))) ≡ cond t 5 0
    go true = refl
    go false = refl

search_number : (h : ℕ) (x : List Float) → has_book h ≡ true → answer_number (vq_search h x) ≡ cond (some_too_large x) 5 0
unfolding vq_search_up_to
search_number h x k = rw k (go (some_too_large x))
  where
    go : (t : Bool) → answer_number (cond t (Err Component) (Ok (search_of h x))) ≡ cond t 5 0
    go true = refl
    go false = refl

-- the causes of a channel of one bin
module _ (h : ℕ) (low : 1 ≤ h) (high : h ≤ 19) (a b c d e f : Float) where
  abbrev six : List Float
  six = a ∷ b ∷ c ∷ d ∷ e ∷ f ∷ []

  one_cause : cause_of (h ∷ []) 0 1 six ≡ cond (some_too_large six) (Some Component) None
  unfolding cause_up_to row_cause some_over unknown_at beyond_at
  one_cause = rw (le-ltb 19 h high, ne_eqb h 0 (λ z. omega arith))

  one_number : cause_number (cause_of (h ∷ []) 0 1 six) ≡ cond (some_too_large six) 5 0
  one_number = ap cause_number one_cause ∙ go (some_too_large six)
    where
      go : (t : Bool) → cause_number (cond t (Some Component) None) ≡ cond t 5 0
      go true = refl
      go false = refl

  one_written : (p : Plan) (out : List ℕ) (at : ℕ) → answer_number (channel_write p (h ∷ []) 0 1 six out at)
      ≡ cond (some_too_large six) 5 (cond (plan_fits p (h ∷ []) 0 1 six) (cond (leb (at + total_of p) (8 * length out)) 0 7) 6)
  unfolding write_cause_up_to plan_cause_up_to
  one_written p out at =
      write_number_lem p (h ∷ []) 0 1 six out at largest_size ∙ rw one_cause (go (some_too_large six) (plan_fits p (h ∷ []) 0 1 six) (leb (at + total_of p) (8 * length out)))
    where
      go : (t f l : Bool) → cause_number (first_of (first_of (cond t (Some Component) None) (cond f None (Some PlanMisfit))) (cond l None (Some OutputFull))) ≡ cond t 5 (cond f (cond l 0 7) 6)
      go true f l = refl
      go false true true = refl
      go false true false = refl
      go false false l = refl

-- ---- the rest compute
pub points : Points
unfolding sub mul div le of_int of_bits is_nan bits_n number_of bits_of number each_enc hebaptab mant_bits_table gaq_remap_table mant_bits gaq_remap_at hebap_from_address
    tagged coded beyond exact_of q15 offset_at gaq_remap divided endbap active coding_of other_gains gain_value word_bits sections gain_word_bits word_codes
    codes_from words_read words_end gain_codes gains_after group_words gain_words bin_of bin_at gain_at from round_mag round_away abs_f value_at probed best_of est_one
    best_one slope_at est_large best_large small_of one_code large_code tagged_code picked quantised_up_to sum_over some_over bin_bits codes_bits cheapest least_up_to
    active_at active_count best_gain least_at least_of plan_mode gains_over plan_gains plan_payload no_gains unknown_at beyond_at plan_of cause_up_to planned_up_to row_cause
    read_cause found allowed_gain read_gaq_gains chosen_at payload_of choice_bits plan_cause_up_to write_cause_up_to channel_written_up_to bytes_with bytes_of splice wrong_gain choice_fits plan_fits vq_search_up_to
    each_dec joined
points = record {
  p1 = p1_answers;
  p2 = refl;
  p3 = refl;
  p4 = refl;
  p5 = refl;
  p6 = (refl, refl, refl, refl);
  p7 = (tt, tt, tt);
  p8 = (refl, refl, refl, refl, refl, refl, refl, refl);
  p9 = (one_gain_lem 2 4 (12 ∷ []) 1 (omega arith) refl refl, refl, λ gains c. empty gains c.one_each, refl);
  p10 = λ psd mask r. (λ e. rw (r, e), λ e. rw (r, e), λ e. rw (r, e));
  p11 = (
    (no_gain 0 desk_row 2 (omega arith) refl, refl),
    (one_gain_lem 1 2 desk_row 2 (omega arith) refl refl, refl),
    (one_gain_lem 2 4 desk_row 2 (omega arith) refl refl, refl),
    (one_gain_lem 3 2 desk_row 2 (omega arith) refl refl, refl),
    λ mode gains c. le_trans (le_of_eq (sym (desk_least mode c.mode_is))) (least_mode mode gains desk_row desk_vectors 0 2 c),
    refl,
    refl,
    refl,
  );
  p12 = (refl, refl, scalar_number);
  p12_any = λ a b c d e f.
      let six = a ∷ b ∷ c ∷ d ∷ e ∷ f ∷ [] in (
        λ h g k. bin_number h g six k,
        λ h k. search_number h six k,
        λ h l u. (refusal_is (h ∷ []) 0 1 six ∙ one_number h l u a b c d e f, one_written h l u a b c d e f),
      );
}
  where
    desk_least : (mode : ℕ) → mode ≤ 3 → least_of desk_row desk_vectors 0 2 mode ≡ get_or (18 ∷ 13 ∷ 13 ∷ 17 ∷ []) mode 0
    desk_least zero l = refl
    desk_least (suc zero) l = refl
    desk_least (suc (suc zero)) l = refl
    desk_least (suc (suc (suc zero))) l = refl
    desk_least (suc (suc (suc (suc mode)))) l = absurd (omega arith)
