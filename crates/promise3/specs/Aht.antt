-- The functions of aht.rs one after another, as a decoder calls them for a channel (ATSC A/52 Annex E, 3.4): two bits
-- of chgaqmod, fill_gaqbin, gaq_sections, read_gaq_gains a section at a time, then bin by bin vq_lookup of an index, or
-- read_scalar_aht_mantissas. Each is the definition that the contract of its call cites.
use Rattle.std.specs.Prelude.{ℕ, zero, suc, ◌*◌, ◌-◌, cond, List, [], ◌∷◌, ◌++◌, map, ℤ, pos, negsuc, eqb, length, get_or, take, drop, replicate, Float, Result, Ok, Err}
use Rattle.answers.specs.Answers.{value_or}
use Rattle.answers.specs.declared.Refusal.{Refusal}
use Rattle.bits.specs.Bits.{bit_at, read_u32}
use Rattle.bits.specs.Format.{move_answer}
use Rattle.bits.specs.declared.BitPos.{BitPos}
use Rattle.tables.specs.Tables.{vq_bits}
use Rattle.gains.specs.Gains.{gaq_gain_value, gaq_sections, fill_gaqbin, gaqbin_after, read_gaq_gains, gains_after}
use Rattle.levels.specs.Value.{f0}
use Rattle.scalars.specs.Scalars.{scalars_read, scalars_after}
use Rattle.books.specs.Books.{has_book, vq_lookup}

-- ---- steps
-- what a function takes from the bits, and the bit behind it; or its refusal
pub data Step (A : Type 0) : Type 0 where
  took : A → ℕ → Step A
  failed : Refusal → Step A

abbrev pub next : {A B : Type 0} → Step A → (A → ℕ → Step B) → Step B
next (took a at) f = f a at
next (failed k) f = failed k

-- br.read_u32
abbrev pub number_taken : Result (ℕ × BitPos) Refusal → Step ℕ
number_taken (Ok r) = took r.0 (bit_at r.1)
number_taken (Err k) = failed k

-- read_gaq_gains: the codes stand at the front of its output
abbrev pub codes_taken : List ℕ → Result (ℕ × BitPos) Refusal → Step (List ℕ)
codes_taken out (Ok r) = took (take r.0 out) (bit_at r.1)
codes_taken out (Err k) = failed k

-- read_scalar_aht_mantissas: the values are its output
abbrev pub values_taken : List Float → Result BitPos Refusal → Step (List Float)
values_taken out (Ok p) = took out (bit_at p)
values_taken out (Err k) = failed k

-- the codes that are left behind a bin: one marked 1 has taken the first
abbrev pub behind_bin : ℤ → List ℕ → List ℕ
behind_bin (pos n) codes = cond (eqb n 1) (drop 1 codes) codes
behind_bin (negsuc n) codes = codes

-- ---- the functions in the order of a channel, for the bytes s
module _ (s : List ℕ) where
  -- so many sections, each by a call with the places that are left
  unfoldable pub sections_read : ℕ → ℕ → ℕ → ℕ → Step (List ℕ)
  sections_read mode zero places at = took [] at
  sections_read mode (suc n) places at =
      next (codes_taken (gains_after s at mode 1 (replicate places 0)) (read_gaq_gains s at mode 1 places)) (λ codes at₁.
      next (sections_read mode n (places - length codes) at₁) (λ more at₂.
      took (codes ++ more) at₂))

  -- a bin with the mark that fill_gaqbin gave it, and its gain's code
  unfoldable pub mantissas_read : ℕ → ℕ → ℤ → ℕ → ℕ → Step (List Float)
  mantissas_read mode h mark code at =
      let r = scalars_read s at h mode mark code in
      cond (has_book h)
      (next (number_taken (read_u32 s at (vq_bits h))) (λ i at₁. took (vq_lookup h i) at₁))
      (values_taken (scalars_after (replicate 6 f0) r) (move_answer (8 * length s) r))

  -- bins in rising order, with their marks and the codes of those marked 1
  unfoldable pub bins_read : ℕ → List ℕ → List ℤ → List ℕ → ℕ → Step (List Float)
  bins_read mode [] marks codes at = took [] at
  bins_read mode (h ∷ hs) marks codes at =
      let mark = get_or marks 0 (pos 0) in
      next (mantissas_read mode h mark (get_or codes 0 0) at) (λ values at₁.
      next (bins_read mode hs (drop 1 marks) (behind_bin mark codes) at₁) (λ more at₂.
      took (values ++ more) at₂))

-- what they give: the mode, Gk of each code and six f32 a bin
pub record AhtChannel : Type 0 where
  pub mode : ℕ
  pub gains : List ℕ
  pub values : List Float

abbrev pub channel_with : ℕ → List ℕ → List Float → AhtChannel
channel_with mode codes values = record { mode = mode; gains = map (λ code. value_or 0 (gaq_gain_value code mode)) codes; values = values }

-- behind the mode, for the hebaps of the bins
unfoldable pub aht_behind : List ℕ → List ℕ → ℕ → ℕ → Step AhtChannel
aht_behind s hs mode at =
    let active = value_or 0 (fill_gaqbin mode hs (length hs)) in
    let marks = gaqbin_after mode hs (replicate (length hs) (pos 0)) in
    next (sections_read s mode (value_or 0 (gaq_sections mode active)) active at) (λ codes at₁.
    next (bins_read s mode hs marks codes at₁) (λ values at₂.
    took (channel_with mode codes values) at₂))

-- the bins start to end - 1 of a row, from the bit at on
unfoldable pub aht_read : List ℕ → ℕ → ℕ → List ℕ → ℕ → Step AhtChannel
aht_read row start end s at = next (number_taken (read_u32 s at 2)) (λ mode at₁. aht_behind s (take (end - start) (drop start row)) mode at₁)
