-- plan_aht_channel and write_aht_channel of ahtenc.rs, loop by loop. Gains are the Rust's codes 0, 1, 2 (Table E3.4) for
-- Gk 1, 2, 4.
use Rattle.std.specs.Prelude.{ℕ, zero, suc, ◌+◌, ◌*◌, ◌/◌, Bool, cond, not, ◌&&◌, ◌||◌, List, [], ◌∷◌, ◌++◌, map, eqb, leb, ltb, length, get_or, drop, Float}
use Rattle.bits.specs.Bits.{bits_n, written}
use Rattle.tables.specs.Tables.{mant_bits, vq_bits}
use Rattle.gains.specs.Gains.{endbap}
use Rattle.levels.specs.declared.Code.{Code}
use Rattle.levels.specs.Codes.{small_bits, large_bits, tag}
use Rattle.books.specs.Books.{search_of}
use Rattle.quantiser.specs.Quantise.{picked, scalar_bits}
use Rattle.channel.specs.Row.{no_gains, six_of}
use Rattle.planner.specs.declared.Plan.{Plan}

-- ---- gains
-- gain_of_mapped, and the code of a gain
abbrev pub gain_of_mapped : ℕ → ℕ
gain_of_mapped c = cond (eqb c 0) 1 (cond (eqb c 1) 2 4)

abbrev pub mapped_of : ℕ → ℕ
mapped_of g = cond (eqb g 1) 0 (cond (eqb g 2) 1 2)

-- mode_allowed
abbrev pub mode_allowed : ℕ → List ℕ
mode_allowed mode = cond (eqb mode 1) (0 ∷ 1 ∷ []) (cond (eqb mode 2) (0 ∷ 2 ∷ []) (cond (eqb mode 3) (0 ∷ 1 ∷ 2 ∷ []) (0 ∷ [])))

-- gaqmod > 0 && h < endbap, asked where hebap is 8 or more
abbrev pub has_gain : ℕ → ℕ → Bool
has_gain mode h = not (eqb mode 0) && ltb h (endbap mode)

-- ---- plan_aht_channel
-- bin_bits: scalar_bits of each component
unfoldable pub bits_of_bin : ℕ → ℕ → List Float → ℕ
bits_of_bin h g [] = 0
bits_of_bin h g (x ∷ xs) = scalar_bits h g x + bits_of_bin h g xs

-- the loop over the allowed codes: b_gain and b_bits
pub record GainBits : Type 0 where
  pub gain : ℕ
  pub bits : ℕ

unfoldable pub gain_loop : (ℕ → ℕ) → List ℕ → GainBits → GainBits
gain_loop cost [] b = b
gain_loop cost (c ∷ cs) b =
    let bits = cost (gain_of_mapped c) in
    gain_loop cost cs (cond (ltb bits b.bits) (record { gain = c; bits = bits }) b)

-- it starts at (0, u32::MAX)
abbrev pub no_gain_yet : GainBits
no_gain_yet = record { gain = 0; bits = 4294967295 }

-- a plan of the Rust
pub record AhtPlan : Type 0 where
  pub gaqmod : ℕ
  pub gains : List ℕ
  pub bits : ℕ

-- the loop over the bins: a bin of hebap h with the vector v
unfoldable pub bin_step : ℕ → ℕ → List Float → AhtPlan → AhtPlan
bin_step mode h v p =
    let b = gain_loop (λ g. bits_of_bin h g v) (mode_allowed mode) no_gain_yet in
    cond (eqb h 0) p
    (cond (leb h 7) (record { gaqmod = mode; gains = p.gains; bits = p.bits + vq_bits h })
    (cond (has_gain mode h) (record { gaqmod = mode; gains = p.gains ++ (b.gain ∷ []); bits = p.bits + b.bits })
    (record { gaqmod = mode; gains = p.gains; bits = p.bits + bits_of_bin h 1 v })))

unfoldable pub bin_loop : ℕ → List ℕ → List Float → ℕ → ℕ → AhtPlan
bin_loop mode row x start zero = record { gaqmod = mode; gains = []; bits = 0 }
bin_loop mode row x start (suc e) =
    cond (leb start e) (bin_step mode (get_or row e 0) (six_of x e) (bin_loop mode row x start e)) (record { gaqmod = mode; gains = []; bits = 0 })

-- gain_bits
abbrev pub gain_bits : ℕ → ℕ → ℕ
gain_bits mode n = cond (eqb mode 1 || eqb mode 2) n (cond (eqb mode 3) ((n + 2) / 3 * 5) 0)

unfoldable pub mode_plan : List ℕ → List Float → ℕ → ℕ → ℕ → AhtPlan
mode_plan row x start end mode =
    let p = bin_loop mode row x start end in
    record { gaqmod = mode; gains = p.gains; bits = p.bits + gain_bits mode (length p.gains) }

-- the loop over the modes: a later one is taken where it has fewer bits
unfoldable pub mode_loop : (ℕ → AhtPlan) → ℕ → AhtPlan
mode_loop plan zero = plan 0
mode_loop plan (suc n) = cond (ltb (plan (suc n)).bits (mode_loop plan n).bits) (plan (suc n)) (mode_loop plan n)

unfoldable pub aht_plan : List ℕ → List Float → ℕ → ℕ → AhtPlan
aht_plan row x start end = mode_loop (mode_plan row x start end) 3

-- the same plan with gains as Gk, in 256 places
abbrev pub plan_from : AhtPlan → Plan
plan_from p = record {
  mode = p.gaqmod;
  gains = map gain_of_mapped p.gains ++ drop (length p.gains) no_gains;
  count = length p.gains;
  payload = p.bits;
}

-- ---- write_aht_channel
-- a call of write_u32(v, n)
pub record Write : Type 0 where
  pub v : ℕ
  pub n : ℕ

abbrev pub write : ℕ → ℕ → Write
write v n = record { v = v; n = n }

-- the bits of calls, and the output after them, from the bit at on
unfoldable pub bits_put : List Write → List Bool
bits_put [] = []
bits_put (w ∷ ws) = bits_n w.n w.v ++ bits_put ws

unfoldable pub after_writes : List ℕ → ℕ → List Write → List ℕ
after_writes out at [] = out
after_writes out at (w ∷ ws) = after_writes (written out at w.v w.n) (at + w.n) ws

-- the bit behind them
unfoldable pub behind_writes : ℕ → List Write → ℕ
behind_writes at [] = at
behind_writes at (w ∷ ws) = behind_writes (at + w.n) ws

-- gain words: a bit that says whether the code is not 0, or three codes
abbrev pub bit_write : ℕ → Write
bit_write c = write (cond (eqb c 0) 0 1) 1

abbrev pub word_write : ℕ → ℕ → ℕ → Write
word_write a b c = write (a * 9 + b * 3 + c) 5

unfoldable pub word_writes : List ℕ → List Write
word_writes [] = []
word_writes (a ∷ []) = word_write a 0 0 ∷ []
word_writes (a ∷ b ∷ []) = word_write a b 0 ∷ []
word_writes (a ∷ b ∷ c ∷ cs) = word_write a b c ∷ word_writes cs

unfoldable pub gain_writes : ℕ → List ℕ → List Write
gain_writes mode codes = cond (eqb mode 1 || eqb mode 2) (map bit_write codes) (cond (eqb mode 3) (word_writes codes) [])

-- a mantissa: code.first, and code.second behind a tag
abbrev pub code_writes : ℕ → ℕ → Code → List Write
code_writes m g (Code.Small s) = write s (small_bits m g) ∷ []
code_writes m g (Code.Large l) = cond (eqb g 1) (write l m ∷ []) (write (tag (small_bits m g)) (small_bits m g) ∷ write l (large_bits m g) ∷ [])

unfoldable pub mantissa_writes : ℕ → ℕ → List Float → List Write
mantissa_writes h g [] = []
mantissa_writes h g (x ∷ xs) = code_writes (mant_bits h) g (picked h g x).0 ++ mantissa_writes h g xs

-- a bin of hebap h with the vector v, and the code that is next
unfoldable pub bin_writes : ℕ → ℕ → ℕ → List Float → List Write
bin_writes mode h code v =
    cond (eqb h 0) []
    (cond (leb h 7) (write (search_of h v) (vq_bits h) ∷ [])
    (mantissa_writes h (cond (has_gain mode h) (gain_of_mapped code) 1) v))

-- gain_iter behind a bin
abbrev pub codes_behind : ℕ → ℕ → List ℕ → List ℕ
codes_behind mode h codes = cond (leb 8 h && has_gain mode h) (drop 1 codes) codes

-- n bins from k on
unfoldable pub bins_writes : ℕ → List ℕ → List Float → List ℕ → ℕ → ℕ → List Write
bins_writes mode row x codes k zero = []
bins_writes mode row x codes k (suc n) =
    bin_writes mode (get_or row k 0) (get_or codes 0 0) (six_of x k) ++ bins_writes mode row x (codes_behind mode (get_or row k 0) codes) (suc k) n

-- all calls, for a mode and codes
unfoldable pub aht_writes : ℕ → List ℕ → List ℕ → List Float → ℕ → ℕ → List Write
aht_writes mode codes row x start n = write mode 2 ∷ (gain_writes mode codes ++ bins_writes mode row x codes start n)
