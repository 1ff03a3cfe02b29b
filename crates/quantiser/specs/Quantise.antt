-- quantise_scalar and quantise_bin of the Rust, operation by operation. docs/FORMAT.md, Quantiser; the codes are those
-- of ATSC A/52 Annex E, 3.4.4.2.
use Rattle.std.specs.Prelude.{ℕ, suc, ◌+◌, ◌-◌, ◌%◌, ◌^◌, Bool, false, cond, ◌&&◌, ◌||◌, List, [], ◌∷◌, map, ℤ, pos, negsuc, ◌+ℤ◌, ◌-ℤ◌, neg_ℤ, ◌==◌, from_bits, int_lt, is_nan, nat_le, Float, Result, Ok, Err, replicate}
use Rattle.std.specs.Float.{nan, inf, fin, binary32}
use Rattle.std.specs.Float.Ieee.{add, sub, mul, div, lt, le}
use Rattle.tables.specs.Tables.{mant_bits}
use Rattle.levels.specs.declared.Code.{Code}
use Rattle.levels.specs.declared.Level.{Level}
use Rattle.levels.specs.Codes.{large_of, code_of, small_bits, large_bits, code_bits}
use Rattle.levels.specs.Component.{beyond, some_beyond, largest_size}
use Rattle.levels.specs.Value.{f0, f1, power, gaq_remap, divided, value_in}
use Rattle.quantiser.specs.Round.{round_away}
use Rattle.quantiser.specs.declared.Best.{Best}
use Rattle.quantiser.specs.declared.CodeLevel.{CodeLevel}
use Rattle.quantiser.specs.declared.QuantisedBin.{QuantisedBin}
use Rattle.answers.specs.Answers.{after_answer}
use Rattle.answers.specs.declared.Refusal.{Refusal}
use Rattle.answers.specs.declared.Refusal.TheVariants.{Component, NoQuantiser}

-- ---- numbers
-- 1e-9 and f32::INFINITY, by their bit patterns
abbrev pub f1e_9 : Float
f1e_9 = from_bits binary32 0x3089_705f

abbrev pub infinity : Float
infinity = from_bits binary32 0x7f80_0000

-- Rust's `clamp` and `min`
abbrev pub clamp_z : ℤ → ℤ → ℤ → ℤ
clamp_z lo hi z = cond (int_lt z lo) lo (cond (int_lt hi z) hi z)

abbrev pub min_z : ℤ → ℤ → ℤ
min_z a b = cond (int_lt b a) b a

-- to_bits: the low w bits of v in two's complement
abbrev pub to_bits : ℕ → ℤ → ℕ
to_bits w (pos n) = n % 2 ^ w
to_bits w (negsuc n) = 2 ^ w - suc (n % 2 ^ w)

-- Rust's `abs` clears the sign
unfoldable pub abs_f : Float → Float
abs_f nan = nan
abs_f (inf s) = inf false
abs_f (fin s m e) = fin false m e

-- Rust's `a.max(b)`, for a b that is no NaN and not 0
abbrev pub max_f : Float → Float → Float
max_f a b = cond (lt a b) b (cond (is_nan a) b a)

-- ---- the probes
-- the f32 of the level k, where 2 ^ n is the whole scale
unfoldable pub value_at : ℕ → ℕ → ℕ → ℤ → Float
value_at h g n k = gaq_remap h g (divided n k)

-- one probe: z, clamped to the range, takes the place of the best so far where its error is less
unfoldable pub probed : ℕ → ℕ → ℕ → ℤ → ℤ → Float → ℤ → Best → Best
probed h g n lo hi x z b =
    let k = clamp_z lo hi z in
    let e = abs_f (sub binary32 (value_at h g n k) x) in
    cond (lt e b.e) (record { k = k; e = e }) b

-- the best of est - 1, est and est + 1: the first with the least error
unfoldable pub best_of : ℕ → ℕ → ℕ → ℤ → ℤ → Float → ℤ → ℤ → ℤ
best_of h g n lo hi x start est =
    (probed h g n lo hi x (est +ℤ pos 1) (probed h g n lo hi x est (probed h g n lo hi x (est -ℤ pos 1) (record { k = start; e = infinity })))).k

-- ---- Gk 1: k of m bits, from -(2 ^ (m-1) - 1) to 2 ^ (m-1) - 1, where n = m-1
-- the value of the level 1, and x in such units
abbrev pub unit_of : ℕ → ℕ → Float
unit_of h n = gaq_remap h 1 (div binary32 f1 (power n))

abbrev pub units_in : ℕ → ℕ → Float → Float
units_in h n x = div binary32 x (unit_of h n)

unfoldable pub est_one : ℕ → ℕ → Float → ℤ
est_one h n x = cond (lt f0 (unit_of h n)) (round_away (units_in h n x)) (pos 0)

unfoldable pub best_one : ℕ → ℕ → Float → ℤ
best_one h n x = best_of h 1 n (neg_ℤ (pos (2 ^ n - 1))) (pos (2 ^ n - 1)) x (pos 0) (est_one h n x)

-- ---- Gk 2 and 4: a large codeword l, whose whole scale is 2 ^ n
unfoldable pub slope_at : ℕ → ℕ → ℕ → Float
slope_at h g n = max_f (sub binary32 (value_at h g n (min_z (pos 1) (pos (2 ^ n - 1)))) (value_at h g n (pos 0))) f1e_9

-- the steps from the level k to x
abbrev pub steps_from : ℕ → ℕ → ℕ → ℤ → Float → Float
steps_from h g n k x = div binary32 (sub binary32 x (value_at h g n k)) (slope_at h g n)

unfoldable pub est_large : ℕ → ℕ → ℕ → Float → ℤ
est_large h g n x =
    cond (le f0 x)
    (clamp_z (pos 0) (pos (2 ^ n - 1)) (round_away (steps_from h g n (pos 0) x)))
    (clamp_z (neg_ℤ (pos (2 ^ n))) (negsuc 0) (negsuc 0 +ℤ round_away (steps_from h g n (negsuc 0) x)))

unfoldable pub best_large : ℕ → ℕ → ℕ → Float → ℤ
best_large h g n x = best_of h g n (neg_ℤ (pos (2 ^ n))) (pos (2 ^ n - 1)) x (est_large h g n x) (est_large h g n x)

-- ---- Gk 2 and 4: a small codeword s
-- x in steps of small codes
abbrev pub scaled_up : ℕ → Float → Float
scaled_up n x = mul binary32 x (power n)

unfoldable pub small_of : ℕ → Float → ℤ
small_of n x = round_away (scaled_up n x)

-- s lies strictly between the tag and its opposite, in b bits
abbrev pub is_small : ℕ → ℤ → Bool
is_small b s = int_lt (neg_ℤ (pos (2 ^ (b - 1)))) s && int_lt s (pos (2 ^ (b - 1)))

-- ---- the code that is picked for x, and the f32 that comes with it
-- the level k as a large code of l bits
abbrev pub large_level : ℕ → ℕ → ℕ → ℤ → Code × Level
large_level h g l k = (Code.Large (to_bits l k), Level.Large (value_at h g (l - 1) k))

unfoldable pub one_code : ℕ → Float → Code × Level
one_code h x = large_level h 1 (mant_bits h) (best_one h (mant_bits h - 1) x)

unfoldable pub large_code : ℕ → ℕ → ℕ → Float → Code × Level
large_code h g l x = large_level h g l (best_large h g (l - 1) x)

-- small codes of b bits, large ones of l bits, where 2 ^ n is the small codes' whole scale
unfoldable pub tagged_code : ℕ → ℕ → ℕ → ℕ → ℕ → Float → Code × Level
tagged_code h g n b l x =
    let s = small_of n x in
    cond (is_small b s) (Code.Small (to_bits b s), Level.Small (divided n s)) (large_code h g l x)

unfoldable pub picked : ℕ → ℕ → Float → Code × Level
picked h g x = cond (g == 1) (one_code h x) (tagged_code h g (mant_bits h - 1) (small_bits (mant_bits h) g) (large_bits (mant_bits h) g) x)

-- scalar_bits: m at Gk 1; else the bits of a small code, with those of a large one behind its tag where x is not small
unfoldable pub scalar_bits : ℕ → ℕ → Float → ℕ
scalar_bits h g x =
    let m = mant_bits h in
    cond (g == 1) m (cond (is_small (small_bits m g) (small_of (m - 1) x)) (small_bits m g) (small_bits m g + large_bits m g))

-- as a struct
abbrev pub code_level : Code × Level → CodeLevel
code_level p = record { code = p.0; level = p.1 }

-- ---- quantise_scalar: 11, then 5
-- hebap 8 to 19, Gk 1, 2 or 4, and Gk 1 alone above hebap 16
abbrev pub allowed : ℕ → ℕ → Bool
allowed h g = nat_le 8 h && nat_le h 19 && (g == 1 || nat_le h 16 && (g == 2 || g == 4))

-- where components up to a limit are accepted
unfoldable pub quantised_up_to : ℕ → ℕ → ℕ → Float → Result CodeLevel Refusal
quantised_up_to limit h g x =
    cond (allowed h g)
    (cond (beyond limit x) (Err Component) (Ok (code_level (picked h g x))))
    (Err NoQuantiser)

abbrev pub quantised : ℕ → ℕ → Float → Result CodeLevel Refusal
quantised = quantised_up_to largest_size

-- the kind and the bits of its code, and its f32; what stood there before where it refuses
abbrev pub picked_large : ℕ → Result CodeLevel Refusal → ℕ
picked_large = after_answer (λ (p : CodeLevel). large_of p.code)

abbrev pub picked_code : ℕ → Result CodeLevel Refusal → ℕ
picked_code = after_answer (λ (p : CodeLevel). code_of p.code)

abbrev pub picked_value : Float → Result CodeLevel Refusal → Float
picked_value = after_answer (λ (p : CodeLevel). value_in p.level)

-- ---- quantise_bin: the six values, their bits and the sum of the squared errors, in order
abbrev pub bin_values : ℕ → ℕ → List Float → List Float
bin_values h g xs = map (λ x. value_in (picked h g x).1) xs

unfoldable pub codes_bits : ℕ → ℕ → List Float → ℕ
codes_bits h g [] = 0
codes_bits h g (x ∷ xs) = code_bits (mant_bits h) g (picked h g x).0 + codes_bits h g xs

unfoldable pub error_from : ℕ → ℕ → Float → List Float → Float
error_from h g err [] = err
error_from h g err (x ∷ xs) =
    let d = sub binary32 (value_in (picked h g x).1) x in
    error_from h g (add binary32 err (mul binary32 d d)) xs

unfoldable pub bin_picked : ℕ → ℕ → List Float → QuantisedBin
bin_picked h g xs = record { values = bin_values h g xs; bits = codes_bits h g xs; err = error_from h g f0 xs }

-- what stands beside a refusal
abbrev pub no_bin : QuantisedBin
no_bin = record { values = replicate 6 f0; bits = 0; err = f0 }

-- 11, then 5
unfoldable pub quantised_bin_up_to : ℕ → ℕ → ℕ → List Float → Result QuantisedBin Refusal
quantised_bin_up_to limit h g xs =
    cond (allowed h g) (cond (some_beyond limit xs) (Err Component) (Ok (bin_picked h g xs))) (Err NoQuantiser)

abbrev pub quantised_bin : ℕ → ℕ → List Float → Result QuantisedBin Refusal
quantised_bin = quantised_bin_up_to largest_size
