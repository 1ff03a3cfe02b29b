-- What the planner works with on the way to Choice: the costs of a bin at each gain, and what it keeps of each mode.
-- Nothing here has a meaning of its own. docs/FORMAT.md, Planner.
use Rattle.std.specs.Prelude.{ℕ, ◌+◌, ◌-◌, ◌*◌, ◌^◌, ◌≤◌, ◌<◌, ◌≡◌, false, cond, List, [], ◌++◌, eqb, leb, negsuc, length, get_or, drop, set, Float}
use Rattle.std.specs.Float.{nan, fin}
use Rattle.std.specs.Float.Ieee.{lt, le, neg}
use Rattle.tables.specs.Tables.{mant_bits, vq_bits}
use Rattle.gains.specs.Gains.{active, other_gains, gain_word_bits}
use Rattle.levels.specs.Value.{f0}
use Rattle.levels.specs.Codes.{code_bits}
use Rattle.quantiser.specs.Quantise.{picked, codes_bits}
use Rattle.channel.specs.Bins.{sum_over}
use Rattle.channel.specs.Row.{no_gains, active_count, RowOk}
use Rattle.planner.specs.Choice.{cheapest, least_at, gains_over}
use Rattle.planner.specs.declared.costs.Costs.{Costs}
use Rattle.planner.specs.declared.Limits.{Limits}
use Rattle.planner.specs.declared.tally.Tally.{Tally}

-- ---- one component
-- the size of x; -0 is left as it is
unfoldable pub size_of : Float → Float
size_of x = cond (lt x f0) (neg x) x

-- (2 ^ b - 1) / 2 ^ (n + 1): from here on x times 2 ^ n rounds to 2 ^ (b - 1) or more, which b bits do not hold
unfoldable pub limit_of : ℕ → ℕ → Float
limit_of n b = fin false (2 ^ b - 1) (negsuc n)

unfoldable pub limits_of : ℕ → Limits
limits_of h = let m = mant_bits h in record { two = limit_of (m - 1) (m - 1); four = limit_of (m - 1) (m - 2) }

-- ---- one bin
-- the component i, at the gain g: the bits of the quantiser's code
unfoldable pub component_bits : ℕ → ℕ → List Float → ℕ → ℕ
component_bits h g v i = code_bits (mant_bits h) g (picked h g (get_or v i nan)).0

-- six codes: codes_bits of them, by the law six_codes
unfoldable pub six_bits : ℕ → List Float → ℕ → ℕ
six_bits h v g = sum_over (component_bits h g v) 0 6

-- one for a component that takes the tag
abbrev pub tag_at : Float → List Float → ℕ → ℕ
tag_at limit v i = cond (le limit (size_of (get_or v i nan))) 1 0

-- six codes of the bits small, and large more behind each tag
unfoldable pub tagged_bits : List Float → Float → ℕ → ℕ → ℕ
tagged_bits v limit small large = 6 * small + sum_over (tag_at limit v) 0 6 * large

unfoldable pub cost_in : Costs → ℕ → ℕ
cost_in c g = cond (eqb g 1) c.one (cond (eqb g 2) c.two c.four)

-- those of the codes of six components
abbrev pub CostsOf : ℕ → List Float → Costs → Type 0
CostsOf h v c = (g : ℕ) → cost_in c g ≡ codes_bits h g v

unfoldable pub gain_in : ℕ → Costs → ℕ
gain_in mode c = cheapest (cost_in c) 1 (other_gains mode)

-- six components at Gk 1, or the index of a book: the bits of a bin that is active in no mode
unfoldable pub plain_bits : ℕ → ℕ
plain_bits h = cond (leb h 7) (vq_bits h) (6 * mant_bits h)

-- ---- one mode
unfoldable pub no_tally : Tally
no_tally = record { bits = 0; count = 0; gains = no_gains }

-- with one more bin of the hebap h
unfoldable pub with_bin : ℕ → ℕ → Costs → Tally → Tally
with_bin mode h c t = record {
  bits = t.bits + cost_in c (cond (active mode h) (gain_in mode c) 1);
  count = t.count + cond (active mode h) 1 0;
  gains = cond (active mode h) (set t.gains t.count (gain_in mode c)) t.gains;
}

-- so small that sums of them fit, and room for a gain more
pub record Small (t : Tally) : Type 0 where
  pub few_bits : t.bits ≤ 65536
  pub few_gains : t.count < 256

-- the bins start to end - 1, where plain is the bits of those that are active in no mode
pub record TallyOf (row : List ℕ) (x : List Float) (start end plain mode : ℕ) (t : Tally) : Type 0 where
  pub bits_are : plain + t.bits ≡ sum_over (least_at mode row x) start end
  pub count_is : t.count ≡ active_count mode row start end
  pub gains_are : t.gains ≡ gains_over mode row x start end ++ drop t.count no_gains

-- the payload
unfoldable pub payload_in : ℕ → ℕ → Tally → ℕ
payload_in plain mode t = plain + t.bits + gain_word_bits mode t.count

-- ---- all modes
-- that of the mode m, of four
abbrev pub tally_at : List Tally → ℕ → Tally
tally_at ts m = get_or ts m (record { bits = 0; count = 0; gains = [] })

abbrev pub AllSmall : List Tally → Type 0
AllSmall ts = (m : ℕ) → m ≤ 3 → Small (tally_at ts m)

abbrev pub TalliesOf : List ℕ → List Float → ℕ → ℕ → ℕ → List Tally → Type 0
TalliesOf row x start end plain ts = (m : ℕ) → m ≤ 3 → TallyOf row x start end plain m (tally_at ts m)

abbrev pub payload_at : ℕ → List Tally → ℕ → ℕ
payload_at plain ts mode = payload_in plain mode (tally_at ts mode)

-- so small that the sum fits
abbrev pub AllFew : ℕ → List Tally → Type 0
AllFew plain ts = (m : ℕ) → m ≤ 3 → (plain + (tally_at ts m).bits ≤ 65536) × ((tally_at ts m).count ≤ 256)

-- ---- what holds where none of causes 1 to 4 does
pub record Within (row : List ℕ) (start end : ℕ) (x : List Float) : Type 0 where
  pub row_ok : RowOk row start end
  pub vectors : 6 * end ≤ length x
