-- What stands at the places of a record, when an answer is the record's, and the count of answers. The places are
-- those that src/lib.rt names.
use Rattle.std.specs.Prelude.{◌≡◌, ◌≢◌, ℕ, ◌+◌, ◌*◌, ◌%◌, ◌^◌, Bool, cond, not, ◌&&◌, List, ◌==◌, from_bits, is_nan, nat_lt, slice_index, to_bits, Float, Result, MatchResult, Option, All, length}
use Rattle.std.specs.List.{FoldsTo, concat}
use Rattle.std.specs.Io.KnownBytes.{Consumes}
use Rattle.std.specs.Float.{nan, binary32}
use Rattle.bits.specs.declared.BitPos.{BitPos}
use Rattle.records.specs.declared.Count.{Count}
use Rattle.records.specs.declared.Function.{Function}
use Rattle.records.specs.declared.Function.TheVariants.{ReadU32, WriteU32, HebapFromAddress, EndbapForGaqmod, FillGaqbin, GaqSections, GaqGainValue, ReadGaqGains, ReadScalarAhtMantissas, VqLookup, VqSearch, QuantiseScalar, QuantiseBin, PlanAhtChannel, WriteAhtChannel, ReadAhtChannel, ReadThree, PrintPages}
use Rattle.records.specs.declared.NoFunction.{NoFunction}

-- ---- numbers
-- the byte at a place, and the numbers of 16, 32 and 64 bits there, the least significant byte first
abbrev pub at8 : List ℕ → ℕ → ℕ
at8 r k = slice_index r k

unfoldable pub at16 : List ℕ → ℕ → ℕ
at16 r k = at8 r k + 256 * at8 r (k + 1)

unfoldable pub at32 : List ℕ → ℕ → ℕ
at32 r k = at16 r k + 0x1_0000 * at16 r (k + 2)

unfoldable pub at64 : List ℕ → ℕ → ℕ
at64 r k = at32 r k + 0x1_0000_0000 * at32 r (k + 4)

-- the f32 of these bits
unfoldable pub float_of : ℕ → Float
float_of bits = cond (nat_lt 0x7f80_0000 (bits % 0x8000_0000)) nan (from_bits binary32 bits)

-- ---- the function
-- the number that a record has for its function
abbrev pub code_of : Function → ℕ
code_of ReadU32 = 1
code_of WriteU32 = 2
code_of HebapFromAddress = 3
code_of EndbapForGaqmod = 4
code_of FillGaqbin = 5
code_of GaqSections = 6
code_of GaqGainValue = 7
code_of ReadGaqGains = 8
code_of ReadScalarAhtMantissas = 9
code_of VqLookup = 10
code_of VqSearch = 11
code_of QuantiseScalar = 12
code_of QuantiseBin = 13
code_of PlanAhtChannel = 14
code_of WriteAhtChannel = 15
code_of ReadAhtChannel = 16
code_of ReadThree = 17
code_of PrintPages = 18

-- the result is the function with this number, or an error where no function has it
abbrev pub Decodes : ℕ → Result Function NoFunction → Type 0
Decodes n r = MatchResult r (λ f. code_of f ≡ n) (λ _. (f : Function) → code_of f ≢ n)

-- ---- the call
abbrev pub position_of : List ℕ → BitPos
position_of r = record { byte = at64 r 8; bit = at32 r 16 }

-- ---- the answer
abbrev pub same_value : List ℕ → ℕ → ℕ → Bool
same_value r refusal value = at8 r 1 == refusal && at64 r 104 == value

abbrev pub same_place : List ℕ → BitPos → Bool
same_place r p = at64 r 112 == p.byte && at32 r 120 == p.bit

-- the bits of y, no NaN, stand at the place
unfoldable pub same_float : List ℕ → ℕ → Float → Bool
same_float r k y = not (is_nan y) && to_bits binary32 y == at32 r k

-- ---- the count
abbrev pub new_count : ℕ → Count
new_count f = record { function = f; answers = 0; wrong = 0 }

abbrev pub one_more : Count → Bool → Count
one_more c ok = record { function = c.function; answers = (c.answers + 1) % 2 ^ 64; wrong = cond ok c.wrong ((c.wrong + 1) % 2 ^ 64) }

-- the count after an answer of a function: a new one where the function is another
abbrev pub count_after : Count → ℕ → Bool → Count
count_after c f ok = one_more (cond (c.function == f) c (new_count f)) ok

-- ---- the replay
-- records of n bytes each, up to where the rest stands, and the count after an answer to each of them in turn
pub record IsReplayed (Right : List ℕ → Bool → Type 0) (n : ℕ) (bytes rest : Option (List ℕ)) (c : Count) : Type 0 where
  pub records : List (List ℕ)
  pub long : All (λ r. length r ≡ n) records
  pub first : Consumes bytes rest (concat records)
  pub counted : FoldsTo (λ before r after. (ok : Bool) × Right r ok × (after ≡ count_after before (at8 r 0) ok)) (new_count 0) records c
