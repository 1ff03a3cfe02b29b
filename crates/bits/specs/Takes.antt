-- What the methods of a field's reader do to it: no meaning of its own. What is read is said by formats.
use Rattle.std.specs.Prelude.{◌≡◌, List, Bool, drop, Result, Ok, Err}
use Rattle.answers.specs.declared.Refusal.{Refusal}
use Rattle.bits.specs.Bits.{bits_of, bit_at}
use Rattle.bits.specs.Format.{Got, got, refused}
use Rattle.bits.specs.declared.field_reader.FieldReader.{FieldReader}

-- the bits that a reader has ahead
abbrev pub ahead : FieldReader → List Bool
ahead r = drop (bit_at r.pos) (bits_of r.src.now)

-- the answer where G is what is read: f of the value, or the refusal
abbrev pub taken : {A R : Type 0} → (A → R) → Got A → Result R Refusal
taken f (got a rest) = Ok (f a)
taken f (refused k) = Err k

-- where G is read, the reader stands before what is left of the same bytes, and P holds of the value
abbrev pub Took : {A : Type 0} → Got A → (A → Type 0) → FieldReader → FieldReader → Type 0
Took (got a rest) P before now = (now.src.now ≡ before.src.now) × (ahead now ≡ rest) × P a
Took (refused k) P before now = Unit {0}

-- an answer and a reader after reading G
pub record Takes {A R : Type 0} (f : A → R) (G : Got A) (r : Result R Refusal) (P : A → Type 0) (before now : FieldReader) : Type 0 where
  pub is : r ≡ taken f G
  pub took : Took G P before now
