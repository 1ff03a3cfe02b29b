-- What a call read, where the reader says which bytes it has.
use Rattle.std.specs.Prelude.{ℕ, ◌<◌, ◌≤◌, List, length, take}
use Rattle.std.specs.Io.KnownBytes.{Consumes, IsAtEnd}
use Rattle.std.specs.declared.option.Option.{Option}

-- the first n bytes of a buffer came from the reader, which has none left where these do not fill it
pub record IsRead (old new : Option (List ℕ)) (buf : List ℕ) (n : ℕ) : Type 0 where
  pub inside : n ≤ length buf
  pub given : Consumes old new (take n buf)
  pub at_end : n < length buf → IsAtEnd new

-- no more than so many bytes came from the reader
abbrev pub ReadsFew : Option (List ℕ) → Option (List ℕ) → ℕ → Type 0
ReadsFew old new most = (bs : List ℕ) × (length bs ≤ most) × Consumes old new bs

-- the reader was read to its end, or so many bytes of it
abbrev pub IsReadOut : Option (List ℕ) → Option (List ℕ) → ℕ → Type 0
IsReadOut old new most = (bs : List ℕ) × (length bs ≤ most) × Consumes old new bs × (length bs < most → IsAtEnd new)
