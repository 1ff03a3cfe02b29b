-- What the inner functions of the reader promise: no meaning of its own. Reading has what the call answers.
use Rattle.std.specs.Prelude.{ℕ, ◌+◌, ◌*◌, ◌≤◌, ◌<◌, ◌≡◌, Bool, false, cond, not, List, [], ◌∷◌, ◌++◌, eqb, ℤ, Float, length, drop, set}
use Rattle.bits.specs.Bits.{splice, bit_at}
use Rattle.bits.specs.Format.{Got, shows}
use Rattle.bits.specs.declared.BitPos.{BitPos}
use Rattle.channel.specs.Field.{first, second, third, one_gain, two_gains, Bin, Item, Channel}
use Rattle.channel.specs.Shown.{values_of, exacts_of, index_of, values_shown, exacts_shown, indices_shown}
use Rattle.reader.specs.declared.FieldHead.{FieldHead}
use Rattle.reader.specs.declared.scratch.Scratch.{Scratch}
use Rattle.reader.specs.Reading.{with_shown}

-- ---- the scratch buffers
-- s with an item at the places of the bin k, and with items of bins from there on
abbrev pub BinPut : ℕ → Bin → Scratch → Scratch → Item → Type 0
BinPut k b s s' x =
    (s'.values ≡ set s.values k (values_of b x)) × (s'.exact ≡ set s.exact k (exacts_of b x)) × (s'.indices ≡ set s.indices k (index_of b x))

abbrev pub BinsPut : ℕ → List Bin → Scratch → Scratch → List Item → Type 0
BinsPut k bs s s' xs =
    (s'.values ≡ splice s.values k (shows values_of bs xs)) × (s'.exact ≡ splice s.exact k (shows exacts_of bs xs))
    × (s'.indices ≡ splice s.indices k (shows index_of bs xs))

-- ---- the three outputs
pub record Outputs : Type 0 where
  pub values : List Float
  pub exact : List ℤ
  pub indices : List ℕ

abbrev pub outputs : List Float → List ℤ → List ℕ → Outputs
outputs values exact indices = record { values = values; exact = exact; indices = indices }

-- they have places for the bins up to end
abbrev pub Long : ℕ → Outputs → Type 0
Long end o = (6 * end ≤ length o.values) × (6 * end ≤ length o.exact) × (end ≤ length o.indices)

-- o with a channel that was found
abbrev pub FoundPut : List ℕ → ℕ → ℕ → Outputs → Outputs → Got Channel → Type 0
FoundPut row start end o o' G =
    (o'.values ≡ with_shown (values_shown row start end) (6 * start) o.values G)
    × (o'.exact ≡ with_shown (exacts_shown row start end) (6 * start) o.exact G)
    × (o'.indices ≡ with_shown (indices_shown row start end) start o.indices G)

-- gains at the front of a list
abbrev pub GainsPut : List ℕ → List ℕ → List ℕ → Type 0
GainsPut old new gs = new ≡ gs ++ drop (length gs) old

-- ---- gain words
-- whether a word has a missing code that is not 0, where so many gains are left
unfoldable pub missing_code : ℕ → ℕ → Bool
missing_code w left = cond (eqb left 1) (not (one_gain w)) (cond (eqb left 2) (not (two_gains w)) false)

-- the gains of a word of mode 3
abbrev pub three_gains : ℕ → List ℕ
three_gains w = first w ∷ second w ∷ third w ∷ []

-- ---- the field
-- what stands before its bins
abbrev pub head_behind : ℕ → List ℕ × List Item → FieldHead
head_behind mode c = record { mode = mode; count = length c.0 }

abbrev pub head_of : Channel → FieldHead
head_of c = record { mode = c.mode; count = length c.gains }

-- a position behind p, and not far
abbrev pub Near : BitPos → BitPos → Type 0
Near p q = (bit_at p ≤ bit_at q) × (bit_at q ≤ bit_at p + 65536) × (q.bit < 8)
