-- What a field shows: its mode, its gains, and of each bin six f32, six exact values and a book index. docs/FORMAT.md,
-- Words, Levels and Channel reader.
use Rattle.std.specs.Prelude.{ℕ, ◌-◌, Bool, List, [], ◌∷◌, ◌++◌, map, ℤ, pos, get_or, take, drop, replicate, Float}
use Rattle.bits.specs.Bits.{bits_of}
use Rattle.bits.specs.Format.{shows}
use Rattle.levels.specs.Exact.{exact_of}
use Rattle.levels.specs.Value.{f0, value_of}
use Rattle.books.specs.Books.{vq_lookup, vq_exact}
use Rattle.channel.specs.Field.{Bin, none, book, scalar, Item, nothing, of_index, of_codes, bins_of, Channel}

-- ---- of a bin: f32 values, exact values in units of 2 ^ -30, and the index, which is 0 for any bin but a book bin
abbrev pub values_of : Bin → Item → List Float
values_of none x = replicate 6 f0
values_of (book h) x = vq_lookup h (of_index x)
values_of (scalar h g) x = map (value_of h g) (of_codes x)

abbrev pub exacts_of : Bin → Item → List ℤ
exacts_of none x = replicate 6 (pos 0)
exacts_of (book h) x = vq_exact h (of_index x)
exacts_of (scalar h g) x = map (exact_of h g) (of_codes x)

abbrev pub index_of : Bin → Item → ℕ
index_of none x = 0
index_of (book h) x = of_index x
index_of (scalar h g) x = 0

-- ---- of bins with their items, one bin after the other
unfoldable pub joined : {A : Type 0} → List (List A) → List A
joined [] = []
joined (xs ∷ xss) = xs ++ joined xss

abbrev pub values_in : List Bin → List Item → List Float
values_in bs xs = joined (shows values_of bs xs)

abbrev pub exacts_in : List Bin → List Item → List ℤ
exacts_in bs xs = joined (shows exacts_of bs xs)

abbrev pub indices_in : List Bin → List Item → List ℕ
indices_in bs xs = shows index_of bs xs

-- ---- of a channel
abbrev pub bins_in : List ℕ → ℕ → ℕ → Channel → List Bin
bins_in row start end c = bins_of c.mode c.gains row start end

abbrev pub values_shown : List ℕ → ℕ → ℕ → Channel → List Float
values_shown row start end c = values_in (bins_in row start end c) c.items

abbrev pub exacts_shown : List ℕ → ℕ → ℕ → Channel → List ℤ
exacts_shown row start end c = exacts_in (bins_in row start end c) c.items

abbrev pub indices_shown : List ℕ → ℕ → ℕ → Channel → List ℕ
indices_shown row start end c = indices_in (bins_in row start end c) c.items

-- what stands in the field for the bin k
abbrev pub item_at : ℕ → Channel → ℕ → Item
item_at start c k = get_or c.items (k - start) nothing

-- the n bits of a field in the bytes s, from the bit at on
abbrev pub field_at : List ℕ → ℕ → ℕ → List Bool
field_at s at n = take n (drop at (bits_of s))
