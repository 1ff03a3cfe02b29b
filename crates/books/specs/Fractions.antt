-- The books as the search goes through them: the numbers of Tables E4.1 to E4.7 over 32768, component by component.
use Rattle.std.specs.Prelude.{ℕ, zero, suc, ◌≡◌, List, [], ◌∷◌, ◌++◌, map, ℤ, pos, get_or, drop, Float}
use Rattle.std.specs.Float.{binary32}
use Rattle.std.specs.Float.Ieee.{of_bits}
use Rattle.tables.specs.Tables.{book}
use Rattle.levels.specs.Value.{q15}
use Rattle.books.specs.Books.{vectors_of}

-- the first, seventh, thirteenth .. number of a book, n of them, as fractions
unfoldable pub column : ℕ → List ℤ → List Float
column zero b = []
column (suc n) b = q15 (get_or b 0 (pos 0)) ∷ column n (drop 6 b)

-- a book of n vectors: the first numbers of all vectors, then the second ones, and so on
unfoldable pub by_component : ℕ → List ℤ → List Float
by_component n b =
    column n b ++ (column n (drop 1 b) ++ (column n (drop 2 b) ++ (column n (drop 3 b) ++ (column n (drop 4 b) ++ column n (drop 5 b)))))

-- the f32 that bit patterns show
unfoldable pub floats : List ℕ → List Float
floats us = map (of_bits binary32) us

-- bit patterns that show the book of a hebap
abbrev pub FractionsOf : ℕ → List ℕ → Type 0
FractionsOf h us = floats us ≡ by_component (vectors_of h) (book h)
