-- How the writer goes about it: no meaning of its own. What holds is said by Written.
use Rattle.std.specs.Prelude.{ℕ, List, [], ◌∷◌, Bool, Float, length}
use Rattle.bits.specs.Format.{each}
use Rattle.channel.specs.Bins.{over}
use Rattle.channel.specs.declared.bins.Bins.{Bins}
use Rattle.channel.specs.Field.{gain_code, Bin, lenient, item, bin_at, gain_words, field}
use Rattle.writer.specs.Written.{item_of, written_at, written_of}

-- the bits of a bin with the vector v, and of those from the bin k on
abbrev pub bin_enc : Bin → List Float → List Bool
bin_enc b v = (item lenient b).enc (item_of b v)

abbrev pub bins_enc : ℕ → List ℕ → Bins → List Float → ℕ → List Bool
bins_enc mode gains b x k =
    (each (item lenient) (over (bin_at mode gains b.row.now b.start) k b.end)).enc (over (written_at mode gains b.row.now x b.start) k b.end)

-- of gains, and of a choice: its field
abbrev pub gains_enc : ℕ → List ℕ → List Bool
gains_enc mode gains = (gain_words mode (length gains)).enc gains

abbrev pub choice_enc : ℕ → List ℕ → Bins → List Float → List Bool
choice_enc mode gains b x = (field b.row.now b.start b.end).enc (written_of mode gains b.row.now x b.start b.end)

-- the code of the first of some gains in mode 3; 0 where there is none
abbrev pub code_from : List ℕ → ℕ
code_from [] = 0
code_from (g ∷ gs) = gain_code g 3
