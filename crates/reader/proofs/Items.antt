-- What the item of a bin puts in the buffers: six values, six exact values and an index. Assumes nothing.
use Prim.Native.Nat.{ℕ}
use mathlib.Core.Path.{◌≡◌, refl, ap}
use mathlib.Core.List.{List}
use lib.IntN.{ℤ}
use lib.Ieee.{Float}
use lib.ListN.{set}
use Rattle.bits.specs.Format.{Got, got}
use Rattle.bits.specs.Takes.{ahead, Takes}
use Rattle.bits.specs.declared.field_reader.FieldReader.{FieldReader}
use Rattle.bits.proofs.Taking.{takes_got, takes_refused, got_to, refused_by}
use Rattle.tables.specs.Tables.{mant_bits}
use Rattle.levels.specs.declared.Code.{Code}
use Rattle.levels.specs.Codes.{six}
use Rattle.std.specs.Prelude.{Result, Ok, Err, ⊤}
use Rattle.answers.specs.declared.Refusal.{Refusal}
use Rattle.scalars.specs.Work.{SixLeft}
use Rattle.channel.specs.Field.{Item, scalar, codes, lenient, item}
use Rattle.reader.specs.Work.{BinPut}
use Rattle.reader.specs.declared.scratch.Scratch.{Scratch}

-- six codes: what read_six leaves is what their item shows
module _ (h g k : ℕ) (before now : FieldReader) (s : Scratch) (v : List Float) (x : List ℤ) where
  abbrev six_here : Got (List Code)
  six_here = (six (mant_bits h) g).dec (ahead before)

  abbrev codes_here : Got Item
  codes_here = (item lenient (scalar h g)).dec (ahead before)

  codes_are : (cs : List Code) → six_here ≡ got cs (ahead now) → codes_here ≡ got (codes cs) (ahead now)
  codes_are cs d = rw d

  abbrev after : Scratch
  after = record { values = set s.values k v; exact = set s.exact k x; indices = set s.indices k 0 }

  pub codes_put : (r : Result ⊤ Refusal) → Takes (λ cs. tt {0}) six_here r (SixLeft h g v x) before now → Takes (λ y. tt {0}) codes_here r (BinPut k (scalar h g) s after) before now
  codes_put (Ok u) t =
      let d = got_to (λ cs. tt {0}) six_here (SixLeft h g v x) before now tt t in
      takes_got (λ y. tt {0}) codes_here (BinPut k (scalar h g) s after) before now (codes d.value) (codes_are d.value d.is) d.same
      (ap (set s.values k) d.left.0, ap (set s.exact k) d.left.1, refl)
  codes_put (Err j) t =
      let d = refused_by (λ cs. tt {0}) six_here (SixLeft h g v x) before now j t in
      takes_refused (λ y. tt {0}) codes_here (BinPut k (scalar h g) s after) before now j (rw d)
