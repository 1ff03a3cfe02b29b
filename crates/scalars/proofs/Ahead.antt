-- A code by the numbers that a field's reader takes, and a loop over six codes: a turn, and where it ends. Assumes nothing.
use Prim.Native.Nat.{ℕ, ◌+◌, ◌-◌, ◌*◌, ◌^◌, ◌≤◌, ◌<◌}
use mathlib.Core.Path.{◌≡◌, refl, ◌∙◌}
use mathlib.Core.Bool.{Bool, true, false, cond}
use mathlib.Core.List.{List}
use native.Mathlib.Omega.{arith}
use borrow.Author.Tests.{eq-eqb, ne_eqb}
use lib.Dec.{eqb}
use lib.IntN.{ℤ}
use lib.Ieee.{Float}
use lib.ListN.{length, set}
use Rattle.std.specs.Prelude.{Result, Ok, Err}
use Rattle.answers.specs.declared.Refusal.{Refusal}
use Rattle.bits.specs.Bits.{bit_at}
use Rattle.bits.specs.Format.{Format, number, shown}
use Rattle.bits.specs.Takes.{ahead, Takes}
use Rattle.bits.specs.declared.field_reader.FieldReader.{FieldReader}
use Rattle.tables.specs.Tables.{mant_bits}
use Rattle.levels.specs.declared.Code.{Code}
use Rattle.levels.specs.declared.CodeScale.{CodeScale}
use Rattle.levels.specs.Codes.{tag, small_bits, large_bits, of_large, tagged, coded, six, Accepted}
use Rattle.levels.specs.Exact.{exact_of}
use Rattle.levels.specs.Value.{value_of}
use Rattle.levels.proofs.CodeLaws.{coded_lawful, coded_accepted, coded_one, coded_tagged, tagged_none, tagged_small, tagged_cut, tagged_large}
use Rattle.levels.proofs.Common.{m_range, small_is, large_is}
use Rattle.bits.proofs.Taking.{refused_by, is_got, takes_refused, takes_got}
use Rattle.scalars.proofs.Six.{SoFar, Left, none_yet, one_more_lem, cut, all_read}

-- ---- widths: six codes of at most 30 bits each
pub record Widths (w w' : ℕ) : Type 0 where
  pub one : 1 ≤ w
  pub one' : 1 ≤ w'
  pub few : w ≤ 16
  pub few' : w' ≤ 16
  pub both : w + w' ≤ 30

by_gain : (t : Bool) (m : ℕ) → 3 ≤ m → m ≤ 16 → Widths (cond t (m - 1) (m - 2)) (cond t (m - 1) m)
by_gain true m l u = record { one = omega arith; one' = omega arith; few = omega arith; few' = omega arith; both = omega arith }
by_gain false m l u = record { one = omega arith; one' = omega arith; few = omega arith; few' = omega arith; both = omega arith }

pub widths : (m g : ℕ) → 3 ≤ m → m ≤ 16 → Widths (small_bits m g) (large_bits m g)
widths m g l u = by_gain (eqb g 2) m l u

-- ---- a code, by what its numbers are
abbrev pub Number : ℕ → FieldReader → Result ℕ Refusal → FieldReader → Type 0
Number w before r now = Takes (λ v. v) ((number w).dec (ahead before)) r (λ v. v < 2 ^ w) before now

abbrev pub Coded : Format Code → FieldReader → Result Code Refusal → FieldReader → Type 0
Coded F before r now = Takes (λ c. c) (F.dec (ahead before)) r (λ c. Unit) before now

module _ (w : ℕ) (before now : FieldReader) where
  pub fixed_refused : (k : Refusal) → Number w before (Err k) now → Coded (shown (number w) Code.Large of_large) before (Err k) now
  fixed_refused k t = takes_refused _ _ _ before now k (rw (refused_by _ _ _ _ _ _ t))

  pub fixed_takes : (l : ℕ) → Number w before (Ok l) now → Coded (shown (number w) Code.Large of_large) before (Ok (Code.Large l)) now
  fixed_takes l t = let k = is_got _ _ _ _ _ t in takes_got _ _ _ before now (Code.Large l) (rw (k.0)) k.1 tt

module _ (w w' : ℕ) (before : FieldReader) where
  pub first_refused : (now : FieldReader) (k : Refusal) → Number w before (Err k) now → Coded (tagged w w') before (Err k) now
  first_refused now k t = takes_refused _ _ _ before now k (tagged_none w w' _ k (refused_by _ _ _ _ _ _ t))

  pub small_takes : (now : FieldReader) (s : ℕ) → Number w before (Ok s) now → (s ≡ tag w → ⊥) → Coded (tagged w w') before (Ok (Code.Small s)) now
  small_takes now s t other = let k = is_got _ _ _ _ _ t in takes_got _ _ _ before now (Code.Small s) (tagged_small w w' _ s _ k.0 other) k.1 tt

  module _ (mid now : FieldReader) (s : ℕ) (t : Number w before (Ok s) mid) (is : s ≡ tag w) where
    pub second_refused : (k : Refusal) → Number w' mid (Err k) now → Coded (tagged w w') before (Err k) now
    second_refused k t' = takes_refused _ _ _ before now k (tagged_cut w w' _ s k _ (is_got _ _ _ _ _ t).0 is (refused_by _ _ _ _ _ _ t'))

    pub large_takes : (l : ℕ) → Number w' mid (Ok l) now → Coded (tagged w w') before (Ok (Code.Large l)) now
    large_takes l t' =
        let k = is_got _ _ _ _ _ t in
        let k' = is_got _ _ _ _ _ t' in
        takes_got _ _ _ before now (Code.Large l) (tagged_large w w' _ s l _ _ k.0 is k'.0) (k'.1 ∙ k.1) tt

-- ---- the codes of a scale
module _ (s : CodeScale) where
  pub both_widths : Widths s.small s.large
  both_widths = let m = m_range s in rw (small_is s, large_is s) (widths (mant_bits s.hebap) s.gk m.0 m.1)

  pub fixed_of : s.gk ≡ 1 → coded (mant_bits s.hebap) s.gk ≡ shown (number s.large) Code.Large of_large
  fixed_of one =
      let w : s.large ≡ mant_bits s.hebap = large_is s ∙ rw one in
      coded_one (mant_bits s.hebap) s.gk (eq-eqb _ _ one) ∙ rw w

  pub tagged_of : (s.gk ≡ 1 → ⊥) → coded (mant_bits s.hebap) s.gk ≡ tagged s.small s.large
  tagged_of other = coded_tagged (mant_bits s.hebap) s.gk (ne_eqb _ _ other) ∙ rw (small_is s, large_is s)

  -- a code that was read is accepted
  pub code_accepted : (before now : FieldReader) (c : Code) → Coded (coded (mant_bits s.hebap) s.gk) before (Ok c) now → Accepted s.hebap s.gk c
  code_accepted before now c t =
      coded_accepted s.hebap s.gk c ((coded_lawful (mant_bits s.hebap) s.gk).sole (ahead before) (ahead now) c (is_got _ _ _ _ _ t).0).1

-- ---- a loop over six codes, where it ends
module _ {h g : ℕ} {first r : FieldReader} {v : List Float} {x : List ℤ} {j : ℕ} {v' : List Float} {x' : List ℤ}
    (f : SoFar h g (ahead first) v x (ahead r) j v' x') where
  -- the bits run out, wherever the reader is left
  pub taken_cut : j < 6 → (now left : FieldReader) (k : Refusal) → Coded (coded (mant_bits h) g) r (Err k) now
      → Takes {R = Unit {0}} (λ cs. tt) ((six (mant_bits h) g).dec (ahead first)) (Err k) (λ cs. Unit) first left × Left h g (ahead first) v x v' x'
  taken_cut more now left k t = let a = cut f more k (refused_by _ _ _ _ _ _ t) in (takes_refused _ _ _ first left k a.0, a.1)

  -- all six are there
  pub taken_all : r.src.now ≡ first.src.now → 6 ≤ j
      → Takes (λ cs. tt) ((six (mant_bits h) g).dec (ahead first)) (Ok (tt {0})) (λ cs. Unit) first r × Left h g (ahead first) v x v' x'
  taken_all same l = let a = all_read f l in (takes_got _ _ _ first r _ a.0 same tt, a.1)

-- ---- a loop over codes that were bounds-checked
module _ (h g : ℕ) (first : FieldReader) (v : List Float) (x : List ℤ) where
  -- the codes read so far of the same bytes, each of at most 30 bits
  pub record Near (r : FieldReader) (j : ℕ) (v' : List Float) (x' : List ℤ) : Type 0 where
    pub codes : SoFar h g (ahead first) v x (ahead r) j v' x'
    pub bytes : r.src.now ≡ first.src.now
    pub near : bit_at r.pos ≤ bit_at first.pos + j * 30

  pub at_first : Near first 0 v x
  at_first = record { codes = none_yet h g (ahead first) v x; bytes = refl; near = omega arith }

module _ {h g : ℕ} {first : FieldReader} {v : List Float} {x : List ℤ} {r : FieldReader} {j : ℕ} {v' : List Float} {x' : List ℤ} (n : Near h g first v x r j v' x') where
  pub turn : j < 6 → 6 ≤ length v → 6 ≤ length x → (c : Code) (r' : FieldReader) → Takes (λ c. c) ((coded (mant_bits h) g).dec (ahead r)) (Ok c) (λ c. Unit) r r'
      → bit_at r'.pos ≤ bit_at r.pos + 30 → (y : Float) (z : ℤ) → y ≡ value_of h g c → z ≡ exact_of h g c
      → Near h g first v x r' (j + 1) (set v' j y) (set x' j z)
  turn more hv hx c r' t close y z ey ez =
      let k = is_got _ _ _ _ _ t in
      record { codes = one_more_lem n.codes more c (ahead r') y z hv hx k.0 ey ez; bytes = k.1 ∙ n.bytes; near = let m = n.near in omega arith }
