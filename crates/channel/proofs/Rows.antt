-- Active bins, their gains, and what holds where no cause does. Assumes nothing.
use Prim.Native.Nat.{ℕ, ◌+◌, ◌≤◌, ◌<◌}
use mathlib.Core.Path.{◌≡◌, refl, sym, ap, ◌∙◌}
use mathlib.Core.List.{List}
use mathlib.Core.Bool.{Bool, true, false, cond, ◌||◌}
use native.Mathlib.Omega.{arith}
use native.Mathlib.Nat.{le_trans}
use lib.Dec.{eqb, ltb, leb}
use lib.ListN.{length, get_or}
use borrow.Author.Tests.{ltb-false, lt-ltb, le-ltb}
use Rattle.std.specs.Prelude.{None, Some}
use Rattle.answers.specs.Causes.{cause_number}
use Rattle.answers.specs.declared.Refusal.TheVariants.{StartAboveEnd, EndAbove256, TooShort, HebapAbove19}
use Rattle.answers.proofs.Numbers.{none_of}
use Rattle.gains.specs.Gains.{active, coding_of}
use Rattle.gains.specs.declared.Coding.{Coding}
use Rattle.bits.proofs.Tests.{neither}
use Rattle.channel.specs.Bins.{some_over}
use Rattle.channel.specs.Row.{active_at, active_count, gain_at, unknown_at, row_cause, RowOk}
use Rattle.channel.specs.Field.{none, coded_as, bin_of, bin_at}
use Rattle.channel.proofs.Over.{sum_none, sum_at_most, sum_turn, none_there, one_small}

-- ---- active bins
pub rank_turn : (mode : ℕ) (row : List ℕ) (start k n m : ℕ) (t : Bool) → start ≤ k → n ≡ active_count mode row start k → t ≡ active mode (get_or row k 0) → m ≡ cond t 1 0
    → n + m ≡ active_count mode row start (k + 1)
unfolding active_count active_at
rank_turn mode row start k n m t h en et em = sum_turn (active_at mode row) start k n m h en (em ∙ ap (λ (u : Bool). cond {A = ℕ} u 1 0) et)

pub count_most : (mode : ℕ) (row : List ℕ) (start k : ℕ) → active_count mode row start k ≤ k
unfolding active_count active_at
count_most mode row start k = le_trans (sum_at_most (active_at mode row) 1 start k (λ j l. one_small (active mode (get_or row j 0)))) (omega arith)

pub count_start : (mode : ℕ) (row : List ℕ) (start : ℕ) → active_count mode row start start ≡ 0
unfolding active_count
count_start mode row start = sum_none (active_at mode row) start start (omega arith)

-- mode 0 has no active bin
pub none_active : (mode : ℕ) (row : List ℕ) (start end : ℕ) → mode ≡ 0 → active_count mode row start end ≡ 0
unfolding active_count active_at active
none_active mode row start end e =
    let s = sum_at_most (active_at mode row) 0 start end (λ k l. rw e (omega arith)) in
    omega arith

-- ---- the bin k, of the gain at its rank, whether or not it is active
own_gain : (mode h g : ℕ) → bin_of mode h (cond (active mode h) g 1) ≡ bin_of mode h g
unfolding bin_of coding_of
own_gain mode h g = go (active mode h)
  where
    go : (a : Bool) → cond (leb h 19) (coded_as (cond (eqb h 0) Coding.Nothing (cond (leb h 7) Coding.Book (cond a Coding.Adaptive Coding.Fixed))) h (cond a g 1)) none
        ≡ cond (leb h 19) (coded_as (cond (eqb h 0) Coding.Nothing (cond (leb h 7) Coding.Book (cond a Coding.Adaptive Coding.Fixed))) h g) none
    go true = refl
    go false = other (leb h 19) (eqb h 0) (leb h 7)
      where
        other : (s z b : Bool) → cond s (coded_as (cond z Coding.Nothing (cond b Coding.Book Coding.Fixed)) h 1) none ≡ cond s (coded_as (cond z Coding.Nothing (cond b Coding.Book Coding.Fixed)) h g) none
        other true true b = refl
        other true false true = refl
        other true false false = refl
        other false z b = refl

pub bin_is : (mode : ℕ) (gains row : List ℕ) (start k n h g : ℕ) → h ≡ get_or row k 0 → n ≡ active_count mode row start k → g ≡ get_or gains n 0 → bin_of mode h g ≡ bin_at mode gains row start k
unfolding bin_at gain_at
bin_is mode gains row start k n h g eh en eg =
    let e : g ≡ get_or gains (active_count mode row start k) 0 = eg ∙ ap (λ (r : ℕ). get_or gains r 0) en in
    rw (e, eh) (sym (own_gain mode (get_or row k 0) (get_or gains (active_count mode row start k) 0)))

-- ---- causes
-- no hebap is above 19 where cause 4 does not hold
pub known_hebap : (row : List ℕ) (start end k : ℕ) → some_over (unknown_at row) start end ≡ false → start ≤ k → k < end → get_or row k 0 ≤ 19
unfolding unknown_at
known_hebap row start end k o l u = ltb-false 19 (get_or row k 0) (none_there (unknown_at row) start end o k l u)

module _ (row : List ℕ) (start end : ℕ) (short : Bool) where
  pub cause_1 : end < start → row_cause row start end short ≡ Some StartAboveEnd
  unfolding row_cause
  cause_1 h = rw (lt-ltb end start h)

  module _ (a : start ≤ end) where
    pub cause_2 : 256 < end → row_cause row start end short ≡ Some EndAbove256
    unfolding row_cause
    cause_2 h = rw (le-ltb end start a, lt-ltb 256 end h)

    module _ (b : end ≤ 256) where
      pub cause_3_row : length row < end → row_cause row start end short ≡ Some TooShort
      unfolding row_cause
      cause_3_row h = rw (le-ltb end start a, le-ltb 256 end b, lt-ltb (length row) end h)

      module _ (c : end ≤ length row) where
        pub cause_3_other : short ≡ true → row_cause row start end short ≡ Some TooShort
        unfolding row_cause
        cause_3_other h = rw (le-ltb end start a, le-ltb 256 end b, le-ltb (length row) end c, h)

        pub cause_4_or_none : (t : Bool) → short ≡ false → some_over (unknown_at row) start end ≡ t → row_cause row start end short ≡ cond t (Some HebapAbove19) None
        unfolding row_cause
        cause_4_or_none t f h = rw (le-ltb end start a, le-ltb 256 end b, le-ltb (length row) end c, f, h) refl

pub row_ok : (row : List ℕ) (start end : ℕ) (short : Bool) → row_cause row start end short ≡ None → RowOk row start end × (short ≡ false)
unfolding row_cause
row_ok row start end short z =
    let a = none_of (ltb end start) StartAboveEnd _ z in
    let b = none_of (ltb 256 end) EndAbove256 _ a.1 in
    let c = none_of (ltb (length row) end || short) TooShort _ b.1 in
    let d = none_of (some_over (unknown_at row) start end) HebapAbove19 _ c.1 in
    let r = neither (ltb (length row) end) short c.0 in
    (record { ordered = ltb-false end start a.0; few = ltb-false 256 end b.0; rows = ltb-false (length row) end r.0; known = d.0 }, r.1)

-- they are 1 to 4
pub row_cause_most : (row : List ℕ) (start end : ℕ) (short : Bool) → cause_number (row_cause row start end short) ≤ 4
unfolding row_cause
row_cause_most row start end short = go (ltb end start) (ltb 256 end) (ltb (length row) end || short) (some_over (unknown_at row) start end)
  where
    go : (a b c d : Bool) → cause_number (cond a (Some StartAboveEnd) (cond b (Some EndAbove256) (cond c (Some TooShort) (cond d (Some HebapAbove19) None)))) ≤ 4
    go true b c d = omega arith
    go false true c d = omega arith
    go false false true d = omega arith
    go false false false true = omega arith
    go false false false false = omega arith
