-- What the field of a choice shows at each bin: the search's index, or the quantiser's values. Assumes nothing.
use Prim.Native.Nat.{ℕ, ◌+◌, ◌-◌, ◌*◌, ◌≤◌, ◌<◌}
use mathlib.Core.Path.{◌≡◌, refl, sym, ap, ◌∙◌}
use mathlib.Core.List.{List, map}
use mathlib.Core.Bool.{Bool, true, false, cond, ◌||◌, ◌&&◌}
use native.Mathlib.Omega.{arith}
use borrow.Author.Tests.{le-leb}
use lib.Dec.{eqb, leb}
use lib.IntN.{pos}
use lib.Ieee.{Float, nan}
use lib.ListN.{length, drop, get_or, length-map}
use lib.Seq.{get_or-take, get_or-drop}
use Rattle.std.specs.Prelude.{Ok}
use Rattle.gains.specs.Gains.{active}
use Rattle.gains.specs.declared.Coding.{Coding}
use Rattle.gains.proofs.Cases.{active_range, coding_book, coding_scalar, three_gains_lem}
use Rattle.levels.specs.Component.{too_large, some_too_large}
use Rattle.levels.specs.Exact.{exact_of}
use Rattle.levels.specs.Value.{value_in, value_of}
use Rattle.levels.specs.declared.Code.{Code}
use Rattle.books.specs.Books.{search_of}
use Rattle.quantiser.specs.Quantise.{picked, allowed, quantised, quantised_up_to, code_level}
use Rattle.quantiser.proofs.Facts.{picked_level}
use Rattle.channel.specs.Row.{active_count, gain_at, six_of}
use Rattle.channel.specs.Field.{Bin, book, scalar, Item, nothing, coded_as, bin_of, bin_at}
use Rattle.channel.specs.Shown.{values_of, exacts_of, index_of, item_at}
use Rattle.channel.proofs.Over.{from_at}
use Rattle.planner.specs.Choice.{Choice}
use Rattle.planner.proofs.Optimal.{rank_lt}
use Rattle.writer.specs.Written.{codes_of, item_of, written_at, written_of}
use Rattle.writer.proofs.Channel.{six_long}
use Rattle.levels.proofs.Range.{each_accepted}
use Rattle.promise3.proofs.Places.{map_place}

-- ---- the bin of a hebap
book_bin : (mode h g : ℕ) → 1 ≤ h → h ≤ 7 → bin_of mode h g ≡ book h
unfolding bin_of
book_bin mode h g l u = rw (le-leb h 19 (omega arith), ← coding_book mode h l u)

scalar_bin : (mode h g : ℕ) → 8 ≤ h → h ≤ 19 → bin_of mode h g ≡ scalar h (cond (active mode h) g 1)
unfolding bin_of
scalar_bin mode h g l u = rw (le-leb h 19 u, ← coding_scalar mode h l (active mode h) refl) (go (active mode h))
  where
    go : (t : Bool) → coded_as (cond t Coding.Adaptive Coding.Fixed) h g ≡ scalar h (cond t g 1)
    go true = refl
    go false = refl

-- ---- the component j of a bin k
component : (x : List Float) (k j : ℕ) → j < 6 → get_or (six_of x k) j nan ≡ get_or x (6 * k + j) nan
component x k j u = get_or-take 6 (drop (6 * k) x) j nan u ∙ get_or-drop (6 * k) x j nan

codes_place : {A : Type 0} (f : Code → A) (d : A) (h g : ℕ) (x : List Float) (k j : ℕ) → 6 * k + 6 ≤ length x → j < 6
    → get_or (map f (codes_of h g (six_of x k))) j d ≡ f (picked h g (get_or x (6 * k + j) nan)).0
codes_place f d h g x k j l u =
    let pick : Float → Code = λ y. (picked h g y).0 in
    let s = six_long x k l in
    let n : length (codes_of h g (six_of x k)) ≡ length (six_of x k) = length-map (six_of x k) pick in
    map_place f (codes_of h g (six_of x k)) j d (pick nan) (omega arith)
    ∙ ap f (map_place pick (six_of x k) j (pick nan) nan (omega arith) ∙ ap pick (component x k j u))

-- ---- what is written of a choice shows
module _ (mode : ℕ) (gains row : List ℕ) (x : List Float) (start end : ℕ) (vectors : 6 * end ≤ length x) (choice : Choice mode gains row start end)
    (k : ℕ) (low : start ≤ k) (high : k < end) where
  abbrev h : ℕ
  h = get_or row k 0

  abbrev g : ℕ
  g = gain_at mode gains row start k

  abbrev shown : {A : Type 0} → (Bin → Item → A) → A
  shown f = f (bin_at mode gains row start k) (item_at start (written_of mode gains row x start end) k)

  item_is : item_at start (written_of mode gains row x start end) k ≡ written_at mode gains row x start k
  item_is =
      let e : start + (k - start) ≡ k = omega arith in
      from_at (written_at mode gains row x start) nothing start (end - start) (k - start) (omega arith) ∙ ap (written_at mode gains row x start) e

  -- by the bin that it is
  shown_as_lem : {A : Type 0} (f : Bin → Item → A) (b : Bin) → bin_at mode gains row start k ≡ b → shown f ≡ f b (item_of b (six_of x k))
  shown_as_lem f b e = ap (f (bin_at mode gains row start k)) item_is ∙ ap (λ (d : Bin). f d (item_of d (six_of x k))) e

  -- ---- a book bin
  pub index_shown : 1 ≤ h → h ≤ 7 → shown index_of ≡ search_of h (six_of x k)
  unfolding bin_at
  index_shown l u = shown_as_lem index_of (book h) (book_bin mode h g l u)

  -- ---- a scalar bin
  module _ (l : 8 ≤ h) (u : h ≤ 19) where
    bin_is : bin_at mode gains row start k ≡ scalar h g
    unfolding bin_at gain_at
    bin_is = scalar_bin mode h g l u ∙ ap (scalar h) (go (active mode h))
      where
        go : (t : Bool) → let r = cond t (get_or gains (active_count mode row start k) 0) 1 in cond t r 1 ≡ r
        go true = refl
        go false = refl

    module _ (j : ℕ) (few : j < 6) where
      abbrev y : Float
      y = get_or x (6 * k + j) nan

      pub value_shown : get_or (shown values_of) j nan ≡ value_in (picked h g y).1
      value_shown =
          ap (λ (v : List Float). get_or v j nan) (shown_as_lem values_of (scalar h g) bin_is)
          ∙ codes_place (value_of h g) nan h g x k j (omega arith) few ∙ ap value_in (sym (picked_level h g y l u))

      pub exact_shown : get_or (shown exacts_of) j (pos 0) ≡ exact_of h g (picked h g y).0
      exact_shown = ap (λ v. get_or v j (pos 0)) (shown_as_lem exacts_of (scalar h g) bin_is) ∙ codes_place (exact_of h g) (pos 0) h g x k j (omega arith) few

      -- the quantiser accepts the bin's hebap, gain and component
      gain_allowed : allowed h g ≡ true
      unfolding gain_at
      gain_allowed = rw (le-leb 8 h l, le-leb h 19 u) (go (active mode h) refl)
        where
          go : (t : Bool) → active mode h ≡ t → let g = cond t (get_or gains (active_count mode row start k) 0) 1 in eqb g 1 || leb h 16 && (eqb g 2 || eqb g 4) ≡ true
          go true e =
              let r = rank_lt mode row start k end low high e in
              let o = choice.one_each in
              let a = active_range mode h e in
              rw (le-leb h 16 a.1)
              (three_gains_lem mode (get_or gains (active_count mode row start k) 0) (λ g. eqb g 1 || (eqb g 2 || eqb g 4) ≡ true) (choice.allowed (active_count mode row start k) (omega arith)) refl refl refl)
          go false e = refl

      pub pick_given : some_too_large (six_of x k) ≡ false → quantised h g y ≡ Ok (code_level (picked h g y))
      unfolding quantised_up_to
      pick_given fine =
          let s = six_long x k (omega arith) in
          let t : too_large y ≡ false = ap too_large (sym (component x k j few)) ∙ each_accepted (six_of x k) nan j fine (omega arith) in
          rw (gain_allowed, t)
