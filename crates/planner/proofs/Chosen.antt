-- A choice and a plan that are given: their bits, and whether they fit. Assumes nothing.
use mathlib.Core.Path.{◌≡◌, refl, sym, ap, ◌∙◌}
use mathlib.Core.Bool.{Bool, true, false, not, cond}
use mathlib.Core.List.{List, ◌++◌}
use Prim.Native.Nat.{ℕ, ◌+◌, ◌*◌, ◌≤◌, ◌<◌}
use native.Mathlib.Nat.{le_trans}
use native.Mathlib.Omega.{arith}
use borrow.Author.Tests.{le-leb, lt-leb, eq-eqb, ne_eqb, not-true, not-false, leb-true, eqb-true}
use lib.Dec.{eqb}
use lib.ListN.{length, get_or, take, drop, get_or-append}
use lib.Seq.{get_or-take, length-take-le}
use lib.Ieee.{Float}
use Rattle.gains.specs.Gains.{active, allowed_gain, gain_word_bits}
use Rattle.channel.specs.Bins.{sum_over, some_over}
use Rattle.channel.specs.Row.{active_count, gain_at, no_gains, six_of}
use Rattle.channel.proofs.Over.{sum_same, sum_at_most, none_there, none_over}
use Rattle.bits.proofs.Tests.{both}
use Rattle.planner.specs.Cost.{bin_bits}
use Rattle.planner.specs.Choice.{chosen_at, payload_of, Choice, plan_mode, plan_gains, plan_payload, choice_bits}
use Rattle.planner.specs.Planning.{plan_of}
use Rattle.planner.specs.Fit.{wrong_gain, choice_fits, plan_fits}
use Rattle.planner.specs.declared.Plan.{Plan}
use Rattle.planner.proofs.Codes.{bin_most}
use Rattle.planner.proofs.Optimal.{rank_lt, plan_choice, plan_bits}

-- ---- the bits of the bins at the gains that were chosen
pub chosen_is : (mode : ℕ) (gains row : List ℕ) (x : List Float) (start k n g r : ℕ) → n ≡ active_count mode row start k → g ≡ get_or gains n 0
    → r ≡ bin_bits (get_or row k 0) (cond (active mode (get_or row k 0)) g 1) (six_of x k) → r ≡ chosen_at mode gains row x start k
unfolding chosen_at gain_at
chosen_is mode gains row x start k n g r en eg er = er ∙ rw (eg, en)

pub chosen_most : (mode : ℕ) (gains row : List ℕ) (x : List Float) (start k : ℕ) → k ≤ 256 → sum_over (chosen_at mode gains row x start) start k ≤ 65536
unfolding chosen_at
chosen_most mode gains row x start k h =
    le_trans (sum_at_most (chosen_at mode gains row x start) 256 start k (λ j l. bin_most (get_or row j 0) (gain_at mode gains row start j) (drop (6 * j) x))) (omega arith)

-- ---- whether a choice fits
module _ (mode : ℕ) (gains : List ℕ) (count : ℕ) (row : List ℕ) (start end : ℕ) where
  pub fits_mode : 3 < mode → false ≡ choice_fits mode gains count row start end
  unfolding choice_fits
  fits_mode h = sym (rw (lt-leb mode 3 h))

  module _ (m : mode ≤ 3) (n : ℕ) (e : n ≡ active_count mode row start end) where
    pub fits_count : (count ≡ n → ⊥) → false ≡ choice_fits mode gains count row start end
    unfolding choice_fits
    fits_count h = sym (rw (le-leb mode 3 m, ne_eqb count (active_count mode row start end) (λ (q : count ≡ active_count mode row start end). h (q ∙ sym e))))

    pub fits_gains : (t : Bool) → count ≡ n → t ≡ some_over (wrong_gain mode gains) 0 count → not t ≡ choice_fits mode gains count row start end
    unfolding choice_fits
    fits_gains t h et = rw et (sym (rw (le-leb mode 3 m, eq-eqb count (active_count mode row start end) (h ∙ e))))

-- ---- whether a plan fits
pub fits_parts : (mode : ℕ) (gains : List ℕ) (count : ℕ) (row : List ℕ) (start end : ℕ) → choice_fits mode gains count row start end ≡ true
    → (mode ≤ 3) × (count ≡ active_count mode row start end) × (some_over (wrong_gain mode gains) 0 count ≡ false)
unfolding choice_fits
fits_parts mode gains count row start end h = let a = both _ _ h in let b = both _ _ a.1 in (leb-true _ _ a.0, eqb-true _ _ b.0, not-true _ b.1)

module _ (p : Plan) (row : List ℕ) (start end : ℕ) (x : List Float) (t : Bool) (e : t ≡ choice_fits p.mode p.gains p.count row start end) where
  pub fits_not : t ≡ false → false ≡ plan_fits p row start end x
  unfolding plan_fits
  fits_not q = sym (rw (sym e ∙ q))

  pub fits_payload : (b w : ℕ) → t ≡ true → b ≡ sum_over (chosen_at p.mode p.gains row x start) start end → w ≡ gain_word_bits p.mode p.count → eqb p.payload (b + w) ≡ plan_fits p row start end x
  unfolding plan_fits payload_of
  fits_payload b w q eb ew =
      let c : choice_fits p.mode p.gains p.count row start end ≡ true = sym e ∙ q in
      let f : w ≡ gain_word_bits p.mode (active_count p.mode row start end) = ew ∙ ap (gain_word_bits p.mode) (fits_parts p.mode p.gains p.count row start end c).1 in
      rw (eb, f, c)

-- ---- what fits is a choice
-- only the gains of the active bins count
payload_same : (mode : ℕ) (g l row : List ℕ) (x : List Float) (start end : ℕ) → ((i : ℕ) → i < active_count mode row start end → get_or g i 0 ≡ get_or l i 0) → payload_of mode g row x start end ≡ payload_of mode l row x start end
unfolding payload_of chosen_at gain_at
payload_same mode g l row x start end h =
    ap (λ (z : ℕ). z + gain_word_bits mode (active_count mode row start end)) (sum_same (chosen_at mode g row x start) (chosen_at mode l row x start) start end (λ k a b. ap (λ (g : ℕ). bin_bits (get_or row k 0) g (six_of x k)) (go k a b (active mode (get_or row k 0)) refl)))
  where
    go : (k : ℕ) → start ≤ k → k < end → (t : Bool) → active mode (get_or row k 0) ≡ t → cond t (get_or g (active_count mode row start k) 0) 1 ≡ cond t (get_or l (active_count mode row start k) 0) 1
    go k a b true q = h (active_count mode row start k) (rank_lt mode row start k end a b q)
    go k a b false q = refl

-- A choice that fits is one.
pub choice_fits_lem : (mode : ℕ) (gains : List ℕ) (count : ℕ) (row : List ℕ) (start end : ℕ) → count ≤ length gains → choice_fits mode gains count row start end ≡ true → Choice mode (take count gains) row start end
unfolding wrong_gain
choice_fits_lem mode gains count row start end room h =
    let p = fits_parts mode gains count row start end h in
    let s : length (take count gains) ≡ count = length-take-le count gains room in
    record {
      mode_is = p.0;
      one_each = s ∙ p.1;
      allowed = λ i l. let k : i < count = omega arith in ap (allowed_gain mode) (get_or-take count gains i 0 k) ∙ not-false _ (none_there (wrong_gain mode gains) 0 count p.2 i (omega arith) k);
    }

-- A plan that fits is a choice, and its payload is that choice's.
pub fits_choice : (p : Plan) (row : List ℕ) (start end : ℕ) (x : List Float) → p.count ≤ length p.gains → plan_fits p row start end x ≡ true
    → Choice p.mode (take p.count p.gains) row start end × (p.payload ≡ payload_of p.mode (take p.count p.gains) row x start end)
unfolding plan_fits
fits_choice p row start end x room h =
    let n = p.count in
    let a = both _ _ h in
    let e = (fits_parts p.mode p.gains n row start end a.0).1 in (
      choice_fits_lem p.mode p.gains n row start end room a.0,
      eqb-true _ _ a.1 ∙ payload_same p.mode p.gains (take n p.gains) row x start end (λ i l. sym (get_or-take n p.gains i 0 (omega arith))),
    )

-- The planner's plan fits.
pub plan_fits_lem : (row : List ℕ) (x : List Float) (start end : ℕ) → plan_fits (plan_of row x start end) row start end x ≡ true
unfolding plan_fits choice_fits plan_of wrong_gain choice_bits
plan_fits_lem row x start end =
    let m = plan_mode row x start end in
    let g = plan_gains row x start end in
    let z = drop (length g) no_gains in
    let c = plan_choice row x start end in
    let n : length g ≡ active_count m row start end = c.one_each in
    let w : some_over (wrong_gain m (g ++ z)) 0 (length g) ≡ false =
    none_over (wrong_gain m (g ++ z)) 0 (length g) (λ i _ l. ap (λ (k : ℕ). not (allowed_gain m k)) (get_or-append g z 0 i l) ∙ ap not (c.allowed i l)) in
    let q : payload_of m (g ++ z) row x start end ≡ payload_of m g row x start end = payload_same m (g ++ z) g row x start end (λ i l. get_or-append g z 0 i (omega arith)) in
    let b : 2 + payload_of m g row x start end ≡ 2 + plan_payload row x start end = plan_bits row x start end in
    let e : plan_payload row x start end ≡ payload_of m (g ++ z) row x start end = omega arith in
    rw (le-leb m 3 c.mode_is, eq-eqb (length g) (active_count m row start end) n, w, eq-eqb (plan_payload row x start end) (payload_of m (g ++ z) row x start end) e)
