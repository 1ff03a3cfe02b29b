-- What is kept of each mode while the bins are gone through: each law once over the mode. Assumes nothing.
use mathlib.Core.Path.{◌≡◌, refl, sym, ap, ◌∙◌, subst}
use mathlib.Core.Bool.{Bool, true, false, cond}
use mathlib.Core.List.{List, [], ◌∷◌, ◌++◌, append_assoc}
use mathlib.Core.Logic.{◌⊎◌, ⊎_elim}
use Prim.Native.Nat.{ℕ, ◌+◌, ◌*◌, ◌≤◌, ◌<◌}
use native.Mathlib.Nat.{le_refl, le_trans}
use native.Mathlib.Numerals.{add-one}
use native.Mathlib.Omega.{arith}
use lib.ListN.{length, get_or, drop, length-drop, set, replicate, get_or-replicate}
use lib.Seq.{drop-cons, set_at, length-take-le}
use lib.Ieee.{Float}
use Rattle.gains.specs.Gains.{active, other_gains, gain_word_bits}
use Rattle.gains.proofs.Cases.{active_low, active_high}
use Rattle.channel.specs.Bins.{sum_over}
use Rattle.channel.specs.Row.{no_gains, six_of}
use Rattle.channel.proofs.Over.{sum_none, sum_at_most, sum_turn}
use Rattle.channel.proofs.Rows.{rank_turn, count_most, count_start}
use Rattle.planner.specs.Cost.{bin_bits}
use Rattle.planner.specs.Choice.{best_gain, least_at, least_of, gains_over}
use Rattle.planner.specs.Work.{CostsOf, cost_in, gain_in, plain_bits, no_tally, tally_at, with_bin, Small, TallyOf, TalliesOf, AllFew, payload_in, payload_at}
use Rattle.planner.specs.declared.tally.Tally.{Tally}
use Rattle.planner.specs.declared.costs.Costs.{Costs}
use Rattle.planner.proofs.Codes.{bin_scalar, bin_most}
use Rattle.planner.proofs.Steps.{plain_is}
use Rattle.planner.proofs.Optimal.{cheapest_same, gains_step, gains_stay, gains_none, gains_length}

-- ---- all bins
sum_bound : (f : ℕ → ℕ) (start end : ℕ) → end ≤ 256 → ((k : ℕ) → f k ≤ 256) → sum_over f start end ≤ 65536
sum_bound f start end h b = le_trans (sum_at_most f 256 start end (λ k l. b k)) (omega arith)

least_most : (mode : ℕ) (row : List ℕ) (x : List Float) (start end : ℕ) → end ≤ 256 → sum_over (least_at mode row x) start end ≤ 65536
unfolding least_at
least_most mode row x start end h = sum_bound (least_at mode row x) start end h (λ k. bin_most (get_or row k 0) (cond (active mode (get_or row k 0)) (best_gain mode row x k) 1) (drop (6 * k) x))

-- before the first bin
tally_start : (row : List ℕ) (x : List Float) (start mode : ℕ) → TallyOf row x start start 0 mode no_tally
unfolding no_tally
tally_start row x start mode = record {
  bits_are = sym (sum_none (least_at mode row x) start start (le_refl start));
  count_is = sym (count_start mode row start);
  gains_are = sym (ap (λ (l : List ℕ). l ++ no_gains) (gains_none mode row x start start (le_refl start)));
}

pub tallies_start : (row : List ℕ) (x : List Float) (start : ℕ) (ts : List Tally) → ts ≡ replicate 4 no_tally → TalliesOf row x start start 0 ts
tallies_start row x start ts e m l =
    let z : tally_at ts m ≡ no_tally = ap (λ (us : List Tally). tally_at us m) e ∙ get_or-replicate 4 m no_tally _ (omega arith) in
    subst (TallyOf row x start start 0 m) (sym z) (tally_start row x start m)

module _ (row : List ℕ) (x : List Float) (start k plain mode : ℕ) (t : Tally) (is : TallyOf row x start k plain mode t) where
  pub tally_few : k ≤ 256 → (plain + t.bits ≤ 65536) × (t.count ≤ k)
  tally_few h = let b = is.bits_are in let s = least_most mode row x start k h in let c = is.count_is in let m = count_most mode row start k in (omega arith, omega arith)

  pub tally_small : k < 256 → Small t
  tally_small h = let f = tally_few (omega arith) in record { few_bits = let a = f.0 in omega arith; few_gains = let b = f.1 in omega arith }

  gains_same : start ≤ k → active mode (get_or row k 0) ≡ false → gains_over mode row x start k ≡ gains_over mode row x start (k + 1)
  gains_same from off = sym (ap (gains_over mode row x start) (add-one k) ∙ gains_stay mode row x start k from off)

  module _ (from : start ≤ k) where
    -- a bin that no mode has active
    pub tally_plain : (r : ℕ) → 6 * k + 6 ≤ length x → (get_or row k 0 < 8) ⊎ (16 < get_or row k 0) → r ≡ plain_bits (get_or row k 0) → TallyOf row x start (k + 1) (plain + r) mode t
    unfolding least_at
    tally_plain r room out er =
        let h = get_or row k 0 in
        let off : active mode h ≡ false = ⊎_elim (λ (l : h < 8). sym (active_low mode h l)) (λ (l : 16 < h). sym (active_high mode h l)) out in
        let e : r ≡ least_at mode row x k = er ∙ plain_is h (six_of x k) (length-take-le 6 (drop (6 * k) x) (omega (arith, length-drop (6 * k) x))) ∙ ap (λ (u : Bool). bin_bits h (cond u (best_gain mode row x k) 1) (six_of x k)) (sym off) in
        let s = sum_turn (least_at mode row x) start k (plain + t.bits) r from is.bits_are e in
        record {
          bits_are = plus plain r t.bits ∙ s;
          count_is = count_zero t.count ∙ rank_turn mode row start k t.count 0 false from is.count_is (sym off) refl;
          gains_are = is.gains_are ∙ ap (λ (l : List ℕ). l ++ drop t.count no_gains) (gains_same from off);
        }
      where
        plus : (a b c : ℕ) → a + b + c ≡ a + c + b
        plus a b c = omega arith

        count_zero : (n : ℕ) → n ≡ n + 0
        count_zero n = omega arith

    -- a bin of hebap 8 to 16
    module _ (few : k < 256) (eight : 8 ≤ get_or row k 0) (c : Costs) (ec : CostsOf (get_or row k 0) (six_of x k) c) where
      gain_is : gain_in mode c ≡ best_gain mode row x k
      unfolding gain_in best_gain
      gain_is =
          let h = get_or row k 0 in
          cheapest_same (cost_in c) (λ g. bin_bits h g (six_of x k)) 1 (other_gains mode) (λ g. ec g ∙ sym (bin_scalar h g (six_of x k) eight))

      least_is : cost_in c (cond (active mode (get_or row k 0)) (gain_in mode c) 1) ≡ least_at mode row x k
      unfolding least_at
      least_is =
          let h = get_or row k 0 in
          let g = cond (active mode h) (gain_in mode c) 1 in
          ec g ∙ sym (bin_scalar h g (six_of x k) eight)
          ∙ ap (λ (z : ℕ). bin_bits h (cond (active mode h) z 1) (six_of x k)) gain_is

      -- one gain more, in the place of the first zero
      put_gain : (g : ℕ) → set t.gains t.count g ≡ (gains_over mode row x start k ++ (g ∷ [])) ++ drop (t.count + 1) no_gains
      unfolding no_gains
      put_gain g =
          let all = gains_over mode row x start k in
          let n : t.count < 256 = omega (arith, tally_few (omega arith)) in
          let zeros : drop t.count no_gains ≡ get_or no_gains t.count 0 ∷ drop (t.count + 1) no_gains = drop-cons no_gains t.count 0 n ∙ ap (λ (i : ℕ). get_or no_gains t.count 0 ∷ drop i no_gains) (sym (add-one t.count)) in
          ap (λ (l : List ℕ). set l t.count g) (is.gains_are ∙ ap (λ (z : List ℕ). all ++ z) zeros)
          ∙ set_at all (get_or no_gains t.count 0) (drop (t.count + 1) no_gains) g t.count (gains_length mode row x start k ∙ sym is.count_is)
          ∙ sym (append_assoc all (g ∷ []) (drop (t.count + 1) no_gains))

      gains_next : (a : Bool) → active mode (get_or row k 0) ≡ a → cond a (set t.gains t.count (gain_in mode c)) t.gains ≡ gains_over mode row x start (k + 1) ++ drop (t.count + cond a 1 0) no_gains
      gains_next true a =
          put_gain (gain_in mode c)
          ∙ ap (λ (g : ℕ). (gains_over mode row x start k ++ (g ∷ [])) ++ drop (t.count + 1) no_gains) gain_is
          ∙ sym (ap (λ (l : List ℕ). l ++ drop (t.count + 1) no_gains) (ap (gains_over mode row x start) (add-one k) ∙ gains_step mode row x start k from a))
      gains_next false a =
          let z : t.count ≡ t.count + 0 = omega arith in
          is.gains_are ∙ ap (λ (l : List ℕ). l ++ drop t.count no_gains) (gains_same from a) ∙ ap (λ (n : ℕ). gains_over mode row x start (k + 1) ++ drop n no_gains) z

      pub tally_next : (new : Tally) → new ≡ with_bin mode (get_or row k 0) c t → TallyOf row x start (k + 1) plain mode new
      unfolding with_bin
      tally_next new e =
          let h = get_or row k 0 in
          let r = cost_in c (cond (active mode h) (gain_in mode c) 1) in
          let s = sum_turn (least_at mode row x) start k (plain + t.bits) r from is.bits_are least_is in
          subst (TallyOf row x start (k + 1) plain mode) (sym e) (record {
            bits_are = plus plain t.bits r ∙ s;
            count_is = rank_turn mode row start k t.count (cond (active mode h) 1 0) (active mode h) from is.count_is refl refl;
            gains_are = gains_next (active mode h) refl;
          })
        where
          plus : (a b c : ℕ) → a + (b + c) ≡ a + b + c
          plus a b c = omega arith

-- ---- the payloads
module _ (row : List ℕ) (x : List Float) (start end plain : ℕ) (ts : List Tally) (p : TalliesOf row x start end plain ts) where
  pub payload_is : (m : ℕ) → m ≤ 3 → payload_at plain ts m ≡ least_of row x start end m
  unfolding payload_in least_of
  payload_is m l = let t = p m l in ap (λ (n : ℕ). n + gain_word_bits m (tally_at ts m).count) t.bits_are ∙ ap (λ (n : ℕ). sum_over (least_at m row x) start end + gain_word_bits m n) t.count_is

  pub all_few : end ≤ 256 → AllFew plain ts
  all_few h m l = let f = tally_few row x start end plain m (tally_at ts m) (p m l) h in (f.0, le_trans f.1 h)
