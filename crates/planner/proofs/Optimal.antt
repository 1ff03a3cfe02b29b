-- The plan takes the fewest bits of all choices, and the lowest mode of those. Assumes nothing.
use Rattle.channel.specs.Bins.{sum_over}
use Rattle.channel.specs.Row.{active_at, active_count, gain_at, six_of}
use Rattle.channel.proofs.Over.{sum_none, sum_next, sum_le, sum_same, sum_grows}
use mathlib.Core.Path.{◌≡◌, refl, sym, ap, ◌∙◌}
use mathlib.Core.Bool.{Bool, true, false, cond, ◌||◌, true≢false}
use mathlib.Core.List.{List, [], ◌∷◌, ◌++◌}
use mathlib.Core.Logic.{⊎_elim}
use Prim.Native.Nat.{ℕ, zero, suc, ◌+◌, ◌≤◌, ◌<◌}
use native.Mathlib.Nat.{le_refl, le_trans, le_of_eq, le_of_lt, le_of_suc-le-suc, eq-or-lt_of_le}
use native.Mathlib.Omega.{arith}
use borrow.Author.Tests.{le-leb, lt-leb, leb-true, leb-false, ltb-true, ltb-false, eqb-true, eq-eqb}
use lib.Dec.{eqb, leb, ltb}
use lib.ListN.{length, get_or, length-append, get_or-append}
use lib.Seq.{get_or_at}
use lib.Ieee.{Float}
use Rattle.bits.proofs.Tests.{or_right}
use Rattle.planner.specs.Cost.{bin_bits}
use Rattle.gains.specs.Gains.{active, other_gains, member, allowed_gain, gain_word_bits}
use Rattle.planner.specs.Choice.{cheaper, cheapest, least_up_to, chosen_at, payload_of, Choice, best_gain, least_at, least_of, plan_mode, gains_over, plan_gains, plan_payload, choice_bits}
use Rattle.planner.specs.Planning.{plan_of, total_of}

-- ---- the cheapest
cheaper_le : (cost : ℕ → ℕ) (g k : ℕ) (t : Bool) → ltb (cost k) (cost g) ≡ t → (cost (cond t k g) ≤ cost g) × (cost (cond t k g) ≤ cost k)
cheaper_le cost g k true q = let l = ltb-true (cost k) (cost g) q in (omega arith, le_refl (cost k))
cheaper_le cost g k false q = (le_refl (cost g), ltb-false (cost k) (cost g) q)

pub cheapest_first : (cost : ℕ → ℕ) (g : ℕ) (ks : List ℕ) → cost (cheapest cost g ks) ≤ cost g
unfolding cheapest
cheapest_first cost g [] = le_refl (cost g)
cheapest_first cost g (k ∷ ks) =
    le_trans (cheapest_first cost (cond (ltb (cost k) (cost g)) k g) ks) (cheaper_le cost g k (ltb (cost k) (cost g)) refl).0

pub one_of : {P : Type 0} (a b c : Bool) → a || (b || c) ≡ true → (a ≡ true → P) → (b ≡ true → P) → (c ≡ true → P) → P
one_of true b c h p q r = p refl
one_of false true c h p q r = q refl
one_of false false c h p q r = r h

pub cheapest_le : (cost : ℕ → ℕ) (g : ℕ) (ks : List ℕ) (i : ℕ) → member i (g ∷ ks) ≡ true → cost (cheapest cost g ks) ≤ cost i
unfolding cheapest
cheapest_le cost g [] i h = one_of (eqb i g) false false h (λ e. le_of_eq (ap cost (sym (eqb-true i g e)))) (λ e. absurd (true≢false (sym e))) (λ e. absurd (true≢false (sym e)))
cheapest_le cost g (k ∷ ks) i h =
    let n = cond (ltb (cost k) (cost g)) k g in
    let c = cheaper_le cost g k (ltb (cost k) (cost g)) refl in
    let l = cheapest_first cost n ks in
    one_of (eqb i g) (eqb i k) (member i ks) h (λ e. le_trans (le_trans l c.0) (le_of_eq (ap cost (sym (eqb-true i g e)))))
    (λ e. le_trans (le_trans l c.1) (le_of_eq (ap cost (sym (eqb-true i k e))))) (λ e. cheapest_le cost n ks i (or_right (eqb i n) (member i ks) e))

-- it is one of them
pub cheapest_in : (cost : ℕ → ℕ) (g : ℕ) (ks : List ℕ) → member (cheapest cost g ks) (g ∷ ks) ≡ true
unfolding cheapest
cheapest_in cost g [] = ap (λ (t : Bool). t || false) (eq-eqb g g refl)
cheapest_in cost g (k ∷ ks) = go (ltb (cost k) (cost g)) (cheapest_in cost k ks) (cheapest_in cost g ks)
  where
    skip : (a b c : Bool) → a || c ≡ true → a || (b || c) ≡ true
    skip true b c h = refl
    skip false b c h = or_right b c h

    go : (t : Bool) → member (cheapest cost k ks) (k ∷ ks) ≡ true → member (cheapest cost g ks) (g ∷ ks) ≡ true → member (cheapest cost (cond t k g) ks) (g ∷ (k ∷ ks)) ≡ true
    go true p q = or_right (eqb (cheapest cost k ks) g) _ p
    go false p q = skip (eqb (cheapest cost g ks) g) (eqb (cheapest cost g ks) k) (member (cheapest cost g ks) ks) q

-- only the costs matter
pub cheapest_same : (f g : ℕ → ℕ) (k : ℕ) (ks : List ℕ) → ((i : ℕ) → f i ≡ g i) → cheapest f k ks ≡ cheapest g k ks
unfolding cheapest
cheapest_same f g k [] h = refl
cheapest_same f g k (j ∷ ks) h =
    ap (λ (t : Bool). cheapest f (cond t j k) ks) (ap (λ (z : ℕ). ltb z (f k)) (h j) ∙ ap (ltb (g j)) (h k)) ∙ cheapest_same f g (cheaper g k j) ks h

-- ---- the least of 0 to n
-- g costs no more than any up to n, and less than any below it
pub record FirstLeast (cost : ℕ → ℕ) (n g : ℕ) : Type 0 where
  pub least : (i : ℕ) → i ≤ n → cost g ≤ cost i
  pub first : (i : ℕ) → i < g → cost g < cost i
  pub inside : g ≤ n

least_next : (cost : ℕ → ℕ) (n g : ℕ) (t : Bool) → ltb (cost (suc n)) (cost g) ≡ t → FirstLeast cost n g → FirstLeast cost (suc n) (cond t (suc n) g)
least_next cost n g true q f =
    let l : cost (suc n) < cost g = ltb-true (cost (suc n)) (cost g) q in
    let under : (i : ℕ) → i < suc n → cost (suc n) < cost i = λ i h. let r = f.least i (le_of_suc-le-suc h) in omega arith in
    record {
      least = λ i h. ⊎_elim (λ (e : i ≡ suc n). le_of_eq (ap cost (sym e))) (λ (e : i < suc n). le_of_lt (under i e)) (eq-or-lt_of_le h);
      first = under;
      inside = le_refl (suc n);
    }
least_next cost n g false q f =
    let l : cost g ≤ cost (suc n) = ltb-false (cost (suc n)) (cost g) q in
    record {
      least = λ i h. ⊎_elim (λ (e : i ≡ suc n). le_trans l (le_of_eq (ap cost (sym e)))) (λ (e : i < suc n). f.least i (le_of_suc-le-suc e)) (eq-or-lt_of_le h);
      first = f.first;
      inside = let r = f.inside in omega arith;
    }

pub first_least : (cost : ℕ → ℕ) (n : ℕ) → FirstLeast cost n (least_up_to cost n)
unfolding least_up_to
first_least cost zero = record { least = λ i h. le_of_eq (ap cost (zero_is i h)); first = λ i h. absurd (none i h); inside = le_refl 0 }
  where
    zero_is : (i : ℕ) → i ≤ 0 → 0 ≡ i
    zero_is i h = omega arith

    none : (i : ℕ) → i < 0 → ⊥
    none i h = omega arith
first_least cost (suc n) = least_next cost n (least_up_to cost n) (ltb (cost (suc n)) (cost (least_up_to cost n))) refl (first_least cost n)

pub least_same : (f g : ℕ → ℕ) (n : ℕ) → ((i : ℕ) → i ≤ n → f i ≡ g i) → least_up_to f n ≡ least_up_to g n
unfolding least_up_to
least_same f g zero h = refl
least_same f g (suc n) h =
    let m = least_up_to g n in
    let i = (first_least g n).inside in
    ap (λ (z : ℕ). cheaper f z (suc n)) (least_same f g n (λ k l. h k (omega arith)))
    ∙ ap (λ (t : Bool). cond t (suc n) m) (ap (λ (z : ℕ). ltb z (f m)) (h (suc n) (le_refl (suc n))) ∙ ap (ltb (g (suc n))) (h m (omega arith)))

-- ---- one mode
-- the place of an active bin's gain
pub active_one : (mode : ℕ) (row : List ℕ) (k : ℕ) → active mode (get_or row k 0) ≡ true → active_at mode row k ≡ 1
unfolding active_at
active_one mode row k h = rw h

pub active_none : (mode : ℕ) (row : List ℕ) (k : ℕ) → active mode (get_or row k 0) ≡ false → active_at mode row k ≡ 0
unfolding active_at
active_none mode row k h = rw h

pub rank_lt : (mode : ℕ) (row : List ℕ) (start k end : ℕ) → start ≤ k → k < end → active mode (get_or row k 0) ≡ true → active_count mode row start k < active_count mode row start end
unfolding active_count
rank_lt mode row start k end h l a =
    let g = sum_grows (active_at mode row) start (suc k) end l in
    let n = sum_next (active_at mode row) start k h in
    let o = active_one mode row k a in
    omega arith

least_le : (mode : ℕ) (gains row : List ℕ) (x : List Float) (start k end : ℕ) → Choice mode gains row start end → start ≤ k → k < end → least_at mode row x k ≤ chosen_at mode gains row x start k
unfolding least_at chosen_at gain_at best_gain allowed_gain
least_le mode gains row x start k end c h l = go (active mode (get_or row k 0)) refl
  where
    cost : ℕ → ℕ
    cost g = bin_bits (get_or row k 0) g (six_of x k)

    go : (t : Bool) → active mode (get_or row k 0) ≡ t → cost (cond t (cheapest cost 1 (other_gains mode)) 1) ≤ cost (cond t (get_or gains (active_count mode row start k) 0) 1)
    go true q =
        let r = rank_lt mode row start k end h l q in
        let o = c.one_each in
        cheapest_le cost 1 (other_gains mode) (get_or gains (active_count mode row start k) 0) (c.allowed (active_count mode row start k) (omega arith))
    go false q = le_refl _

-- no choice of a mode has fewer bits than the mode's least
pub least_mode : (mode : ℕ) (gains row : List ℕ) (x : List Float) (start end : ℕ) → Choice mode gains row start end → least_of row x start end mode ≤ payload_of mode gains row x start end
unfolding least_of payload_of
least_mode mode gains row x start end c =
    let s = sum_le (least_at mode row x) (chosen_at mode gains row x start) start end (λ k h l. least_le mode gains row x start k end c h l) in
    omega arith

-- ---- all modes
-- No choice has fewer bits than the plan.
pub plan_least : (mode : ℕ) (gains row : List ℕ) (x : List Float) (start end : ℕ) → Choice mode gains row start end
    → total_of (plan_of row x start end) ≤ choice_bits mode gains row x start end
unfolding plan_of choice_bits plan_payload plan_mode
plan_least mode gains row x start end c =
    let f = (first_least (least_of row x start end) 3).least mode c.mode_is in
    let m = least_mode mode gains row x start end c in
    omega arith

-- A choice of a lower mode has more.
pub plan_lowest : (mode : ℕ) (gains row : List ℕ) (x : List Float) (start end : ℕ) → Choice mode gains row start end
    → mode < plan_mode row x start end → total_of (plan_of row x start end) < choice_bits mode gains row x start end
unfolding plan_of choice_bits plan_payload plan_mode
plan_lowest mode gains row x start end c h =
    let f = (first_least (least_of row x start end) 3).first mode h in
    let m = least_mode mode gains row x start end c in
    omega arith

-- ---- the plan is a choice
pub gains_step : (mode : ℕ) (row : List ℕ) (x : List Float) (start e : ℕ) → start ≤ e → active mode (get_or row e 0) ≡ true
    → gains_over mode row x start (suc e) ≡ gains_over mode row x start e ++ (best_gain mode row x e ∷ [])
unfolding gains_over
gains_step mode row x start e h a = rw (le-leb start e h, a)

pub gains_stay : (mode : ℕ) (row : List ℕ) (x : List Float) (start e : ℕ) → start ≤ e → active mode (get_or row e 0) ≡ false
    → gains_over mode row x start (suc e) ≡ gains_over mode row x start e
unfolding gains_over
gains_stay mode row x start e h a = rw (le-leb start e h, a)

pub gains_none : (mode : ℕ) (row : List ℕ) (x : List Float) (start end : ℕ) → end ≤ start → gains_over mode row x start end ≡ []
unfolding gains_over
gains_none mode row x start zero h = refl
gains_none mode row x start (suc e) h = rw (lt-leb start e h)

pub gains_length : (mode : ℕ) (row : List ℕ) (x : List Float) (start end : ℕ) → length (gains_over mode row x start end) ≡ active_count mode row start end
unfolding active_count
gains_length mode row x start zero = ap length (gains_none mode row x start 0 (omega arith)) ∙ sym (sum_none (active_at mode row) start 0 (omega arith))
gains_length mode row x start (suc e) = go (leb start e) refl (active mode (get_or row e 0)) refl (gains_length mode row x start e)
  where
    go : (t : Bool) → leb start e ≡ t → (u : Bool) → active mode (get_or row e 0) ≡ u → length (gains_over mode row x start e) ≡ sum_over (active_at mode row) start e
        → length (gains_over mode row x start (suc e)) ≡ sum_over (active_at mode row) start (suc e)
    go true q true a r =
        let h = leb-true start e q in
        let s = sum_next (active_at mode row) start e h in
        let o = active_one mode row e a in
        let l = length-append (gains_over mode row x start e) (best_gain mode row x e ∷ []) in
        ap length (gains_step mode row x start e h a) ∙ omega arith
    go true q false a r =
        let h = leb-true start e q in
        let s = sum_next (active_at mode row) start e h in
        let o = active_none mode row e a in
        ap length (gains_stay mode row x start e h a) ∙ omega arith
    go false q u a r =
        let h = leb-false start e q in
        ap length (gains_none mode row x start (suc e) h) ∙ sym (sum_none (active_at mode row) start (suc e) h)

pub best_allowed : (mode : ℕ) (row : List ℕ) (x : List Float) (e : ℕ) → allowed_gain mode (best_gain mode row x e) ≡ true
unfolding allowed_gain best_gain
best_allowed mode row x e = cheapest_in (λ g. bin_bits (get_or row e 0) g (six_of x e)) 1 (other_gains mode)

pub gains_allowed : (mode : ℕ) (row : List ℕ) (x : List Float) (start end i : ℕ) → i < length (gains_over mode row x start end)
    → allowed_gain mode (get_or (gains_over mode row x start end) i 0) ≡ true
gains_allowed mode row x start zero i h = absurd (let e = ap length (gains_none mode row x start 0 (omega arith)) in none e)
  where
    none : length (gains_over mode row x start 0) ≡ 0 → ⊥
    none e = omega arith
gains_allowed mode row x start (suc e) i h = go (leb start e) refl (active mode (get_or row e 0)) refl (λ l. gains_allowed mode row x start e i l)
  where
    last : (l : List ℕ) (g : ℕ) → allowed_gain mode g ≡ true → (i < length l → allowed_gain mode (get_or l i 0) ≡ true) → i < length (l ++ (g ∷ [])) → allowed_gain mode (get_or (l ++ (g ∷ [])) i 0) ≡ true
    last l g b f h =
        let n = length-append l (g ∷ []) in
        let s : i ≤ length l = omega arith in
        ⊎_elim (λ (q : i ≡ length l). ap (allowed_gain mode) (get_or_at l g [] 0 i (sym q)) ∙ b) (λ (q : i < length l). ap (allowed_gain mode) (get_or-append l (g ∷ []) 0 i q) ∙ f q) (eq-or-lt_of_le s)

    go : (t : Bool) → leb start e ≡ t → (u : Bool) → active mode (get_or row e 0) ≡ u → (i < length (gains_over mode row x start e) → allowed_gain mode (get_or (gains_over mode row x start e) i 0) ≡ true)
        → allowed_gain mode (get_or (gains_over mode row x start (suc e)) i 0) ≡ true
    go true q true a f =
        let g = gains_step mode row x start e (leb-true start e q) a in
        ap (λ (l : List ℕ). allowed_gain mode (get_or l i 0)) g ∙ last (gains_over mode row x start e) (best_gain mode row x e) (best_allowed mode row x e) f (rw g at h)
    go true q false a f =
        let g = gains_stay mode row x start e (leb-true start e q) a in
        ap (λ (l : List ℕ). allowed_gain mode (get_or l i 0)) g ∙ f (rw g at h)
    go false q u a f = absurd (let g = ap length (gains_none mode row x start (suc e) (leb-false start e q)) in none g)
      where
        none : length (gains_over mode row x start (suc e)) ≡ 0 → ⊥
        none e = omega arith

pub gains_at_lem : (mode : ℕ) (row : List ℕ) (x : List Float) (start k end : ℕ) → start ≤ k → k < end → active mode (get_or row k 0) ≡ true
    → get_or (gains_over mode row x start end) (active_count mode row start k) 0 ≡ best_gain mode row x k
gains_at_lem mode row x start k zero h l a = absurd (omega arith)
gains_at_lem mode row x start k (suc e) h l a = go (active mode (get_or row e 0)) refl (λ q. gains_at_lem mode row x start k e h q a)
  where
    here : k ≡ e → get_or (gains_over mode row x start (suc e)) (active_count mode row start k) 0 ≡ best_gain mode row x k
    here q =
        let b : active mode (get_or row e 0) ≡ true = ap (λ (j : ℕ). active mode (get_or row j 0)) (sym q) ∙ a in
        ap (λ (m : List ℕ). get_or m (active_count mode row start k) 0) (gains_step mode row x start e (omega arith) b)
        ∙ get_or_at (gains_over mode row x start e) (best_gain mode row x e) [] 0 (active_count mode row start k) (gains_length mode row x start e ∙ ap (active_count mode row start) (sym q))
        ∙ ap (best_gain mode row x) (sym q)

    go : (u : Bool) → active mode (get_or row e 0) ≡ u → (k < e → get_or (gains_over mode row x start e) (active_count mode row start k) 0 ≡ best_gain mode row x k)
        → get_or (gains_over mode row x start (suc e)) (active_count mode row start k) 0 ≡ best_gain mode row x k
    go true b f = ⊎_elim here (λ (q : k < e).
        ap (λ (m : List ℕ). get_or m (active_count mode row start k) 0) (gains_step mode row x start e (omega arith) b)
        ∙ get_or-append (gains_over mode row x start e) (best_gain mode row x e ∷ []) 0 (active_count mode row start k) (let n = gains_length mode row x start e in let r = rank_lt mode row start k e h q a in omega arith)
        ∙ f q) (eq-or-lt_of_le (le_of_suc-le-suc l))
    go false b f = ⊎_elim here (λ (q : k < e). ap (λ (m : List ℕ). get_or m (active_count mode row start k) 0) (gains_stay mode row x start e (omega arith) b) ∙ f q) (eq-or-lt_of_le (le_of_suc-le-suc l))

pub plan_mode_lem : (row : List ℕ) (x : List Float) (start end : ℕ) → plan_mode row x start end ≤ 3
unfolding plan_mode
plan_mode_lem row x start end = (first_least (least_of row x start end) 3).inside

-- The plan's mode and gains are a choice,
pub plan_choice : (row : List ℕ) (x : List Float) (start end : ℕ) → Choice (plan_mode row x start end) (plan_gains row x start end) row start end
unfolding plan_gains
plan_choice row x start end = record {
  mode_is = plan_mode_lem row x start end;
  one_each = gains_length (plan_mode row x start end) row x start end;
  allowed = gains_allowed (plan_mode row x start end) row x start end;
}

least_is : (mode : ℕ) (row : List ℕ) (x : List Float) (start k end : ℕ) → start ≤ k → k < end → chosen_at mode (gains_over mode row x start end) row x start k ≡ least_at mode row x k
unfolding chosen_at least_at gain_at
least_is mode row x start k end h l = ap (λ (g : ℕ). bin_bits (get_or row k 0) g (six_of x k)) (go (active mode (get_or row k 0)) refl)
  where
    go : (t : Bool) → active mode (get_or row k 0) ≡ t → cond t (get_or (gains_over mode row x start end) (active_count mode row start k) 0) 1 ≡ cond t (best_gain mode row x k) 1
    go true q = gains_at_lem mode row x start k end h l q
    go false q = refl

-- and its bits are what the plan says.
pub plan_bits : (row : List ℕ) (x : List Float) (start end : ℕ) → choice_bits (plan_mode row x start end) (plan_gains row x start end) row x start end ≡ total_of (plan_of row x start end)
unfolding choice_bits plan_of payload_of plan_payload plan_gains least_of
plan_bits row x start end =
    let m = plan_mode row x start end in
    ap (λ (n : ℕ). 2 + (n + gain_word_bits m (active_count m row start end))) (sum_same (chosen_at m (gains_over m row x start end) row x start) (least_at m row x) start end (λ k h l. least_is m row x start k end h l))
