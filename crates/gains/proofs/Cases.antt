-- Which bins are active and how a bin is coded, by cases of the hebap and the mode; and the gains that a mode allows.
-- Assumes nothing.
use Prim.Native.Nat.{ℕ, ◌≤◌, ◌<◌}
use mathlib.Core.Path.{◌≡◌, refl, sym, ap, ◌∙◌, subst}
use mathlib.Core.List.{[], ◌∷◌}
use mathlib.Core.Bool.{or-false, Bool, true, false, cond, not, ◌&&◌, ◌||◌, true≢false}
use native.Mathlib.Omega.{arith}
use lib.Dec.{eqb, ltb}
use borrow.Author.Tests.{le-leb, lt-leb, lt-ltb, le-ltb, ltb-true, ltb-false, eq-eqb, ne_eqb, eqb-true}
use Rattle.gains.specs.Gains.{endbap, active, coding_of, other_gains, member, allowed_gain}
use Rattle.gains.specs.declared.Coding.{Coding}

-- ---- which bins are active
module _ (mode h : ℕ) where
  and-false : (a : Bool) → a && false ≡ false
  and-false true = refl
  and-false false = refl

  pub active_low : h < 8 → false ≡ active mode h
  unfolding active
  active_low l = sym (rw (le-ltb 7 h (omega arith)) (and-false (not (eqb mode 0))))

  end_most : endbap mode ≤ 17
  unfolding endbap
  end_most = go (ltb mode 2)
    where
      go : (t : Bool) → cond {A = ℕ} t 12 17 ≤ 17
      go true = omega arith
      go false = omega arith

  -- from hebap 8 on
  pub active_by_end : 8 ≤ h → ltb h (cond (eqb mode 0) 8 (endbap mode)) ≡ active mode h
  unfolding active
  active_by_end l = rw (lt-ltb 7 h l) (go (eqb mode 0))
    where
      go : (t : Bool) → ltb h (cond t 8 (endbap mode)) ≡ not t && ltb h (endbap mode)
      go true = le-ltb h 8 l
      go false = refl

  pub active_high : 17 ≤ h → false ≡ active mode h
  unfolding active
  active_high l = let e = end_most in sym (rw (lt-ltb 7 h (omega arith), le-ltb h (endbap mode) (omega arith)) (and-false (not (eqb mode 0))))

  pub active_few : 8 ≤ h → h < 12 → ltb 0 mode ≡ active mode h
  unfolding active endbap
  active_few l u = go (ltb 0 mode) refl
    where
      any : (t : Bool) → ltb h (cond {A = ℕ} t 12 17) ≡ true
      any true = lt-ltb h 12 u
      any false = lt-ltb h 17 (omega arith)

      go : (t : Bool) → ltb 0 mode ≡ t → t ≡ not (eqb mode 0) && (ltb 7 h && ltb h (cond (ltb mode 2) 12 17))
      go true q = let p = ltb-true 0 mode q in sym (rw (lt-ltb 7 h (omega arith), ne_eqb mode 0 (λ (e : mode ≡ 0). omega arith)) (any (ltb mode 2)))
      go false q = let p = ltb-false 0 mode q in sym (rw (eq-eqb mode 0 (omega arith)))

  pub active_many : 12 ≤ h → h < 17 → ltb 1 mode ≡ active mode h
  unfolding active endbap
  active_many l u = go (ltb 1 mode) refl
    where
      go : (t : Bool) → ltb 1 mode ≡ t → t ≡ not (eqb mode 0) && (ltb 7 h && ltb h (cond (ltb mode 2) 12 17))
      go true q = let p = ltb-true 1 mode q in sym (rw (lt-ltb 7 h (omega arith), ne_eqb mode 0 (λ (e : mode ≡ 0). omega arith), le-ltb mode 2 p) (lt-ltb h 17 u))
      go false q = let p = ltb-false 1 mode q in sym (rw (lt-ltb 7 h (omega arith), lt-ltb mode 2 (omega arith), le-ltb h 12 l) (and-false (not (eqb mode 0))))

  -- an active bin has hebap 8 to 16
  pub active_range : active mode h ≡ true → (8 ≤ h) × (h ≤ 16)
  active_range q = go (ltb h 8) refl (ltb h 17) refl
    where
      no : false ≡ true → ⊥
      no e = true≢false (sym e)

      go : (s : Bool) → ltb h 8 ≡ s → (t : Bool) → ltb h 17 ≡ t → (8 ≤ h) × (h ≤ 16)
      go true p t r = absurd (no (active_low (ltb-true h 8 p) ∙ q))
      go false p true r = let u = ltb-true h 17 r in (ltb-false h 8 p, omega arith)
      go false p false r = absurd (no (active_high (ltb-false h 17 r) ∙ q))

  -- ---- how a bin is coded
  pub coding_nothing : h ≡ 0 → Coding.Nothing ≡ coding_of mode h
  unfolding coding_of
  coding_nothing e = sym (rw (eq-eqb h 0 e))

  pub coding_book : 1 ≤ h → h ≤ 7 → Coding.Book ≡ coding_of mode h
  unfolding coding_of
  coding_book l u = sym (rw (ne_eqb h 0 (λ (e : h ≡ 0). omega arith), le-leb h 7 u))

  pub coding_scalar : 8 ≤ h → (t : Bool) → t ≡ active mode h → cond t Coding.Adaptive Coding.Fixed ≡ coding_of mode h
  unfolding coding_of
  coding_scalar l t e = ap (λ (u : Bool). cond u Coding.Adaptive Coding.Fixed) e ∙ sym (rw (ne_eqb h 0 (λ (e : h ≡ 0). omega arith), lt-leb h 7 l))

-- ---- the gains that a mode allows
module _ (mode g : ℕ) where
  pub allowed_one : g ≡ 1 → true ≡ allowed_gain mode g
  unfolding allowed_gain
  allowed_one e = sym (rw (eq-eqb g 1 e))

  module _ (n : g ≡ 1 → ⊥) where
    pub allowed_1 : mode ≡ 1 → eqb g 2 ≡ allowed_gain mode g
    unfolding allowed_gain other_gains
    allowed_1 e = sym (or-false (eqb g 2)) ∙ sym (ap (λ (m : ℕ). allowed_gain m g) e ∙ rw (ne_eqb g 1 n))

    pub allowed_2 : mode ≡ 2 → eqb g 4 ≡ allowed_gain mode g
    unfolding allowed_gain other_gains
    allowed_2 e = sym (or-false (eqb g 4)) ∙ sym (ap (λ (m : ℕ). allowed_gain m g) e ∙ rw (ne_eqb g 1 n))

    pub allowed_3_two : mode ≡ 3 → g ≡ 2 → true ≡ allowed_gain mode g
    unfolding allowed_gain other_gains
    allowed_3_two e q = sym (ap (λ (m : ℕ). allowed_gain m g) e ∙ rw (ne_eqb g 1 n, eq-eqb g 2 q))

    pub allowed_3_four : mode ≡ 3 → (g ≡ 2 → ⊥) → eqb g 4 ≡ allowed_gain mode g
    unfolding allowed_gain other_gains
    allowed_3_four e q = sym (or-false (eqb g 4)) ∙ sym (ap (λ (m : ℕ). allowed_gain m g) e ∙ rw (ne_eqb g 1 n, ne_eqb g 2 q))

    pub allowed_none : (mode ≡ 1 → ⊥) → (mode ≡ 2 → ⊥) → (mode ≡ 3 → ⊥) → false ≡ allowed_gain mode g
    unfolding allowed_gain other_gains
    allowed_none p q r = sym (rw (ne_eqb mode 1 p, ne_eqb mode 2 q, ne_eqb mode 3 r, ne_eqb g 1 n))

-- what holds of 1, 2 and 4 holds of every gain that a mode allows
pub three_gains_lem : (mode g : ℕ) (P : ℕ → Type 0) → allowed_gain mode g ≡ true → P 1 → P 2 → P 4 → P g
unfolding allowed_gain other_gains
three_gains_lem mode g P h p1 p2 p4 = go (eqb mode 1) (eqb mode 2) (eqb mode 3) h
  where
    first : (a b : Bool) → a || b ≡ true → (a ≡ true → P g) → (b ≡ true → P g) → P g
    first true b q f r = f refl
    first false b q f r = r q

    at : (k : ℕ) → P k → eqb g k ≡ true → P g
    at k p e = subst P (sym (eqb-true g k e)) p

    none : false ≡ true → P g
    none e = absurd (true≢false (sym e))

    go : (a b c : Bool) → member g (1 ∷ cond a (2 ∷ []) (cond b (4 ∷ []) (cond c (2 ∷ 4 ∷ []) []))) ≡ true → P g
    go true b c q = first (eqb g 1) _ q (at 1 p1) (λ r. first (eqb g 2) _ r (at 2 p2) none)
    go false true c q = first (eqb g 1) _ q (at 1 p1) (λ r. first (eqb g 4) _ r (at 4 p4) none)
    go false false true q = first (eqb g 1) _ q (at 1 p1) (λ r. first (eqb g 2) _ r (at 2 p2) (λ s. first (eqb g 4) _ s (at 4 p4) none))
    go false false false q = first (eqb g 1) _ q (at 1 p1) none
