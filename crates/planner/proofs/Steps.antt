-- One law for each step of the code. Assumes nothing.
use mathlib.Core.Path.{◌≡◌, refl, sym, ap, ◌∙◌}
use mathlib.Core.Bool.{Bool, true, false, not, cond}
use mathlib.Core.List.{List}
use Prim.Native.Nat.{ℕ, zero, suc, ◌+◌, ◌-◌, ◌*◌, ◌/◌, ◌^◌, ◌≤◌, ◌<◌}
use native.Mathlib.Nat.{le_trans, le_of_eq, le_antisymm, suc-mul, add-mul, mul-le-mul_right}
use native.Mathlib.Numerals.{add-one}
use native.Mathlib.Omega.{arith}
use borrow.Author.Tests.{lt-ltb, le-ltb, ne_eqb, eqb-true, leb-false}
use lib.Dec.{T, leb, eqb}
use lib.ListN.{length, get_or}
use lib.Ieee.{Float, nan, binary32, fits, le}
use Rattle.tables.specs.Tables.{mant_bits, vq_bits}
use Rattle.tables.specs.Numbers.{vq_bits_table}
use Rattle.tables.proofs.Rules.{mant_bits_lem}
use Rattle.gains.specs.Gains.{other_gains, word_bits, sections, gain_word_bits}
use Rattle.quantiser.specs.Quantise.{scalar_bits, codes_bits}
use Rattle.channel.specs.Bins.{sum_over}
use Rattle.channel.proofs.Over.{one_small, sum_none, sum_next, sum_le, sum_grows}
use Rattle.planner.specs.Cost.{bin_bits}
use Rattle.planner.specs.Choice.{cheaper, cheapest, least_up_to}
use Rattle.planner.specs.Work.{size_of, limit_of, limits_of, component_bits, six_bits, tag_at, tagged_bits, cost_in, CostsOf, gain_in, plain_bits}
use Rattle.planner.specs.declared.costs.Costs.{Costs}
use Rattle.planner.specs.declared.Limits.{Limits}
use Rattle.planner.proofs.Codes.{component_is, six_codes, codes_other, costs_of, codes_most}
use Rattle.planner.proofs.Escape.{escape}

-- a component of the size s: small codes have the bits small, the large code behind the tag has the bits large
abbrev bits_by_size : Float → Float → ℕ → ℕ → ℕ
bits_by_size s limit small large = cond (le limit s) (small + large) small

-- ---- sums
pub fits_sum : {a b : ℕ} → a ≤ 65536 → b ≤ 200000 → a + b < 2 ^ 32
fits_sum h k = omega arith

sum_run : (f : ℕ → ℕ) (c a n : ℕ) → ((k : ℕ) → f k ≡ c) → sum_over f a (a + n) ≡ n * c
sum_run f c a zero h = sum_none f a (a + 0) (omega arith) ∙ zero_is c
  where
    zero_is : (c : ℕ) → 0 ≡ 0 * c
    zero_is c = omega arith
sum_run f c a (suc n) h =
    let e : a + suc n ≡ suc (a + n) = omega arith in
    ap (sum_over f a) e ∙ sum_next f a (a + n) (omega arith) ∙ step n c (sum_over f a (a + n)) (f (a + n)) (sum_run f c a n h) (h (a + n))
  where
    step : (n c s t : ℕ) → s ≡ n * c → t ≡ c → s + t ≡ suc n * c
    step n c s t p q = let m = suc-mul n c in omega arith

sum_run_le : (f : ℕ → ℕ) (c a n : ℕ) → ((k : ℕ) → f k ≤ c) → sum_over f a (a + n) ≤ n * c
sum_run_le f c a n h = le_trans (sum_le f (λ k. c) a (a + n) (λ k p q. h k)) (le_of_eq (sum_run (λ k. c) c a n (λ k. refl)))

-- numbers that are small, or small + large where p holds
sum_counted : (f : ℕ → ℕ) (p : ℕ → Bool) (small large a n : ℕ) → ((k : ℕ) → f k ≡ cond (p k) (small + large) small)
    → sum_over f a (a + n) ≡ n * small + sum_over (λ k. cond (p k) 1 0) a (a + n) * large
sum_counted f p small large a zero h =
    let g : ℕ → ℕ = λ k. cond (p k) 1 0 in
    start small large (sum_over f a (a + 0)) (sum_over g a (a + 0)) (sum_none f a (a + 0) (omega arith)) (sum_none g a (a + 0) (omega arith))
  where
    start : (small large s c : ℕ) → s ≡ 0 → c ≡ 0 → s ≡ 0 * small + c * large
    start small large s c p q = rw (p, q) (omega arith)
sum_counted f p small large a (suc n) h =
    let g : ℕ → ℕ = λ k. cond (p k) 1 0 in
    let e : a + suc n ≡ suc (a + n) = omega arith in
    let l : a ≤ a + n = omega arith in
    let c = sum_over g a (a + n) in
    ap (sum_over f a) e ∙ sum_next f a (a + n) l ∙ step (p (a + n)) (sum_over f a (a + n)) (f (a + n)) c (sum_counted f p small large a n h) (h (a + n))
    ∙ sym (ap (λ (z : ℕ). suc n * small + z * large) (ap (sum_over g a) e ∙ sum_next g a (a + n) l))
  where
    step : (b : Bool) (s t c : ℕ) → s ≡ n * small + c * large → t ≡ cond b (small + large) small → s + t ≡ suc n * small + (c + cond b 1 0) * large
    step true s t c p q = let m = suc-mul n small in let k = add-mul c 1 large in omega arith
    step false s t c p q = let m = suc-mul n small in let k = add-mul c 0 large in omega arith

-- ---- one component
pub width : (h m : ℕ) → 8 ≤ h → h ≤ 16 → m ≡ mant_bits h → (3 ≤ m) × (m ≤ 16)
width h m l u e = let r = mant_bits_lem h l (omega arith) in (omega arith, omega arith)

flip : (t : Bool) (b l : ℕ) → cond (not t) b (b + l) ≡ cond t (b + l) b
flip true b l = refl
flip false b l = refl

module _ (h m : ℕ) (x : Float) (low : 8 ≤ h) (high : h ≤ 16) (em : m ≡ mant_bits h) (f : T (fits binary32 x)) where
  code_two : bits_by_size (size_of x) (limits_of h).two (m - 1) (m - 1) ≡ scalar_bits h 2 x
  unfolding limits_of scalar_bits
  code_two =
      let M = mant_bits h in
      let r = mant_bits_lem h low (omega arith) in
      ap (λ (k : ℕ). bits_by_size (size_of x) (limit_of (M - 1) (M - 1)) (k - 1) (k - 1)) em
      ∙ sym (flip (le (limit_of (M - 1) (M - 1)) (size_of x)) (M - 1) (M - 1))
      ∙ sym (ap (λ (t : Bool). cond t (M - 1) (M - 1 + (M - 1))) (escape (M - 1) (M - 1) x (omega arith) (omega arith) (omega arith) f))

  code_four : bits_by_size (size_of x) (limits_of h).four (m - 2) m ≡ scalar_bits h 4 x
  unfolding limits_of scalar_bits
  code_four =
      let M = mant_bits h in
      let r = mant_bits_lem h low (omega arith) in
      ap (λ (k : ℕ). bits_by_size (size_of x) (limit_of (M - 1) (M - 2)) (k - 2) k) em
      ∙ sym (flip (le (limit_of (M - 1) (M - 2)) (size_of x)) (M - 2) M)
      ∙ sym (ap (λ (t : Bool). cond t (M - 2) (M - 2 + M)) (escape (M - 1) (M - 2) x (omega arith) (omega arith) (omega arith) f))

  two_is : (l : Limits) → l ≡ limits_of h → scalar_bits h 2 x ≡ bits_by_size (size_of x) l.two (m - 1) (m - 1)
  two_is l el = sym (ap (λ (z : Limits). bits_by_size (size_of x) z.two (m - 1) (m - 1)) el ∙ code_two)

  four_is : (l : Limits) → l ≡ limits_of h → scalar_bits h 4 x ≡ bits_by_size (size_of x) l.four (m - 2) m
  four_is l el = sym (ap (λ (z : Limits). bits_by_size (size_of x) z.four (m - 2) m) el ∙ code_four)

-- ---- one bin
module _ (h : ℕ) (v : List Float) (m : ℕ) (em : m ≡ mant_bits h) (six : length v ≡ 6) where
  pub six_1 : 6 * m ≡ codes_bits h 1 v
  unfolding six_bits scalar_bits
  six_1 = ap (λ (k : ℕ). 6 * k) em ∙ sym (sum_run (component_bits h 1 v) (mant_bits h) 0 6 (λ k. component_is h 1 v k)) ∙ six_codes h 1 v six

  module _ (l : Limits) (low : 8 ≤ h) (high : h ≤ 16) (el : l ≡ limits_of h) (f : (k : ℕ) → T (fits binary32 (get_or v k nan))) where
    pub six_2 : tagged_bits v l.two (m - 1) (m - 1) ≡ codes_bits h 2 v
    unfolding six_bits tagged_bits
    six_2 =
        sym (sum_counted (component_bits h 2 v) (λ k. le l.two (size_of (get_or v k nan))) (m - 1) (m - 1) 0 6 (λ k. component_is h 2 v k ∙ two_is h m (get_or v k nan) low high em (f k) l el))
        ∙ six_codes h 2 v six

    pub six_4 : tagged_bits v l.four (m - 2) m ≡ codes_bits h 4 v
    unfolding six_bits tagged_bits
    six_4 =
        sym (sum_counted (component_bits h 4 v) (λ k. le l.four (size_of (get_or v k nan))) (m - 2) m 0 6 (λ k. component_is h 4 v k ∙ four_is h m (get_or v k nan) low high em (f k) l el))
        ∙ six_codes h 4 v six

    pub costs_few : (two four : ℕ) → two ≡ tagged_bits v l.two (m - 1) (m - 1) → four ≡ tagged_bits v l.four (m - 2) m → (6 * m ≤ 256) × (two ≤ 256) × (four ≤ 256)
    costs_few two four e2 e4 =
        let a = six_1 in
        let b = e2 ∙ six_2 in
        let c = e4 ∙ six_4 in
        (omega (arith, codes_most h 1 v), omega (arith, codes_most h 2 v), omega (arith, codes_most h 4 v))

    pub costs_are : (c : Costs) → c.one ≡ 6 * m → c.two ≡ tagged_bits v l.two (m - 1) (m - 1) → c.four ≡ tagged_bits v l.four (m - 2) m → CostsOf h v c
    costs_are c e1 e2 e4 = costs_of h v c (e1 ∙ six_1) (e2 ∙ six_2) (e4 ∙ six_4)

    -- ---- at one gain
    pub bits_1 : (g : ℕ) → g ≡ 1 → 6 * m ≡ codes_bits h g v
    bits_1 g e = rw e six_1

    pub bits_2 : (g r : ℕ) → g ≡ 2 → r ≡ tagged_bits v l.two (m - 1) (m - 1) → r ≡ codes_bits h g v
    bits_2 g r e er = rw e (er ∙ six_2)

    pub bits_4 : (g r : ℕ) → (g ≡ 1 → ⊥) → (g ≡ 2 → ⊥) → r ≡ tagged_bits v l.four (m - 2) m → r ≡ codes_bits h g v
    bits_4 g r p q er = er ∙ six_4 ∙ sym (codes_other h g v (ne_eqb g 1 p) (ne_eqb g 2 q))

-- a bin at Gk 1; hebap 0 has no index
vq_zero : vq_bits 0 ≡ 0
unfolding vq_bits vq_bits_table
vq_zero = refl

pub plain_is : (h : ℕ) (v : List Float) → length v ≡ 6 → plain_bits h ≡ bin_bits h 1 v
unfolding plain_bits bin_bits
plain_is h v six = go (eqb h 0) refl (leb h 7) refl
  where
    go : (s : Bool) → eqb h 0 ≡ s → (t : Bool) → leb h 7 ≡ t → cond t (vq_bits h) (6 * mant_bits h) ≡ cond s 0 (cond t (vq_bits h) (codes_bits h 1 v))
    go true p true q = ap vq_bits (eqb-true h 0 p) ∙ vq_zero
    go true p false q = absurd (let e = eqb-true h 0 p in let l = leb-false h 7 q in omega arith)
    go false p true q = refl
    go false p false q = six_1 h v (mant_bits h) refl six

-- ---- the cheaper of two
pub take_next : (cost : ℕ → ℕ) (g k a b : ℕ) → a ≡ cost k → b ≡ cost g → a < b → k ≡ cheaper cost g k
take_next cost g k a b p q l = sym (rw (lt-ltb (cost k) (cost g) (omega arith)))

pub keep_first : (cost : ℕ → ℕ) (g k a b : ℕ) → a ≡ cost k → b ≡ cost g → b ≤ a → g ≡ cheaper cost g k
keep_first cost g k a b p q l = sym (rw (le-ltb (cost k) (cost g) (omega arith)))

-- the least of one mode more
module _ (cost : ℕ → ℕ) (n g a b : ℕ) (eg : g ≡ least_up_to cost n) (ea : a ≡ cost (n + 1)) (eb : b ≡ cost g) where
  one_more_lem : cheaper cost g (n + 1) ≡ least_up_to cost (n + 1)
  unfolding least_up_to
  one_more_lem = ap (λ (z : ℕ). cheaper cost z (n + 1)) eg ∙ ap (cheaper cost (least_up_to cost n)) (add-one n) ∙ sym (ap (least_up_to cost) (add-one n))

-- the least of the modes to m, from that of the modes below
module _ (cost : ℕ → ℕ) (m g a b : ℕ) (low : g < m) (eg : g ≡ least_up_to cost (m - 1)) (ea : a ≡ cost m) (eb : b ≡ cost g) where
  next_mode : cheaper cost g m ≡ least_up_to cost (m + 1 - 1)
  next_mode =
      let n : m ≡ m - 1 + 1 = omega arith in
      let k : m + 1 - 1 ≡ m - 1 + 1 = omega arith in
      ap (cheaper cost g) n ∙ one_more_lem cost (m - 1) g a b eg (ea ∙ ap cost n) eb ∙ sym (ap (least_up_to cost) k)

  pub least_taken : a < b → (m < m + 1) × (m ≡ least_up_to cost (m + 1 - 1))
  least_taken l = (omega arith, take_next cost g m a b ea eb l ∙ next_mode)

  pub least_kept : b ≤ a → (g < m + 1) × (g ≡ least_up_to cost (m + 1 - 1))
  least_kept l = (omega arith, keep_first cost g m a b ea eb l ∙ next_mode)

pub gain_1 : (mode g : ℕ) (c : Costs) → mode ≡ 1 → g ≡ cheaper (cost_in c) 1 2 → g ≡ gain_in mode c
unfolding gain_in cheapest other_gains
gain_1 mode g c e q = q ∙ sym (ap (λ (m : ℕ). gain_in m c) e)

pub gain_2 : (mode g : ℕ) (c : Costs) → mode ≡ 2 → g ≡ cheaper (cost_in c) 1 4 → g ≡ gain_in mode c
unfolding gain_in cheapest other_gains
gain_2 mode g c e q = q ∙ sym (ap (λ (m : ℕ). gain_in m c) e)

pub gain_3 : (mode k g : ℕ) (c : Costs) → mode ≡ 3 → k ≡ cheaper (cost_in c) 1 2 → g ≡ cheaper (cost_in c) k 4 → g ≡ gain_in mode c
unfolding gain_in cheapest other_gains
gain_3 mode k g c e p q = q ∙ ap (λ (z : ℕ). cheaper (cost_in c) z 4) p ∙ sym (ap (λ (m : ℕ). gain_in m c) e)

pub gain_none : (mode : ℕ) (c : Costs) → (mode ≡ 1 → ⊥) → (mode ≡ 2 → ⊥) → (mode ≡ 3 → ⊥) → 1 ≡ gain_in mode c
unfolding gain_in cheapest other_gains
gain_none mode c p q r = sym (rw (ne_eqb mode 1 p, ne_eqb mode 2 q, ne_eqb mode 3 r))

pub cost_small : (c : Costs) (g : ℕ) → cost_in c g ≤ 256
unfolding cost_in
cost_small c g = go (eqb g 1) (eqb g 2)
  where
    go : (s t : Bool) → cond s c.one (cond t c.two c.four) ≤ 256
    go true t = c.few.0
    go false true = c.few.1
    go false false = c.few.2

-- ---- the loop over six components
pub tagged_most : (limit : Float) (v : List Float) (i t : ℕ) → i ≤ 6 → t ≡ sum_over (tag_at limit v) 0 i → t ≤ 6
tagged_most limit v i t h e =
    let f = tag_at limit v in
    le_trans (le_of_eq e) (le_trans (sum_grows f 0 i 6 h) (sum_run_le f 1 0 6 (λ k. one_small (le limit (size_of (get_or v k nan))))))

-- a count times a width
pub product_most : (a b : ℕ) → a ≤ 12 → b ≤ 16 → a * b ≤ 192
product_most a b p q = le_trans (mul-le-mul_right b p) (omega arith)

-- ---- payloads
pub word_small : (mode n : ℕ) → n ≤ 65536 → gain_word_bits mode n ≤ 200000
unfolding gain_word_bits word_bits sections
word_small mode n h = go (eqb mode 0) (eqb mode 3)
  where
    go : (s t : Bool) → cond t 5 1 * cond s 0 (cond t ((n + 2) / 3) n) ≤ 200000
    go true true = omega arith
    go true false = omega arith
    go false true = omega arith
    go false false = omega arith

-- ---- what is left of hebap 8 to 16 after the others
past : (k h : ℕ) → k ≤ h → (h ≡ k → ⊥) → suc k ≤ h
past k h l n = omega arith

pub last_width : (h : ℕ) → 8 ≤ h → h ≤ 16 → (h ≡ 8 → ⊥) → (h ≡ 9 → ⊥) → (h ≡ 10 → ⊥) → (h ≡ 11 → ⊥) → (h ≡ 12 → ⊥) → (h ≡ 13 → ⊥) → (h ≡ 14 → ⊥) → (h ≡ 15 → ⊥) → h ≡ 16
last_width h l u a b c d e f g i = le_antisymm u (past 15 h (past 14 h (past 13 h (past 12 h (past 11 h (past 10 h (past 9 h (past 8 h l a) b) c) d) e) f) g) i)
