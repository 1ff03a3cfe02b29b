-- The bits of a component, by cases, and those of a bin. Assumes nothing.
use mathlib.Core.Path.{◌≡◌, refl, sym, ap, ◌∙◌}
use mathlib.Core.Bool.{Bool, true, false, cond}
use mathlib.Core.List.{List, [], ◌∷◌, ◌++◌}
use mathlib.Core.Logic.{⊎_elim, inl, inr}
use Prim.Native.Nat.{ℕ, zero, suc, ◌+◌, ◌-◌, ◌*◌, ◌≤◌, ◌<◌}
use native.Mathlib.Nat.{le_trans, le_of_eq}
use native.Mathlib.Omega.{arith}
use borrow.Author.Tests.{lt-leb, ne_eqb, eqb-true}
use lib.Dec.{eqb, leb}
use lib.ListN.{length, get_or, take, length-take}
use lib.Seq.{take-suc, take_all}
use lib.Ieee.{Float, nan}
use Rattle.tables.specs.Tables.{mant_bits, vq_bits}
use Rattle.tables.proofs.Rules.{mant_bits_lem, mant_none, vq_most}
use Rattle.tables.proofs.Tests.{lt_or_le}
use Rattle.levels.specs.Codes.{code_bits, small_bits}
use Rattle.quantiser.specs.Quantise.{picked, small_of, is_small, scalar_bits, codes_bits}
use Rattle.quantiser.proofs.Facts.{picked_bits}
use Rattle.channel.specs.Bins.{sum_over}
use Rattle.channel.proofs.Over.{sum_none, sum_next}
use Rattle.planner.specs.Cost.{bin_bits}
use Rattle.planner.specs.Work.{component_bits, six_bits, cost_in, CostsOf, plain_bits}
use Rattle.planner.specs.declared.costs.Costs.{Costs}

pub component_is : (h g : ℕ) (x : List Float) (i : ℕ) → component_bits h g x i ≡ scalar_bits h g (get_or x i nan)
unfolding component_bits
component_is h g x i = picked_bits h g (get_or x i nan)

-- ---- a bin
-- the quantiser adds from the first code on, the planner up to the last
codes_last : (h g : ℕ) (xs : List Float) (y : Float) → codes_bits h g (xs ++ (y ∷ [])) ≡ codes_bits h g xs + code_bits (mant_bits h) g (picked h g y).0
unfolding codes_bits
codes_last h g [] y = omega arith
codes_last h g (z ∷ xs) y = let r = codes_last h g xs y in omega arith

run_codes : (h g : ℕ) (v : List Float) (n : ℕ) → n ≤ length v → sum_over (component_bits h g v) 0 n ≡ codes_bits h g (take n v)
unfolding component_bits codes_bits
run_codes h g v zero l = sum_none (component_bits h g v) 0 0 (omega arith)
run_codes h g v (suc n) l =
    sum_next (component_bits h g v) 0 n (omega arith)
    ∙ rw (take-suc v n nan l, codes_last h g (take n v) (get_or v n nan), run_codes h g v n (omega arith))

-- The planner counts for a bin the bits that quantise_bin answers.
pub six_codes : (h g : ℕ) (v : List Float) → length v ≡ 6 → six_bits h v g ≡ codes_bits h g v
unfolding six_bits
six_codes h g v six = run_codes h g v 6 (omega arith) ∙ ap (codes_bits h g) (take_all 6 v (omega arith))

pub bin_scalar : (h g : ℕ) (v : List Float) → 8 ≤ h → bin_bits h g v ≡ codes_bits h g v
unfolding bin_bits
bin_scalar h g v l = rw (ne_eqb h 0 (λ (e : h ≡ 0). omega arith), lt-leb h 7 l)

-- ---- at Gk 1, 2 and 4: any other gain would cost what 4 costs
scalar_other : (h g : ℕ) (x : Float) → eqb g 1 ≡ false → eqb g 2 ≡ false → scalar_bits h g x ≡ scalar_bits h 4 x
unfolding scalar_bits
scalar_other h g x p q = rw (p, q)

pub codes_other : (h g : ℕ) (v : List Float) → eqb g 1 ≡ false → eqb g 2 ≡ false → codes_bits h g v ≡ codes_bits h 4 v
unfolding codes_bits
codes_other h g [] p q = refl
codes_other h g (x ∷ v) p q =
    ap (λ (n : ℕ). n + codes_bits h g v) (picked_bits h g x ∙ scalar_other h g x p q ∙ sym (picked_bits h 4 x))
    ∙ ap (λ (n : ℕ). code_bits (mant_bits h) 4 (picked h 4 x).0 + n) (codes_other h g v p q)

pub costs_of : (h : ℕ) (v : List Float) (c : Costs) → c.one ≡ codes_bits h 1 v → c.two ≡ codes_bits h 2 v → c.four ≡ codes_bits h 4 v → CostsOf h v c
unfolding cost_in
costs_of h v c e1 e2 e4 g = go (eqb g 1) refl (eqb g 2) refl
  where
    go : (s : Bool) → eqb g 1 ≡ s → (t : Bool) → eqb g 2 ≡ t → cond s c.one (cond t c.two c.four) ≡ codes_bits h g v
    go true p t q = e1 ∙ ap (λ (k : ℕ). codes_bits h k v) (sym (eqb-true g 1 p))
    go false p true q = e2 ∙ ap (λ (k : ℕ). codes_bits h k v) (sym (eqb-true g 2 q))
    go false p false q = e4 ∙ sym (codes_other h g v p q)

-- ---- bounds
pub mant_most : (h : ℕ) → mant_bits h ≤ 16
mant_most h =
    ⊎_elim (λ (l : h < 8). le_trans (le_of_eq (mant_none h (inl (omega arith)))) (omega arith))
    (λ (l : 8 ≤ h). ⊎_elim (λ (u : h < 20). (mant_bits_lem h l (omega arith)).1) (λ (u : 20 ≤ h). le_trans (le_of_eq (mant_none h (inr u))) (omega arith)) (lt_or_le h 20)) (lt_or_le h 8)

scalar_most : (h g : ℕ) (x : Float) → scalar_bits h g x ≤ 32
unfolding scalar_bits
scalar_most h g x = let m = mant_most h in go (eqb g 1) (is_small (small_bits (mant_bits h) g) (small_of (mant_bits h - 1) x)) (eqb g 2) m
  where
    go : (a b c : Bool) → mant_bits h ≤ 16 → cond a (mant_bits h) (cond b (cond c (mant_bits h - 1) (mant_bits h - 2)) (cond c (mant_bits h - 1) (mant_bits h - 2) + cond c (mant_bits h - 1) (mant_bits h))) ≤ 32
    go true b c m = omega arith
    go false true true m = omega arith
    go false true false m = omega arith
    go false false true m = omega arith
    go false false false m = omega arith

pub codes_most : (h g : ℕ) (v : List Float) → codes_bits h g v ≤ 32 * length v
unfolding codes_bits
codes_most h g [] = omega arith
codes_most h g (x ∷ v) = let e = picked_bits h g x in let s = scalar_most h g x in let r = codes_most h g v in omega arith

six_most : (h g : ℕ) (l : List Float) → codes_bits h g (take 6 l) ≤ 256
six_most h g l = let m = codes_most h g (take 6 l) in let n = length-take 6 l in omega arith

pub bin_most : (h g : ℕ) (l : List Float) → bin_bits h g (take 6 l) ≤ 256
unfolding bin_bits
bin_most h g l = go (eqb h 0) (leb h 7)
  where
    go : (s t : Bool) → cond s 0 (cond t (vq_bits h) (codes_bits h g (take 6 l))) ≤ 256
    go true t = omega arith
    go false true = let v = vq_most h in omega arith
    go false false = six_most h g l

pub plain_most : (h : ℕ) → plain_bits h ≤ 256
unfolding plain_bits
plain_most h = go (leb h 7)
  where
    go : (t : Bool) → cond t (vq_bits h) (6 * mant_bits h) ≤ 256
    go true = let v = vq_most h in omega arith
    go false = let m = mant_most h in omega arith
