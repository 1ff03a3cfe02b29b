-- A code and its bits determine each other; which codes are accepted, their width, reading by cases. Assumes nothing.
use Prim.Native.Nat.{ℕ, ◌+◌, ◌-◌, ◌^◌, ◌≤◌, ◌<◌}
use mathlib.Core.Path.{◌≡◌, refl, sym, ap, ◌∙◌}
use mathlib.Core.List.{List}
use mathlib.Core.Bool.{Bool, true, false, cond}
use native.Mathlib.Nat.{add-zero}
use native.Mathlib.Omega.{arith}
use lib.Dec.{eqb}
use lib.ListN.{length}
use lib.Pow.{pow_pos}
use borrow.Author.Tests.{eqb-true, eqb-false, eq-eqb, ne_eqb}
use Rattle.answers.specs.declared.Refusal.{Refusal}
use Rattle.bits.specs.Format.{Format, got, refused, number, only, both, shown}
use Rattle.bits.proofs.Lawful.{Lawful, number_lawful, only_lawful, both_lawful, shown_lawful}
use Rattle.bits.proofs.Sized.{Sized, number_sized, only_sized, both_sized, shown_sized}
use Rattle.tables.specs.Tables.{mant_bits}
use Rattle.tables.proofs.Rules.{mant_bits_lem}
use Rattle.levels.specs.declared.Code.{Code}
use Rattle.levels.specs.Codes.{tag, small_bits, large_bits, code_bits, to_code, of_code, of_large, tagged, coded, Accepted}
use Rattle.levels.proofs.Signed.{halves, small_width}

-- the second number of a tagged code: l behind the tag, else nothing
abbrev second : ℕ → ℕ → ℕ → Format ℕ
second w w' s = cond (eqb s (tag w)) (number w') (only 0)

-- ---- by the gain: a number of m bits at Gk 1, tagged else
pub coded_one : (m g : ℕ) → eqb g 1 ≡ true → coded m g ≡ shown (number m) Code.Large of_large
unfolding coded
coded_one m g e = rw e

pub coded_tagged : (m g : ℕ) → eqb g 1 ≡ false → coded m g ≡ tagged (small_bits m g) (large_bits m g)
unfolding coded
coded_tagged m g e = rw e

by_gain : (P : Format Code → Type 0) (m g : ℕ) → (g ≡ 1 → P (shown (number m) Code.Large of_large)) → ((g ≡ 1 → ⊥) → P (tagged (small_bits m g) (large_bits m g))) → P (coded m g)
unfolding coded
by_gain P m g f k = go (eqb g 1) refl
  where
    go : (t : Bool) → eqb g 1 ≡ t → P (cond t (shown (number m) Code.Large of_large) (tagged (small_bits m g) (large_bits m g)))
    go true e = f (eqb-true g 1 e)
    go false e = k (eqb-false g 1 e)

-- ---- reading gives back what was written, and nothing else
code_kept : (w w' : ℕ) (p : ℕ × ℕ) → (both (number w) (second w w')).Ok p → of_code w (to_code w p) ≡ p
code_kept w w' p h = go (eqb p.0 (tag w)) refl h.1
  where
    go : (t : Bool) → eqb p.0 (tag w) ≡ t → (cond t (number w') (only 0)).Ok p.1 → of_code w (cond t (Code.Large p.1) (Code.Small p.0)) ≡ p
    go true e o = ap {B = ℕ × ℕ} (λ (x : ℕ). (x, p.1)) (sym (eqb-true _ _ e))
    go false e o = ap {B = ℕ × ℕ} (λ (x : ℕ). (p.0, x)) (sym o)

second_lawful : (w w' s : ℕ) → Lawful (second w w' s)
second_lawful w w' s = go (eqb s (tag w))
  where
    go : (t : Bool) → Lawful (cond t (number w') (only 0))
    go true = number_lawful w'
    go false = only_lawful 0

pub tagged_lawful : (w w' : ℕ) → Lawful (tagged w w')
unfolding tagged
tagged_lawful w w' =
    shown_lawful (both (number w) (second w w')) (to_code w) (of_code w)
    (both_lawful (number w) (second w w') (number_lawful w) (second_lawful w w')) (code_kept w w')

pub coded_lawful : (m g : ℕ) → Lawful (coded m g)
coded_lawful m g =
    by_gain Lawful m g (λ e. shown_lawful (number m) Code.Large of_large (number_lawful m) (λ a h. refl)) (λ e. tagged_lawful (small_bits m g) (large_bits m g))

-- ---- the codes that are read: those that fit, and the tag is not a code
abbrev Fits : ℕ → ℕ → Code → Type 0
Fits w w' (Code.Small s) = (s < 2 ^ w) × (s ≡ tag w → ⊥)
Fits w w' (Code.Large l) = l < 2 ^ w'

tagged_fits : (w w' : ℕ) (c : Code) → (tagged w w').Ok c → Fits w w' c
unfolding tagged number
tagged_fits w w' (Code.Small s) o = (o.0.0, λ e. let q = o.1 in differ (rw (eq-eqb s (tag w) e) at q))
  where
    differ : Code.Large 0 ≡ Code.Small s → ⊥
    differ e = let z : ◌≡◌ {A = ℕ} 0 1 = cc in omega arith
tagged_fits w w' (Code.Large l) o = rw (eq-eqb (tag w) (tag w) refl) at o.0.1

tag_lt : (w : ℕ) → 1 ≤ w → tag w < 2 ^ w
tag_lt w h = let e = halves w h in let p = pow_pos (w - 1) in omega arith

fits_tagged : (w w' : ℕ) → 1 ≤ w → (c : Code) → Fits w w' c → (tagged w w').Ok c
unfolding tagged number
fits_tagged w w' p (Code.Small s) h = let t = ne_eqb s (tag w) h.1 in ((h.0, rw t refl), rw t)
fits_tagged w w' p (Code.Large l) h = let t = eq-eqb (tag w) (tag w) refl in ((tag_lt w p, rw t h), rw t)

pub coded_accepted : (h g : ℕ) (c : Code) → (coded (mant_bits h) g).Ok c → Accepted h g c
unfolding number
coded_accepted h g c = by_gain (λ F. F.Ok c → Accepted h g c) (mant_bits h) g (one c) (more c)
  where
    one : (c : Code) → g ≡ 1 → (shown (number (mant_bits h)) Code.Large of_large).Ok c → Accepted h g c
    one (Code.Small s) e o = let z : ◌≡◌ {A = ℕ} 0 1 = cc o.1 in absurd (omega arith)
    one (Code.Large l) e o = rw e o.0

    more : (c : Code) → (g ≡ 1 → ⊥) → (tagged (small_bits (mant_bits h) g) (large_bits (mant_bits h) g)).Ok c → Accepted h g c
    more (Code.Small s) e o = let f = tagged_fits (small_bits (mant_bits h) g) (large_bits (mant_bits h) g) (Code.Small s) o in (e, f.0, f.1)
    more (Code.Large l) e o = tagged_fits (small_bits (mant_bits h) g) (large_bits (mant_bits h) g) (Code.Large l) o

pub accepted_coded : (h g : ℕ) → 8 ≤ h → h ≤ 19 → (c : Code) → Accepted h g c → (coded (mant_bits h) g).Ok c
unfolding number
accepted_coded h g l u c = by_gain (λ F. Accepted h g c → F.Ok c) (mant_bits h) g (one c) (more c)
  where
    one : (c : Code) → g ≡ 1 → Accepted h g c → (shown (number (mant_bits h)) Code.Large of_large).Ok c
    one (Code.Small s) e k = absurd (k.0 e)
    one (Code.Large n) e k = (rw e at k, refl)

    fits : (c : Code) → Accepted h g c → Fits (small_bits (mant_bits h) g) (large_bits (mant_bits h) g) c
    fits (Code.Small s) k = (k.1, k.2)
    fits (Code.Large n) k = k

    more : (c : Code) → (g ≡ 1 → ⊥) → Accepted h g c → (tagged (small_bits (mant_bits h) g) (large_bits (mant_bits h) g)).Ok c
    more c e k =
        let m = mant_bits_lem h l u in
        fits_tagged (small_bits (mant_bits h) g) (large_bits (mant_bits h) g) (small_width (mant_bits h) g m.0 m.1).0 c (fits c k)

-- ---- how many bits
second_sized : (w w' s : ℕ) → Sized (second w w' s) (λ l. cond (eqb s (tag w)) w' 0)
second_sized w w' s = go (eqb s (tag w))
  where
    go : (t : Bool) → Sized (cond t (number w') (only 0)) (λ l. cond t w' 0)
    go true = number_sized w'
    go false = only_sized 0

tagged_sized : (w w' : ℕ) (c : Code) → (tagged w w').Ok c → length ((tagged w w').enc c) ≡ w + cond (eqb (of_code w c).0 (tag w)) w' 0
unfolding tagged
tagged_sized w w' =
    shown_sized (both (number w) (second w w')) (to_code w) (of_code w) (λ p. w + cond (eqb p.0 (tag w)) w' 0)
    (both_sized (number w) (second w w') (λ s. w) (λ s l. cond (eqb s (tag w)) w' 0) (number_sized w) (second_sized w w'))

pub coded_sized : (m g : ℕ) → Sized (coded m g) (code_bits m g)
coded_sized m g = by_gain (λ F. Sized F (code_bits m g)) m g one more
  where
    one : g ≡ 1 → Sized (shown (number m) Code.Large of_large) (code_bits m g)
    one e (Code.Small s) o = let z : ◌≡◌ {A = ℕ} 0 1 = cc o.1 in absurd (omega arith)
    one e (Code.Large l) o = rw e (number_sized m l o.0)

    more : (g ≡ 1 → ⊥) → Sized (tagged (small_bits m g) (large_bits m g)) (code_bits m g)
    more e (Code.Small s) o =
        let t = ne_eqb s (tag (small_bits m g)) (tagged_fits (small_bits m g) (large_bits m g) (Code.Small s) o).1 in
        tagged_sized (small_bits m g) (large_bits m g) (Code.Small s) o ∙ rw t (add-zero (small_bits m g))
    more e (Code.Large l) o =
        let t = eq-eqb (tag (small_bits m g)) (tag (small_bits m g)) refl in
        tagged_sized (small_bits m g) (large_bits m g) (Code.Large l) o ∙ rw (t, ne_eqb g 1 e)

-- ---- reading, by its cases
module _ (w w' : ℕ) (bs : List Bool) where
  pub tagged_none : (k : Refusal) → (number w).dec bs ≡ refused k → (tagged w w').dec bs ≡ refused k
  unfolding tagged
  tagged_none k e = rw e

  pub tagged_small : (s : ℕ) (rest : List Bool) → (number w).dec bs ≡ got s rest → (s ≡ tag w → ⊥) → (tagged w w').dec bs ≡ got (Code.Small s) rest
  unfolding tagged
  tagged_small s rest e h = let t = ne_eqb s (tag w) h in rw (e, t, t)

  pub tagged_cut : (s : ℕ) (k : Refusal) (rest : List Bool) → (number w).dec bs ≡ got s rest → s ≡ tag w → (number w').dec rest ≡ refused k → (tagged w w').dec bs ≡ refused k
  unfolding tagged
  tagged_cut s k rest e h f = rw (e, eq-eqb s (tag w) h, f)

  pub tagged_large : (s l : ℕ) (rest rest' : List Bool) → (number w).dec bs ≡ got s rest → s ≡ tag w → (number w').dec rest ≡ got l rest'
      → (tagged w w').dec bs ≡ got (Code.Large l) rest'
  unfolding tagged
  tagged_large s l rest rest' e h f = let t = eq-eqb s (tag w) h in rw (e, t, f, t)

module _ (m g : ℕ) (bs : List Bool) (one : eqb g 1 ≡ true) where
  pub coded_one_none : (k : Refusal) → (number m).dec bs ≡ refused k → (coded m g).dec bs ≡ refused k
  coded_one_none k e = rw (coded_one m g one, e)

  pub coded_one_large : (l : ℕ) (rest : List Bool) → (number m).dec bs ≡ got l rest → (coded m g).dec bs ≡ got (Code.Large l) rest
  coded_one_large l rest e = rw (coded_one m g one, e)
