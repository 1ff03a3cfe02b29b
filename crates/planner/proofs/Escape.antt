-- Which components take a large codeword, by their size alone. Assumes nothing.
use mathlib.Core.Path.{◌≡◌, refl, sym, ap, ◌∙◌, subst}
use mathlib.Core.Bool.{Bool, true, false, not, ◌&&◌, ◌||◌, cond, true≢false, beq}
use Prim.Native.Nat.{ℕ, zero, suc, min, ◌+◌, ◌-◌, ◌*◌, ◌/◌, ◌%◌, ◌^◌, ◌≤◌, ◌<◌, compare}
use native.Mathlib.Nat.{add-mul, le_trans, le_of_eq, lt_of_le_of_lt, lt_of_lt_of_le, mul-pos, mul_comm, zero-mul, mul_assoc, mul_right_comm, mul-one, one-mul, mul-lt-mul_of_pos_right, mul-le-mul_right, lt_of_mul-lt-mul_right, le-div_iff_mul-le, div-lt_iff_lt-mul, eq-or-lt_of_le, le_of_lt}
use mathlib.Core.Logic.{⊎_elim}
use native.Mathlib.Omega.{arith}
use borrow.Author.Tests.{le-leb, lt-leb, lt-ltb, le-ltb, ltb-true, ltb-false, leb-true, leb-false, eq-eqb, ne_eqb}
use lib.Dec.{T, leb, ltb, eqb, leb-suc-suc, leb→le, lit≤, lit<, eqb→eq}
use lib.IntN.{ℤ, pos, negsuc, neg_ℤ}
use lib.Signed.{lt_z}
use native.Mathlib.Numerals.{add-one}
use Rattle.quantiser.proofs.Double.{fits_digits, at, at_is}
use lib.Pow.{pow_pos, pow_mono, pow-lt, pow-add}
use lib.Ieee.{Float, nan, inf, fin, binary32, up, down, round, mul, lt, le, eq, neg, fits, odd, units, size, nearest, of_int, of_bits}
use lib.Ieee.Fits.{up_pos, down_pos, and_r}
use lib.Ieee.Exact.{HasValue, round_exact}
use lib.Ieee.Nearest.{div_same}
use lib.Ieee.Order.{round_mono}
use lib.Ieee.Scale.{round_same}
use Rattle.levels.specs.Value.{power}
use Rattle.quantiser.specs.Round.{half_up, round_mag, round_away}
use Rattle.quantiser.specs.Quantise.{small_of, is_small}
use Rattle.bits.proofs.Tests.{or_right}
use Rattle.planner.specs.Work.{size_of, limit_of}

-- ---- a rounded number lies between the tags exactly where its size is below the tag's
between_neg : (p n : ℕ) → lt_z (neg_ℤ (pos (suc p))) (neg_ℤ (pos n)) && lt_z (neg_ℤ (pos n)) (pos (suc p)) ≡ ltb n (suc p)
between_neg p zero = refl
between_neg p (suc k) = go (ltb k p) ∙ sym (leb-suc-suc (suc k) p)
  where
    go : (t : Bool) → t && true ≡ t
    go true = refl
    go false = refl

cut : (n p : ℕ) → p < 2147483647 → ltb (min n 2147483647) (suc p) ≡ ltb n (suc p)
cut n p h = go (ltb n (suc p)) refl
  where
    go : (t : Bool) → ltb n (suc p) ≡ t → ltb (min n 2147483647) (suc p) ≡ t
    go true q = let l = ltb-true n (suc p) q in lt-ltb (min n 2147483647) (suc p) (omega arith)
    go false q = let l = ltb-false n (suc p) q in le-ltb (min n 2147483647) (suc p) (omega arith)

between : (p : ℕ) (y : Float) → p < 2147483647 → lt_z (neg_ℤ (pos (suc p))) (round_away y) && lt_z (round_away y) (pos (suc p)) ≡ ltb (round_mag y) (suc p)
unfolding round_away round_mag
between p nan h = refl
between p (inf true) h = between_neg p 2147483648
between p (inf false) h = cut 2147483648 p h
between p (fin true m e) h = between_neg p (min (half_up (m * up e) (down e)) 2147483648)
between p (fin false m e) h = cut (min (half_up (m * up e) (down e)) 2147483648) p h

pub small_is : (b : ℕ) (y : Float) → b ≤ 16 → is_small b (round_away y) ≡ ltb (round_mag y) (2 ^ (b - 1))
small_is b y h =
    let u : 2 ^ (b - 1) ≤ 65536 = pow_mono {i = b - 1} {j = 16} (omega arith) in
    let l : 0 < 2 ^ (b - 1) = pow_pos (b - 1) in
    go (2 ^ (b - 1)) l u
  where
    go : (p : ℕ) → 0 < p → p ≤ 65536 → lt_z (neg_ℤ (pos p)) (round_away y) && lt_z (round_away y) (pos p) ≡ ltb (round_mag y) p
    go zero l u = absurd (omega arith)
    go (suc p) l u = between p y (omega arith)

-- ---- times 2 ^ n
power_value : (n : ℕ) → n ≤ 16 → HasValue (power n) false (2 ^ n) 1
unfolding of_int
power_value n h =
    round_exact binary32 false (2 ^ n) 1 1 (n + 149) (lit< tt) (lit< tt)
    (lt_of_le_of_lt (le_of_eq (one-mul (2 ^ (n + 149)))) (pow-lt {i = n + 149} {j = 277} (omega arith)))
    (sym (pow-add 2 n 149) ∙ sym (one-mul (2 ^ (n + 149))) ∙ sym (mul-one (1 * 2 ^ (n + 149))))

unlike_false : (s : Bool) → not (beq s false) ≡ s
unlike_false true = refl
unlike_false false = refl

times_value : (s : Bool) (m : ℕ) (e : ℤ) (w : ℕ) (p : Float) → HasValue p false w 1 → mul binary32 (fin s m e) p ≡ round binary32 s (m * up e * w) (down e)
unfolding mul
times_value s m e w nan v = absurd v
times_value s m e w (inf t) v = absurd v
times_value s m e w (fin true k d) v = absurd (true≢false v.0)
times_value s m e w (fin false k d) v =
    let D : 0 < down d = down_pos d in
    let E : 0 < down e = down_pos e in
    let same : k * up d ≡ w * down d = sym (mul-one (k * up d)) ∙ v.1 in
    let cross : m * up e * (k * up d) * down e ≡ m * up e * w * (down e * down d) =
    ap (λ (z : ℕ). m * up e * z * down e) same ∙ ap (λ (z : ℕ). z * down e) (sym (mul_assoc (m * up e) w (down d))) ∙ mul_assoc (m * up e * w) (down d) (down e) ∙ ap (λ (z : ℕ). m * up e * w * z) (mul_comm (down d) (down e)) in
    ap (λ (t : Bool). round binary32 t (m * up e * (k * up d)) (down e * down d)) (unlike_false s)
    ∙ round_same binary32 s (m * up e * (k * up d)) (down e * down d) (m * up e * w) (down e) (mul-pos E D) E cross

-- the sign does not matter to the size of what is rounded
sign_free : (s : Bool) (a c : ℕ) → round_mag (round binary32 s a c) ≡ round_mag (round binary32 false a c)
unfolding round units odd round_mag
sign_free s a c =
    let n = a * 2 ^ 149 in
    let k = size (n / c) - 24 in
    let u = c * 2 ^ k in
    let q = nearest (n / u) (compare (n % u * 2) u) in
    go (ltb (q * 2 ^ k) (2 ^ 277)) q k
  where
    go : (t : Bool) (q k : ℕ) → round_mag (cond t (odd 25 s q k 149) (inf s)) ≡ round_mag (cond t (odd 25 false q k 149) (inf false))
    go true zero k = refl
    go true (suc q) k = refl
    go false q k = refl

-- ---- exactness
exact : (n m : ℕ) (e : ℤ) → m < 2 ^ 24 → down e ≤ 2 ^ 149 → m * up e * 2 ^ n < 2 ^ 128 * down e
    → HasValue (round binary32 false (m * up e * 2 ^ n) (down e)) false (m * up e * 2 ^ n) (down e)
exact n m e small fine bound =
    let d = down e in
    let D : 0 < d = down_pos e in
    let j = at 149 e + n in
    let units : m * up e * 2 ^ n * 2 ^ 149 ≡ m * 2 ^ j * d =
    mul_right_comm (m * up e) (2 ^ n) (2 ^ 149) ∙ ap (λ (z : ℕ). z * 2 ^ n) (mul_assoc m (up e) (2 ^ 149) ∙ ap (λ (z : ℕ). m * z) (at_is 149 (omega arith) e fine) ∙ sym (mul_assoc m (2 ^ at 149 e) d))
    ∙ mul_right_comm (m * 2 ^ at 149 e) d (2 ^ n) ∙ ap (λ (z : ℕ). z * d) (mul_assoc m (2 ^ at 149 e) (2 ^ n) ∙ ap (λ (z : ℕ). m * z) (sym (pow-add 2 (at 149 e) n))) in
    let under : m * 2 ^ j < 2 ^ 277 = lt_of_mul-lt-mul_right d (lt_of_le_of_lt (le_of_eq (sym units)) (lt_of_lt_of_le (mul-lt-mul_of_pos_right bound (pow_pos 149)) (le_of_eq (mul_right_comm (2 ^ 128) d (2 ^ 149))))) in
    round_exact binary32 false (m * up e * 2 ^ n) d m j D small under units

mag_value : (y : Float) (a c : ℕ) → 0 < c → HasValue y false a c → round_mag y ≡ min (half_up a c) 2147483648
unfolding round_mag
mag_value nan a c C v = absurd v
mag_value (inf s) a c C v = absurd v
mag_value (fin s m e) a c C v =
    let d = down e in
    let D : 0 < d = down_pos e in
    let w : m * up e * c ≡ a * d = v.1 in
    ap (λ (z : ℕ). min z 2147483648)
    (div_same (m * up e * 2 + d) (d * 2) (a * 2 + c) (c * 2) (mul-pos D (lit< tt)) (mul-pos C (lit< tt)) (cross (m * up e) d a c w))
  where
    cross : (p d a c : ℕ) → p * c ≡ a * d → (p * 2 + d) * (c * 2) ≡ (a * 2 + c) * (d * 2)
    cross p d a c w =
        let l : (p * 2 + d) * (c * 2) ≡ p * 2 * (c * 2) + d * (c * 2) = add-mul (p * 2) d (c * 2) in
        let r : (a * 2 + c) * (d * 2) ≡ a * 2 * (d * 2) + c * (d * 2) = add-mul (a * 2) c (d * 2) in
        let s : p * 2 * (c * 2) ≡ p * c * 4 = quad p c in
        let t : a * 2 * (d * 2) ≡ a * d * 4 = quad a d in
        let u : d * (c * 2) ≡ d * c * 2 = sym (mul_assoc d c 2) in
        let x : c * (d * 2) ≡ c * d * 2 = sym (mul_assoc c d 2) in
        let z : d * c ≡ c * d = mul_comm d c in
        omega arith
      where
        quad : (p c : ℕ) → p * 2 * (c * 2) ≡ p * c * 4
        quad p c = sym (mul_assoc (p * 2) c 2) ∙ ap (λ (z : ℕ). z * 2) (mul_right_comm p 2 c) ∙ mul_assoc (p * c) 2 2

-- ---- the test, on numbers: L is 2 P - 1
half_test : (A d P L : ℕ) → 0 < d → P ≤ 65536 → L + 1 ≡ P * 2 → ltb (min (half_up A d) 2147483648) P ≡ not (leb (L * d) (A * 2))
half_test A d P L D u e =
    let w : L * d + d ≡ P * (d * 2) = ap (λ (z : ℕ). L * d + z) (sym (one-mul d)) ∙ sym (add-mul L 1 d) ∙ ap (λ (z : ℕ). z * d) e ∙ mul_assoc P 2 d ∙ ap (λ (z : ℕ). P * z) (mul_comm 2 d) in
    go (leb (L * d) (A * 2)) refl w
  where
    go : (t : Bool) → leb (L * d) (A * 2) ≡ t → L * d + d ≡ P * (d * 2) → ltb (min (half_up A d) 2147483648) P ≡ not t
    go true q w =
        let l : L * d ≤ A * 2 = leb-true (L * d) (A * 2) q in
        let k : P ≤ half_up A d = (le-div_iff_mul-le (mul-pos D (lit< tt))).1 (omega arith) in
        le-ltb (min (half_up A d) 2147483648) P (omega arith)
    go false q w =
        let l : A * 2 < L * d = leb-false (L * d) (A * 2) q in
        let k : half_up A d < P = (div-lt_iff_lt-mul (mul-pos D (lit< tt))).1 (omega arith) in
        lt-ltb (min (half_up A d) 2147483648) P (omega arith)

-- ---- from 2 ^ 31 on
le_fin : (a b : ℕ) → ltb a b || (eqb a b && true) ≡ leb a b
le_fin a b = go (leb a b) refl
  where
    go : (t : Bool) → leb a b ≡ t → ltb a b || (eqb a b && true) ≡ t
    go true q = ⊎_elim (λ (e : a ≡ b). or_right (ltb a b) (eqb a b && true) (ap (λ (t : Bool). t && true) (eq-eqb a b e))) (λ (l : a < b). ap (λ (t : Bool). t || (eqb a b && true)) (lt-ltb a b l)) (eq-or-lt_of_le (leb-true a b q))
    go false q =
        let l = leb-false a b q in
        ap (λ (t : Bool). t || (eqb a b && true)) (le-ltb a b (le_of_lt l)) ∙ ap (λ (t : Bool). t && true) (ne_eqb a b (λ (e : a ≡ b). omega arith))

large_mag : (y : Float) → T (le (fin false 1 (pos 31)) y) → 2147483648 ≤ round_mag y
unfolding le lt eq round_mag
large_mag nan h = absurd h
large_mag (inf true) h = absurd h
large_mag (inf false) h = omega arith
large_mag (fin true m e) h =
    let D : 0 < down e = down_pos e in
    absurd (let z : 2147483648 * down e ≡ 0 = eqb→eq (2147483648 * down e) 0 (and_r (eqb (2147483648 * down e) (m * up e * 1)) (eqb (2147483648 * down e) 0) h) in omega arith)
large_mag (fin false m e) h =
    let D : 0 < down e = down_pos e in
    let l : 2147483648 * down e ≤ m * up e * 1 = leb→le (2147483648 * down e) (m * up e * 1) (subst T (le_fin (2147483648 * down e) (m * up e * 1)) h) in
    let k : 2147483648 ≤ half_up (m * up e) (down e) = (le-div_iff_mul-le (mul-pos D (lit< tt))).1 (omega arith) in
    omega arith

-- ---- all sizes
mag_test : (n m : ℕ) (e : ℤ) (P L : ℕ) → m < 2 ^ 24 → down e ≤ 2 ^ 149 → P ≤ 65536 → L + 1 ≡ P * 2
    → ltb (round_mag (round binary32 false (m * up e * 2 ^ n) (down e))) P ≡ not (leb (L * down e) (m * up e * 2 ^ n * 2))
unfolding round
mag_test n m e P L small fine u q = go (ltb (m * up e * 2 ^ n) (2 ^ 128 * down e)) refl
  where
    D : 0 < down e
    D = down_pos e

    go : (t : Bool) → ltb (m * up e * 2 ^ n) (2 ^ 128 * down e) ≡ t → ltb (round_mag (round binary32 false (m * up e * 2 ^ n) (down e))) P ≡ not (leb (L * down e) (m * up e * 2 ^ n * 2))
    go true b =
        let y = round binary32 false (m * up e * 2 ^ n) (down e) in
        let v = exact n m e small fine (ltb-true (m * up e * 2 ^ n) (2 ^ 128 * down e) b) in
        ap (λ (z : ℕ). ltb z P) (mag_value y (m * up e * 2 ^ n) (down e) D v) ∙ half_test (m * up e * 2 ^ n) (down e) P L D u q
    go false b =
        let A = m * up e * 2 ^ n in
        let d = down e in
        let y = round binary32 false A d in
        let l : 2 ^ 128 * d ≤ A = ltb-false A (2 ^ 128 * d) b in
        let w : 2147483648 * d ≤ 2 ^ 128 * d = mul-le-mul_right d (lit≤ {m = 2147483648} {n = 2 ^ 128} tt) in
        let o : 2147483648 * d ≤ A * 1 = le_trans (le_trans w l) (le_of_eq (sym (mul-one A))) in
        let r = large_mag y (subst (λ (z : Float). T (le z y)) top (round_mono binary32 2147483648 1 A d (lit< tt) D o)) in
        let L1 : L ≤ 131072 = omega arith in
        let s : L * d ≤ 2147483648 * d = mul-le-mul_right d (le_trans L1 (lit≤ {m = 131072} {n = 2147483648} tt)) in
        let s2 : L * d ≤ A = le_trans (le_trans s w) l in
        le-ltb (round_mag y) P (omega arith) ∙ sym (ap not (le-leb (L * d) (A * 2) (omega arith)))
      where
        top : round binary32 false 2147483648 1 ≡ fin false 1 (pos 31)
        top = refl

-- ---- the test, on floats
pow-suc : (n : ℕ) → 2 ^ suc n ≡ 2 ^ n * 2
pow-suc n = ap (λ (z : ℕ). 2 ^ z) (sym (add-one n)) ∙ pow-add 2 n 1

over_is : (n L m : ℕ) (e : ℤ) → le (fin false L (negsuc n)) (fin false m e) ≡ leb (L * down e) (m * up e * 2 ^ n * 2)
unfolding le lt eq
over_is n L m e =
    le_fin (L * 1 * down e) (m * up e * 2 ^ suc n)
    ∙ ap (λ (z : ℕ). leb (z * down e) (m * up e * 2 ^ suc n)) (mul-one L)
    ∙ ap (leb (L * down e)) (ap (λ (z : ℕ). m * up e * z) (pow-suc n) ∙ sym (mul_assoc (m * up e) (2 ^ n) 2))

below_zero : (n L : ℕ) (e : ℤ) → 1 ≤ L → le (fin false L (negsuc n)) (fin true zero e) ≡ false
unfolding le lt eq
below_zero n L e h =
    let D : 0 < down e = down_pos e in
    let E : 0 < L * down e = mul-pos h D in
    let m = mul-one L in
    let z : L * 1 * down e ≡ L * down e = ap (λ (z : ℕ). z * down e) m in
    last (eqb (L * 1 * down e) (0 * up e * 2 ^ suc n)) (eqb (L * 1 * down e) 0) (ne_eqb (L * 1 * down e) 0 (λ (q : L * 1 * down e ≡ 0). omega arith))
  where
    last : (a b : Bool) → b ≡ false → a && (false || b) ≡ false
    last true b q = q
    last false b q = refl

size_over : (n L : ℕ) (s : Bool) (m : ℕ) (e : ℤ) → 1 ≤ L → le (fin false L (negsuc n)) (size_of (fin s m e)) ≡ leb (L * down e) (m * up e * 2 ^ n * 2)
unfolding size_of lt neg of_bits
size_over n L false m e h = ap (λ (t : Bool). le (fin false L (negsuc n)) (cond t (fin true m e) (fin false m e))) (le-ltb (m * up e * 1) (0 * down e) (omega arith)) ∙ over_is n L m e
size_over n L true (suc m) e h =
    let U : 0 < up e = up_pos e in
    let M : 0 < suc m * up e = mul-pos (omega arith) U in
    ap (λ (t : Bool). le (fin false L (negsuc n)) (cond t (fin false (suc m) e) (fin true (suc m) e))) (lt-ltb 0 (suc m * up e * 1 + 0 * down e) (omega arith)) ∙ over_is n L (suc m) e
size_over n L true zero e h =
    let D : 0 < down e = down_pos e in
    let E : 0 < L * down e = mul-pos h D in
    ap (λ (t : Bool). le (fin false L (negsuc n)) (cond t (fin false zero e) (fin true zero e))) (le-ltb 0 (0 * up e * 1 + 0 * down e) (omega arith))
    ∙ below_zero n L e h ∙ sym (lt-leb (L * down e) (0 * up e * 2 ^ n * 2) (le_trans (le_of_eq (ap suc (nothing (up e) (2 ^ n)))) E))
  where
    nothing : (u p : ℕ) → 0 * u * p * 2 ≡ 0
    nothing u p = ap (λ (z : ℕ). z * p * 2) (zero-mul u) ∙ ap (λ (z : ℕ). z * 2) (zero-mul p)

small_is_test : (n b : ℕ) (s : Bool) (m : ℕ) (e : ℤ) → n ≤ 16 → 1 ≤ b → b ≤ 16 → m < 2 ^ 24 → down e ≤ 2 ^ 149
    → is_small b (small_of n (fin s m e)) ≡ not (le (limit_of n b) (size_of (fin s m e)))
unfolding small_of limit_of
small_is_test n b s m e hn h1 h2 small fine =
    let P = 2 ^ (b - 1) in
    let L = 2 ^ b - 1 in
    let u : P ≤ 65536 = pow_mono {i = b - 1} {j = 16} (omega arith) in
    let p : 0 < P = pow_pos (b - 1) in
    let w : 2 ^ b ≡ P * 2 = ap (λ (z : ℕ). 2 ^ z) (back b h1) ∙ pow-suc (b - 1) in
    small_is b (mul binary32 (fin s m e) (power n)) h2
    ∙ ap (λ (z : ℕ). ltb z P) (ap round_mag (times_value s m e (2 ^ n) (power n) (power_value n hn)) ∙ sign_free s (m * up e * 2 ^ n) (down e))
    ∙ mag_test n m e P L small fine u (omega arith)
    ∙ sym (ap not (size_over n L s m e (omega arith)))
  where
    back : (b : ℕ) → 1 ≤ b → b ≡ suc (b - 1)
    back b h = omega arith

endless : (s : Bool) (w : ℕ) (p : Float) → 0 < w → HasValue p false w 1 → round_mag (mul binary32 (inf s) p) ≡ 2147483648
unfolding mul round_mag
endless s w nan h v = absurd v
endless s w (inf t) h v = absurd v
endless s w (fin t k d) h v =
    let D : 0 < down d = down_pos d in
    let W : 0 < w * down d = mul-pos h D in
    ap (λ (b : Bool). round_mag (cond b nan (inf (not (beq s t))))) (ne_eqb k 0 (λ (q : k ≡ 0). let z : k * up d * 1 ≡ 0 = ap (λ (y : ℕ). y * up d * 1) q ∙ ap (λ (y : ℕ). y * 1) (zero-mul (up d)) in let y = v.1 in omega arith))

outside : (n b : ℕ) (s : Bool) → n ≤ 16 → b ≤ 16 → is_small b (small_of n (inf s)) ≡ false
unfolding small_of
outside n b s hn h2 =
    let u : 2 ^ (b - 1) ≤ 65536 = pow_mono {i = b - 1} {j = 16} (omega arith) in
    small_is b (mul binary32 (inf s) (power n)) h2 ∙ ap (λ (z : ℕ). ltb z (2 ^ (b - 1))) (endless s (2 ^ n) (power n) (pow_pos n) (power_value n hn)) ∙ le-ltb 2147483648 (2 ^ (b - 1)) (omega arith)

zero_fine : (e : ℤ) → T (eqb (up e * down e) 1) → down e ≤ 2 ^ 149
zero_fine (pos k) t = lit≤ {m = 1} {n = 2 ^ 149} tt
zero_fine (negsuc k) t = le_trans (le_of_eq (sym (one-mul (2 ^ suc k)) ∙ eqb→eq (1 * 2 ^ suc k) 1 t)) (lit≤ {m = 1} {n = 2 ^ 149} tt)

-- A component takes the large codeword exactly where its size is at the limit or above.
pub escape : (n b : ℕ) (x : Float) → n ≤ 16 → 1 ≤ b → b ≤ 16 → T (fits binary32 x) → is_small b (small_of n x) ≡ not (le (limit_of n b) (size_of x))
unfolding small_of limit_of size_of mul le lt eq neg fits of_bits round_mag
escape n b nan hn h1 h2 f = small_is b nan h2 ∙ lt-ltb 0 (2 ^ (b - 1)) (pow_pos (b - 1))
escape n b (inf true) hn h1 h2 f = outside n b true hn h2
escape n b (inf false) hn h1 h2 f = outside n b false hn h2
escape n b (fin s zero e) hn h1 h2 f = small_is_test n b s zero e hn h1 h2 (lit< tt) (zero_fine e f)
escape n b (fin s (suc m) e) hn h1 h2 f = small_is_test n b s (suc m) e hn h1 h2 (fits_digits s m e f).0 (fits_digits s m e f).1
