-- Numbers and cells are read back from their characters. Assumes nothing.
use Prim.Native.Nat.{ℕ, zero, suc, ◌+◌, ◌-◌, ◌*◌, ◌/◌, ◌%◌, ◌^◌, ◌≤◌, ◌<◌}
use mathlib.Core.Path.{◌≡◌, refl, sym, ap, ◌∙◌}
use mathlib.Core.Bool.{Bool, true, false, cond, ◌&&◌, and-false, true≢false}
use mathlib.Core.Logic.{◌↔◌}
use mathlib.Core.List.{List, [], ◌∷◌, ◌++◌}
use native.Mathlib.Omega.{arith}
use native.Mathlib.Nat.{le_of_eq, pow-suc}
use borrow.Author.Tests.{lt-leb, ne_eqb, eqb-true, eqb-false}
use lib.Dec.{leb, eqb}
use lib.ListN.{length, get_or, take, drop, get_or-append}
use lib.Seq.{take_at, take_all, drop-append-add, get_or-drop}
use Rattle.plantext.specs.PlanText.{decimal, decimal_value}
use Rattle.pages.specs.Pages.{spaces, aligned, spread, gain_text, cell_text}
use Rattle.pages.specs.Reading.{number_behind, gk_in, cell_in, blank}
use Rattle.pages.specs.declared.Cell.{Cell}
use Rattle.pages.proofs.Cells.{aligned_long, gain_long}

-- ---- characters from m on
abbrev pub AtLeast : ℕ → List ℕ → Type 0
AtLeast m [] = Unit {0}
AtLeast m (c ∷ s) = (m ≤ c) × AtLeast m s

least_append : (m : ℕ) (a b : List ℕ) → AtLeast m a → AtLeast m b → AtLeast m (a ++ b)
least_append m [] b p q = q
least_append m (c ∷ a) b p q = (p.0, least_append m a b p.1 q)

least_down : (m n : ℕ) (s : List ℕ) → n ≤ m → AtLeast m s → AtLeast n s
least_down m n [] h p = tt
least_down m n (c ∷ s) h p = let l = p.0 in (omega arith, least_down m n s h p.1)

-- digits are
digits_least : (places n : ℕ) → AtLeast 48 (decimal places n)
unfolding decimal
digits_least zero n = tt
digits_least (suc places) n = go (leb 10 n) (digits_least places (n / 10))
  where
    go : (t : Bool) → AtLeast 48 (decimal places (n / 10)) → AtLeast 48 (cond t (decimal places (n / 10) ++ ((48 + n % 10) ∷ [])) ((48 + n) ∷ []))
    go true v = least_append 48 (decimal places (n / 10)) _ v (omega arith, tt)
    go false v = (omega arith, tt)

-- ---- numbers
value_last : (v d : ℕ) (s : List ℕ) → decimal_value v (s ++ ((48 + d) ∷ [])) ≡ decimal_value v s * 10 + d
unfolding decimal_value
value_last v d [] = omega arith
value_last v d (c ∷ s) = value_last (v * 10 + (c - 48)) d s

decimal_back : (places n : ℕ) → n < 10 ^ places → decimal_value 0 (decimal places n) ≡ n
unfolding decimal decimal_value
decimal_back zero n h = omega arith
decimal_back (suc places) n h = let p = pow-suc 10 places in go (leb 10 n) (decimal_back places (n / 10) (omega arith))
  where
    go : (t : Bool) → decimal_value 0 (decimal places (n / 10)) ≡ n / 10 → decimal_value 0 (cond t (decimal places (n / 10) ++ ((48 + n % 10) ∷ [])) ((48 + n) ∷ [])) ≡ n
    go true e = value_last 0 (n % 10) (decimal places (n / 10)) ∙ rw e (omega arith)
    go false e = let z : 0 * 10 + n ≡ n = omega arith in value_last 0 n [] ∙ z

number_spaces : (n : ℕ) (s : List ℕ) → number_behind (spaces n ++ s) ≡ number_behind s
unfolding number_behind
number_spaces zero s = refl
number_spaces (suc n) s = number_spaces n s

number_digits : (s : List ℕ) → AtLeast 48 s → number_behind s ≡ decimal_value 0 s
unfolding number_behind decimal_value
number_digits [] p = refl
number_digits (c ∷ s) p = let l = p.0 in rw (ne_eqb c 32 (λ e. omega arith))

aligned_back : (places n : ℕ) → n < 10 ^ places → number_behind (aligned places n) ≡ n
unfolding aligned
aligned_back places n h =
    number_spaces (places - length (decimal places n)) (decimal places n) ∙ number_digits (decimal places n) (digits_least places n) ∙ decimal_back places n h

-- ---- a cell
-- its four parts with the spaces between, cut at their columns
cut_at : (n m : ℕ) (a s : List ℕ) → length a ≡ n → drop (n + m) (a ++ s) ≡ drop m s
cut_at n m a s e = rw (← e) (drop-append-add a s m)

gain_back : (g : ℕ) → g < 10 → gk_in (gain_text g) ≡ g
unfolding gain_text aligned decimal number_behind decimal_value
gain_back g h = go (eqb g 0) refl
  where
    go : (t : Bool) → eqb g 0 ≡ t → gk_in (cond t (45 ∷ []) (aligned 1 g)) ≡ g
    go true e = sym (eqb-true g 0 e)
    go false e = rw (lt-leb 10 g h, ne_eqb (48 + g) 45 (λ e. omega arith), ne_eqb (48 + g) 32 (λ e. omega arith)) (omega arith)

-- the character of its gain: a dash for 0 alone
gain_dash : (g : ℕ) → g < 10 → (get_or (gain_text g) 0 0 ≡ 45) ↔ (g ≡ 0)
unfolding gain_text aligned decimal
gain_dash g h = go (eqb g 0) refl
  where
    go : (t : Bool) → eqb g 0 ≡ t → (get_or (cond t (45 ∷ []) (aligned 1 g)) 0 0 ≡ 45) ↔ (g ≡ 0)
    go true e = (λ q. eqb-true g 0 e, λ q. refl)
    go false e = rw (lt-leb 10 g h) (λ q. omega arith, λ q. absurd (eqb-false g 0 e q))

pub cell_dash : (c : Cell) → c.gk < 10 → (get_or (cell_text c) 7 0 ≡ 45) ↔ (c.gk ≡ 0)
unfolding cell_text spread
cell_dash c h =
    let a = aligned 3 c.bin in
    let b = aligned 2 c.hebap in
    let g = gain_text c.gk in
    let s = a ++ (32 ∷ (b ++ (32 ∷ (g ++ (32 ∷ aligned 3 c.bits))))) in
    let lg = gain_long c.gk in
    let d : drop 7 s ≡ g ++ (32 ∷ aligned 3 c.bits) = cut_at 3 4 a _ (aligned_long 3 c.bin) ∙ cut_at 2 1 b _ (aligned_long 2 c.hebap) in
    let e : get_or s 7 0 ≡ get_or g 0 0 = sym (get_or-drop 7 s 0 0) ∙ ap (λ (t : List ℕ). get_or t 0 0) d ∙ get_or-append g _ 0 0 (omega arith) in
    rw e (gain_dash c.gk h)

-- Its parts are read back.
pub cell_back : (c : Cell) → c.bin < 1000 → c.hebap < 100 → c.gk < 10 → c.bits < 1000 → cell_in (cell_text c) ≡ c
unfolding cell_in cell_text spread
cell_back c hb hh hg hn =
    let a = aligned 3 c.bin in
    let b = aligned 2 c.hebap in
    let g = gain_text c.gk in
    let d = aligned 3 c.bits in
    let s = a ++ (32 ∷ (b ++ (32 ∷ (g ++ (32 ∷ d))))) in
    let la = aligned_long 3 c.bin in
    let lb = aligned_long 2 c.hebap in
    let lg = gain_long c.gk in
    let ld = aligned_long 3 c.bits in
    let d₄ : drop 4 s ≡ b ++ (32 ∷ (g ++ (32 ∷ d))) = cut_at 3 1 a _ la in
    let d₇ : drop 7 s ≡ g ++ (32 ∷ d) = cut_at 3 4 a _ la ∙ cut_at 2 1 b _ lb in
    let d₉ : drop 9 s ≡ d = cut_at 3 6 a _ la ∙ cut_at 2 3 b _ lb ∙ cut_at 1 1 g _ lg in
    let e₁ : number_behind (take 3 s) ≡ c.bin = ap number_behind (take_at a _ 3 la) ∙ aligned_back 3 c.bin hb in
    let e₂ : number_behind (take 2 (drop 4 s)) ≡ c.hebap = ap (λ (t : List ℕ). number_behind (take 2 t)) d₄ ∙ ap number_behind (take_at b _ 2 lb) ∙ aligned_back 2 c.hebap hh in
    let e₃ : gk_in (take 1 (drop 7 s)) ≡ c.gk = ap (λ (t : List ℕ). gk_in (take 1 t)) d₇ ∙ ap gk_in (take_at g _ 1 lg) ∙ gain_back c.gk hg in
    let e₄ : number_behind (take 3 (drop 9 s)) ≡ c.bits = ap (λ (t : List ℕ). number_behind (take 3 t)) d₉ ∙ ap number_behind (take_all 3 d (le_of_eq ld)) ∙ aligned_back 3 c.bits hn in
    rw (e₁, e₂, e₃, e₄)

-- It is not blank.
blank_append : (a b : List ℕ) → blank b ≡ false → blank (a ++ b) ≡ false
unfolding blank
blank_append [] b e = e
blank_append (c ∷ a) b e = rw (blank_append a b e) (and-false (eqb c 32))

blank_first : (a b : List ℕ) → blank a ≡ false → blank (a ++ b) ≡ false
unfolding blank
blank_first [] b e = absurd (true≢false e)
blank_first (c ∷ a) b e = go (eqb c 32) e (blank_first a b)
  where
    go : (t : Bool) → t && blank a ≡ false → (blank a ≡ false → blank (a ++ b) ≡ false) → t && blank (a ++ b) ≡ false
    go true e more = more e
    go false e more = refl

digit_seen : (s : List ℕ) (d : ℕ) → blank (s ++ ((48 + d) ∷ [])) ≡ false
unfolding blank
digit_seen s d = blank_append s ((48 + d) ∷ []) (rw (ne_eqb (48 + d) 32 (λ e. omega arith)))

aligned_seen : (places n : ℕ) → blank (aligned (suc places) n) ≡ false
unfolding aligned decimal
aligned_seen places n = go (leb 10 n)
  where
    go : (t : Bool) → let d = cond t (decimal places (n / 10) ++ ((48 + n % 10) ∷ [])) ((48 + n) ∷ []) in blank (spaces (suc places - length d) ++ d) ≡ false
    go true = blank_append (spaces (suc places - length (decimal places (n / 10) ++ ((48 + n % 10) ∷ [])))) _ (digit_seen (decimal places (n / 10)) (n % 10))
    go false = blank_append (spaces (suc places - 1)) _ (digit_seen [] n)

pub cell_seen : (c : Cell) → blank (cell_text c) ≡ false
unfolding cell_text spread
cell_seen c = blank_first (aligned 3 c.bin) _ (aligned_seen 2 c.bin)

pub spaces_blank : blank (spaces 12) ≡ true
unfolding blank
spaces_blank = refl

-- ---- its characters are from the space on, so none is a line end
abbrev pub Visible : List ℕ → Type 0
Visible = AtLeast 32

pub visible_spaces : (n : ℕ) → Visible (spaces n)
visible_spaces zero = tt
visible_spaces (suc n) = (omega arith, visible_spaces n)

visible_aligned : (places n : ℕ) → Visible (aligned places n)
unfolding aligned
visible_aligned places n =
    least_append 32 (spaces (places - length (decimal places n))) _ (visible_spaces (places - length (decimal places n))) (least_down 48 32 (decimal places n) (omega arith) (digits_least places n))

visible_gain : (g : ℕ) → Visible (gain_text g)
unfolding gain_text
visible_gain g = go (eqb g 0)
  where
    go : (t : Bool) → Visible (cond t (45 ∷ []) (aligned 1 g))
    go true = (omega arith, tt)
    go false = visible_aligned 1 g

pub cell_visible : (c : Cell) → Visible (cell_text c)
unfolding cell_text spread
cell_visible c =
    least_append 32 (aligned 3 c.bin) _ (visible_aligned 3 c.bin)
    (omega arith, least_append 32 (aligned 2 c.hebap) _ (visible_aligned 2 c.hebap) (omega arith, least_append 32 (gain_text c.gk) _ (visible_gain c.gk) (omega arith, visible_aligned 3 c.bits)))

pub visible_at : (s : List ℕ) (i : ℕ) → Visible s → i < length s → 32 ≤ get_or s i 0
visible_at [] i v h = absurd (omega arith)
visible_at (c ∷ s) zero v h = v.0
visible_at (c ∷ s) (suc i) v h = visible_at s i v.1 (omega arith)
