-- Numbers and cells put into an output, one part behind the other. Assumes nothing.
use Prim.Native.Nat.{ℕ, zero, suc, ◌+◌, ◌-◌, ◌*◌, ◌/◌, ◌%◌, ◌≤◌, ◌<◌}
use mathlib.Core.Path.{◌≡◌, refl, sym, ap, ◌∙◌}
use mathlib.Core.Bool.{Bool, true, false, cond}
use mathlib.Core.List.{List, [], ◌∷◌, ◌++◌, append_assoc, append-nil}
use native.Mathlib.Omega.{arith}
use native.Mathlib.Numerals.{add-one}
use borrow.Rule.Slice.PartMut.{put_mid}
use borrow.Author.Tests.{le-leb, lt-leb, eq-eqb, ne_eqb}
use lib.Dec.{eqb}
use lib.Ieee.{Float}
use lib.ListN.{length, get_or, set, take, drop, length-append, length-replicate, length-drop}
use lib.Seq.{drop-length, length-take-le}
use Rattle.std.proofs.lemmas.List.{nil_from_length}
use Rattle.bits.specs.Bits.{splice}
use Rattle.bits.proofs.Laws.{splice_none, splice_one}
use Rattle.channel.specs.Bins.{from}
use Rattle.channel.specs.Row.{active_count, gain_at, six_of}
use Rattle.channel.specs.Shown.{joined}
use Rattle.gains.specs.Gains.{active}
use Rattle.planner.specs.Cost.{bin_bits}
use Rattle.planner.specs.Choice.{chosen_at}
use Rattle.planner.proofs.Chosen.{chosen_is}
use Rattle.plantext.specs.PlanText.{decimal}
use Rattle.plantext.specs.Work.{Put}
use Rattle.plantext.proofs.Printing.{put_is, put_both, decimal_fits, put_mid_splice}
use Rattle.pages.specs.Pages.{spaces, aligned, spread, gain_text, cell_at, cell_text}
use Rattle.pages.specs.Work.{blank_lines}
use Rattle.pages.specs.declared.Cell.{Cell}
use Rattle.pages.proofs.Pieces.{pieces_last, pieces_length}

-- ---- parts
-- a part of n bytes that a function puts in
pub part : {out w after : List ℕ} {at r : ℕ} (n : ℕ) → length w ≡ n → at + n ≤ length out → r ≡ at + n → after ≡ splice out at w → Put out at w after r
part n l h e t = put_is (omega arith) (omega arith) t

-- a byte
pub byte : (out : List ℕ) (at b r : ℕ) → at < length out → r ≡ at + 1 → Put out at (b ∷ []) (set out at b) r
byte out at b r h e = part 1 refl (omega arith) e (sym (splice_one out at b h))

-- a part of a slice, written whole
pub part_over : (out w : List ℕ) (at n : ℕ) → length w ≡ n → at + n ≤ length out → Put out at w (put_mid at (at + n - at) out w) (at + n)
part_over out w at n l h = part n l h refl (put_mid_splice out w at (at + n - at) (omega arith))

-- ---- spaces
-- a part of a slice that is filled with them
pub spaces_put : (out s : List ℕ) (at n : ℕ) → at + n ≤ length out → s ≡ spaces (length (take (at + n - at) (drop at out))) → put_mid at (at + n - at) out s ≡ splice out at (spaces n)
spaces_put out s at n h e =
    let k : at + n - at ≡ n = omega arith in
    let m : length (take (at + n - at) (drop at out)) ≡ n = rw k (length-take-le n (drop at out) (omega (arith, length-drop at out))) in
    let l = length-replicate {A = ℕ} n 32 in
    rw (e, m) (put_mid_splice out (spaces n) at (at + n - at) (omega arith))

-- ---- lines without bins
pub blank_none : (out : List ℕ) → out ≡ splice out 0 (blank_lines 0)
unfolding blank_lines from joined
blank_none out = sym (splice_none out 0)

blank_last : (i : ℕ) → blank_lines i ++ (spaces 64 ++ (10 ∷ [])) ≡ blank_lines (i + 1)
unfolding blank_lines
blank_last i = pieces_last (λ l. spaces 64 ++ (10 ∷ [])) 0 i ∙ ap blank_lines (sym (add-one i))

blank_long : (i : ℕ) → length (blank_lines i) ≡ 65 * i
unfolding blank_lines
blank_long i = pieces_length 65 (λ l. spaces 64 ++ (10 ∷ [])) (λ l. refl) 0 i

pub blank_turn : (out mid near : List ℕ) (i : ℕ) → 65 * (i + 1) ≤ length out → mid ≡ splice out 0 (blank_lines i) → near ≡ splice mid (65 * i) (spaces 64)
    → set near (65 * i + 64) 10 ≡ splice out 0 (blank_lines (i + 1))
blank_turn out mid near i h e f =
    let a = part {r = 65 * i} (65 * i) (blank_long i) (omega arith) (omega arith) e in
    let l = a.long in
    let b = part 64 refl (omega arith) refl f in
    let m = b.long in
    (put_both a (put_both b (byte near (65 * i + 64) 10 (65 * i + 65) (omega arith) (omega arith)))).text ∙ ap (splice out 0) (blank_last i)

-- ---- the front of an output, and the whole
pub front_put : (out w : List ℕ) (n : ℕ) → length w ≡ n → w ++ drop n out ≡ splice out 0 w
unfolding splice
front_put out w n l = let z : 0 + length w ≡ n = omega arith in rw z refl

whole : (out w : List ℕ) → length w ≡ length out → splice out 0 w ≡ w
unfolding splice
whole out w l = let z : 0 + length w ≡ length out = omega arith in rw z (ap (λ (s : List ℕ). w ++ s) (drop-length out) ∙ append-nil w)

-- ---- a number
pub aligned_long : (n k : ℕ) → length (aligned n k) ≡ n
unfolding aligned
aligned_long n k = let d = decimal_fits n k in rw (length-append, length-replicate) (omega arith)

module _ (n : ℕ) where
  aligned_digit : (places : ℕ) → 0 < places → n < 10 → spaces (places - 1) ++ ((48 + n) ∷ []) ≡ aligned places n
  unfolding aligned decimal
  aligned_digit zero h l = absurd (omega arith)
  aligned_digit (suc places) h l = rw (lt-leb 10 n l)

  aligned_more : (places : ℕ) → 0 < places → 10 ≤ n → aligned (places - 1) (n / 10) ++ ((48 + n % 10) ∷ []) ≡ aligned places n
  unfolding aligned decimal
  aligned_more zero h l = absurd (omega arith)
  aligned_more (suc places) h l =
      let d = decimal places (n / 10) in
      let a : suc places - 1 ≡ places = omega arith in
      let b : length (d ++ ((48 + n % 10) ∷ [])) ≡ suc (length d) = length-append d ((48 + n % 10) ∷ []) ∙ add-one (length d) in
      let c : suc places - suc (length d) ≡ places - length d = omega arith in
      rw (le-leb 10 n l, a, b, c) (append_assoc (spaces (places - length d)) d ((48 + n % 10) ∷ []))

module _ (out : List ℕ) (n : ℕ) where
  pub number_none : length out ≡ 0 → out ≡ aligned (length out) n
  unfolding aligned decimal
  number_none h = let e = nil_from_length out h in rw e refl

  module _ (some : 0 < length out) (front : List ℕ) where
    -- the last digit behind what goes before it
    last_put : (w : List ℕ) → length w ≡ length out - 1 → front ≡ w → w ++ ((48 + n % 10) ∷ []) ≡ aligned (length out) n
        → set (front ++ drop (length out - 1) out) (length out - 1) (48 + n % 10) ≡ aligned (length out) n
    last_put w l e f =
        let a : Put out 0 w (front ++ drop (length out - 1) out) (length out - 1) = part (length out - 1) l (omega arith) (omega arith) (rw e (front_put out w (length out - 1) l)) in
        let k = a.long in
        (put_both a (byte _ (length out - 1) (48 + n % 10) (length out) (omega arith) (omega arith))).text ∙ ap (splice out 0) f
        ∙ whole out (aligned (length out) n) (aligned_long (length out) n)

    pub number_digit : n < 10 → front ≡ spaces (length (take (length out - 1) out)) → set (front ++ drop (length out - 1) out) (length out - 1) (48 + n % 10) ≡ aligned (length out) n
    number_digit l e =
        let z : n % 10 ≡ n = omega arith in
        let i = length-take-le (length out - 1) out (omega arith) in
        last_put (spaces (length out - 1)) (length-replicate {A = ℕ} (length out - 1) 32) (e ∙ ap spaces i) (rw z (aligned_digit n (length out) some l))

    pub number_more : 10 ≤ n → front ≡ aligned (length (take (length out - 1) out)) (n / 10) → set (front ++ drop (length out - 1) out) (length out - 1) (48 + n % 10) ≡ aligned (length out) n
    number_more l e =
        let i = length-take-le (length out - 1) out (omega arith) in
        last_put (aligned (length out - 1) (n / 10)) (aligned_long (length out - 1) (n / 10)) (e ∙ ap (λ (k : ℕ). aligned k (n / 10)) i) (aligned_more n (length out) some l)

-- ---- Gk
pub gain_long : (g : ℕ) → length (gain_text g) ≡ 1
unfolding gain_text
gain_long g = go (eqb g 0)
  where
    go : (t : Bool) → length (cond t (45 ∷ []) (aligned 1 g)) ≡ 1
    go true = refl
    go false = aligned_long 1 g

-- how long a part is
part_long : (l : List ℕ) (at n : ℕ) → at + n ≤ length l → length (take n (drop at l)) ≡ n
part_long l at n h = length-take-le n (drop at l) (omega (arith, length-drop at l))

-- a number behind a space
pub part_put : (out w : List ℕ) (n : ℕ) → 0 < length out → w ≡ aligned (length (take (length (set out 0 32) - 1) (drop 1 (set out 0 32)))) n
    → put_mid 1 (length (set out 0 32) - 1) (set out 0 32) w ≡ 32 ∷ aligned (length out - 1) n
part_put out w n h e =
    let s = byte out 0 32 1 (omega arith) refl in
    let k = s.long in
    let l = aligned_long (length out - 1) n in
    let p = put_mid_splice (set out 0 32) (aligned (length out - 1) n) 1 (length (set out 0 32) - 1) (omega arith) in
    let i : length (take (length (set out 0 32) - 1) (drop 1 (set out 0 32))) ≡ length out - 1 = part_long (set out 0 32) 1 (length (set out 0 32) - 1) (omega arith) ∙ ap (λ (n : ℕ). n - 1) k in
    rw (e, i) ((put_both s (part (length out - 1) l (omega arith) refl p)).text ∙ whole out (32 ∷ aligned (length out - 1) n) (omega arith))

module _ (g : ℕ) where
  pub gain_dash : (out : List ℕ) → length out ≡ 2 → g ≡ 0 → set (set out 0 32) 1 45 ≡ 32 ∷ gain_text g
  unfolding gain_text
  gain_dash out h e =
      let s = byte out 0 32 1 (omega arith) refl in
      let k = s.long in
      rw (eq-eqb g 0 e) ((put_both s (byte (set out 0 32) 1 45 2 (omega arith) refl)).text ∙ whole out (32 ∷ 45 ∷ []) (sym h))

  pub gain_shown : (w : List ℕ) → (g ≡ 0 → ⊥) → w ≡ 32 ∷ aligned 1 g → w ≡ 32 ∷ gain_text g
  unfolding gain_text
  gain_shown w n e = rw (ne_eqb g 0 n) e

-- ---- the cell
-- what is shown of the bin k, before which n bins are active: g is the gain at that place
pub cell_is : (mode : ℕ) (gains row : List ℕ) (x : List Float) (start k n g y b : ℕ) → n ≡ active_count mode row start k → g ≡ get_or gains n 0
    → y ≡ cond (active mode (get_or row k 0)) g 0 → b ≡ bin_bits (get_or row k 0) (cond (active mode (get_or row k 0)) g 1) (six_of x k)
    → ◌≡◌ {A = Cell} (record { bin = k; hebap = get_or row k 0; gk = y; bits = b }) (cell_at mode gains row x start k)
unfolding cell_at gain_at
cell_is mode gains row x start k n g y b en eg ey eb =
    rw (chosen_is mode gains row x start k n g b en eg eb, ey, eg, en) (ap (λ (z : ℕ). record { bin = k; hebap = get_or row k 0; gk = z; bits = chosen_at mode gains row x start k }) (same (active mode (get_or row k 0))))
  where
    same : (t : Bool) → let i = get_or gains (active_count mode row start k) 0 in cond t i 0 ≡ cond t (cond t i 1) 0
    same true = refl
    same false = refl

pub cell_long : (c : Cell) → length (cell_text c) ≡ 12
unfolding cell_text spread
cell_long c = simp (length-append, aligned_long, gain_long)

pub cell_put : (out : List ℕ) (c : Cell) (w₁ w₂ w₃ w₄ : List ℕ) → length out ≡ 12
    → let m₁ = w₁ ++ drop 3 out in let m₃ = put_mid 6 2 (put_mid 3 3 m₁ w₂) w₃ in
    w₁ ≡ aligned (length (take 3 out)) c.bin → w₂ ≡ 32 ∷ aligned (length (take 3 (drop 3 m₁)) - 1) c.hebap
    → w₃ ≡ 32 ∷ gain_text c.gk → w₄ ≡ 32 ∷ aligned (length (take 4 (drop 8 m₃)) - 1) c.bits → put_mid 8 4 m₃ w₄ ≡ cell_text c
unfolding cell_text spread
cell_put out c w₁ w₂ w₃ w₄ h e₁ e₂ e₃ e₄ =
    let m₁ = w₁ ++ drop 3 out in
    let m₂ = put_mid 3 3 m₁ w₂ in
    let m₃ = put_mid 6 2 m₂ w₃ in
    let f₁ : w₁ ≡ aligned 3 c.bin = e₁ ∙ ap (λ (n : ℕ). aligned n c.bin) (part_long out 0 3 (omega arith)) in
    let l₁ : length w₁ ≡ 3 = ap length f₁ ∙ aligned_long 3 c.bin in
    let p₁ : Put out 0 w₁ m₁ 3 = part 3 l₁ (omega arith) refl (front_put out w₁ 3 l₁) in
    let k₁ = p₁.long in
    let f₂ : w₂ ≡ 32 ∷ aligned 2 c.hebap = e₂ ∙ ap (λ (n : ℕ). 32 ∷ aligned (n - 1) c.hebap) (part_long m₁ 3 3 (omega arith)) in
    let l₂ : length w₂ ≡ 3 = ap length f₂ ∙ ap suc (aligned_long 2 c.hebap) in
    let p₂ : Put m₁ 3 w₂ m₂ 6 = part 3 l₂ (omega arith) refl (put_mid_splice m₁ w₂ 3 3 (sym l₂)) in
    let k₂ = p₂.long in
    let l₃ : length w₃ ≡ 2 = ap length e₃ ∙ ap suc (gain_long c.gk) in
    let p₃ : Put m₂ 6 w₃ m₃ 8 = part 2 l₃ (omega arith) refl (put_mid_splice m₂ w₃ 6 2 (sym l₃)) in
    let k₃ = p₃.long in
    let f₄ : w₄ ≡ 32 ∷ aligned 3 c.bits = e₄ ∙ ap (λ (n : ℕ). 32 ∷ aligned (n - 1) c.bits) (part_long m₃ 8 4 (omega arith)) in
    let l₄ : length w₄ ≡ 4 = ap length f₄ ∙ ap suc (aligned_long 3 c.bits) in
    let p₄ : Put m₃ 8 w₄ (put_mid 8 4 m₃ w₄) 12 = part 4 l₄ (omega arith) refl (put_mid_splice m₃ w₄ 8 4 (sym l₄)) in
    let all : length (w₁ ++ (w₂ ++ (w₃ ++ w₄))) ≡ length out = rw (length-append, length-append, length-append) (omega arith) in
    (put_both p₁ (put_both p₂ (put_both p₃ p₄))).text ∙ whole out (w₁ ++ (w₂ ++ (w₃ ++ w₄))) all ∙ rw (f₁, f₂, e₃, f₄) refl
