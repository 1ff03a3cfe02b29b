-- Laws of marked bins, of codes put into a row, of gain words, and of the gains that a mode allows.
use Prim.Native.Nat.{ℕ, zero, suc, ◌+◌, ◌-◌, ◌*◌, ◌/◌, ◌%◌, ◌≤◌, ◌<◌, ◌^◌, min}
use mathlib.Core.Path.{◌≡◌, refl, sym, ap, ◌∙◌}
use mathlib.Core.List.{List, [], ◌∷◌, ◌++◌, append_assoc, append-nil, map, map-append}
use mathlib.Core.Bool.{Bool, true, false, cond, ◌||◌}
use native.Mathlib.Nat.{zero-add, sub-zero, min-zero, min_comm, suc-min-suc, mul-suc, mul-zero, add-zero, add_assoc, add_comm, mul-le-mul_left, lt_of_lt_of_le}
use native.Mathlib.Numerals.{add-one}
use native.Mathlib.Omega.{arith}
use lib.ListN.{length, take, drop, get_or, set, take-append-drop, length-append, length-take, length-drop, length-map, drop_of_length-le}
use lib.Seq.{take_all, take-nil, drop-nil, take-suc, drop-cons, set_at, set_split, take_at, take-append-add, take-append-le, drop-append-add, drop-drop, length-take-le}
use lib.Pow.{pow_mono}
use lib.Dec.{leb, eqb}
use lib.IntN.{ℤ, pos, negsuc}
use borrow.Author.Tests.{eq-eqb, ne_eqb, le-leb, lt-leb, leb-true, leb-false}
use Rattle.bits.specs.Bits.{number_of, bits_of, pos_of}
use Rattle.bits.specs.declared.BitPos.{BitPos}
use Rattle.bits.proofs.Laws.{number_take_lt}
use Rattle.gains.specs.Gains.{endbap, marked, gaqbin_of, marked_bins, fill_gaqbin, gaqbin_after, gain_value, other_gains, member, allowed_gain, word_bits, word_codes, words_read, words_end, codes_from, gain_codes, read_gaq_gains, gains_after}
use Rattle.gains.specs.Work.{placed}
use Rattle.std.specs.Prelude.{Ok, Err}
use Rattle.answers.specs.declared.Refusal.TheVariants.{InputEnds, OutOfRange}

-- ---- a list cut at a number, or at its own length where that is smaller
module _ {A : Type 0} where
  take_min : (n : ℕ) (l : List A) → take (min (length l) n) l ≡ take n l
  take_min n [] = rw (take-nil n) (take-nil (min 0 n))
  take_min zero (x ∷ l) = rw min-zero
  take_min (suc n) (x ∷ l) = rw (suc-min-suc, take_min n l)

  drop_min : (n : ℕ) (l : List A) → drop (min (length l) n) l ≡ drop n l
  drop_min n [] = rw (drop-nil n) (drop-nil (min 0 n))
  drop_min zero (x ∷ l) = rw min-zero
  drop_min (suc n) (x ∷ l) = rw (suc-min-suc, drop_min n l)

-- ---- marked bins
marked_more : (mode : ℕ) (a : List ℕ) (h : ℕ) → marked_bins mode (a ++ (h ∷ [])) ≡ marked_bins mode a + cond (marked mode h) 1 0
unfolding marked_bins
marked_more mode [] h = omega arith
marked_more mode (x ∷ a) h = rw (marked_more mode a h) (sym (add_assoc _ _ _))

-- the mark 1 tells which bins count
marked_one : (mode h : ℕ) → gaqbin_of mode h ≡ pos 1 → marked mode h ≡ true
unfolding gaqbin_of
marked_one mode h = go (marked mode h) (leb (endbap mode) h)
  where
    go : (t u : Bool) → cond t (pos 1) (cond u (negsuc 0) (pos 0)) ≡ pos 1 → t ≡ true
    go true u e = refl
    go false true e = cc
    go false false e = let z : ◌≡◌ {A = ℕ} 0 1 = cc in absurd (omega arith)

marked_other : (mode h : ℕ) → (gaqbin_of mode h ≡ pos 1 → ⊥) → marked mode h ≡ false
unfolding gaqbin_of
marked_other mode h = go (marked mode h) (leb (endbap mode) h)
  where
    go : (t u : Bool) → (cond t (pos 1) (cond u (negsuc 0) (pos 0)) ≡ pos 1 → ⊥) → t ≡ false
    go true u e = absurd (e refl)
    go false u e = refl

-- the row `out` is l with the first n bins marked, `active` of them 1
pub record Marked (mode : ℕ) (row : List ℕ) (l : List ℤ) (n : ℕ) (out : List ℤ) (active : ℕ) : Type 0 where
  pub bins : out ≡ map (gaqbin_of mode) (take n row) ++ drop n l
  pub count : active ≡ marked_bins mode (take n row)
  pub few : active ≤ n

module _ (mode : ℕ) (row : List ℕ) (l out : List ℤ) (n active : ℕ) (f : Marked mode row l n out active) where
  -- a turn of the loop, for a bin that is marked m
  module _ (m : ℤ) (inside : n < length row) (room : n < length l) (e : m ≡ gaqbin_of mode (get_or row n 0)) where
    next_bins : set out n m ≡ map (gaqbin_of mode) (take (n + 1) row) ++ drop (n + 1) l
    next_bins =
        let k : length (map (gaqbin_of mode) (take n row)) ≡ n = rw (length-map, length-take-le n row (omega arith)) in
        rw (f.bins, add-one, drop-cons l n (pos 0) room, set_at (map (gaqbin_of mode) (take n row)) (get_or l n (pos 0)) (drop (suc n) l) m n k, take-suc row n 0 inside, map-append, e) (simp append_assoc)

    next : (active' : ℕ) → active' ≡ active + cond (marked mode (get_or row n 0)) 1 0 → active' ≤ n + 1 → Marked mode row l (n + 1) (set out n m) active'
    next active' c h = record { bins = next_bins; count = rw (c, f.count, add-one n, take-suc row n 0 inside) (sym (marked_more mode (take n row) (get_or row n 0))); few = h }

    pub marked_next : (active' : ℕ)
        → (active' ≡ active + 1 → m ≡ pos 1 → Marked mode row l (n + 1) (set out n m) active') × (active' ≡ active → (m ≡ pos 1 → ⊥) → Marked mode row l (n + 1) (set out n m) active')
    marked_next active' =
        let k = f.few in (
          λ c t. next active' (rw (marked_one mode (get_or row n 0) (sym e ∙ t)) c) (omega arith),
          λ c t. next active' (rw (marked_other mode (get_or row n 0) (λ q. t (e ∙ q))) (c ∙ sym (add-zero active))) (omega arith),
        )

  -- after the loop
  pub marked_all : mode ≤ 3 → n ≡ min (length row) (length l) → (Ok active ≡ fill_gaqbin mode row (length l)) × (out ≡ gaqbin_after mode row l)
  unfolding fill_gaqbin gaqbin_after
  marked_all h e =
      let b : out ≡ map (gaqbin_of mode) (take (length l) row) ++ drop (length row) l =
      rw (f.bins, e, take_min (length l) row, min_comm, drop_min (length row) l) in
      let c : active ≡ marked_bins mode (take (length l) row) = rw (f.count, e, take_min (length l) row) in
      (rw (le-leb mode 3 h, c), rw (le-leb mode 3 h) b)

pub marked_start : (mode : ℕ) (row : List ℕ) (l : List ℤ) → Marked mode row l 0 l 0
unfolding marked_bins
marked_start mode row l = record { bins = refl; count = refl; few = omega arith }

-- ---- codes put from a place on
placed_none : (out : List ℕ) (k : ℕ) → placed out k [] ≡ out
unfolding placed
placed_none out k = rw (take-nil (length out - k), add-zero) (take-append-drop k out)

length_placed : (out : List ℕ) (k : ℕ) (a : List ℕ) → k ≤ length out → length (placed out k a) ≡ length out
unfolding placed
length_placed out k a h = simp (length-append, length-take, length-drop) (omega arith)

-- where there is no place nothing is put
pub placed_full : (l : List ℕ) (k : ℕ) (b : List ℕ) → length l ≤ k → placed l k b ≡ l
unfolding placed
placed_full l k b h =
    let z : length l - k ≡ 0 = omega arith in
    rw (take_all k l h, z, drop_of_length-le l {i = k + length b} (omega arith)) (append-nil l)

-- one code is put by a store
pub placed_one : (l : List ℕ) (k code : ℕ) → k < length l → set l k code ≡ placed l k (code ∷ [])
unfolding placed
placed_one l k code h = rw (set_split l k code h, take_all (length l - k) (code ∷ []) (omega arith), add-one)

-- where a fills the row nothing more is put
placed_enough : (l : List ℕ) (k : ℕ) (a b : List ℕ) → length l ≤ k + length a → placed l k (a ++ b) ≡ placed l k a
unfolding placed
placed_enough l k a b h =
    rw (length-append, take-append-le (length l - k) a b (omega arith), drop_of_length-le l {i = k + length a} h, drop_of_length-le l {i = k + (length a + length b)} (omega arith))

-- codes put behind codes are both put
placed_more : (l : List ℕ) (k : ℕ) (a b : List ℕ) → k + length a ≤ length l → placed (placed l k a) (k + length a) b ≡ placed l k (a ++ b)
unfolding placed
placed_more l k a b h =
    let at = k + length a in
    let p = take k l ++ a in
    let e : length p ≡ at = simp (length-append, length-take-le k l (omega arith)) in
    let s : placed l k a ≡ p ++ drop at l = rw (take_all (length l - k) a (omega arith)) (sym (append_assoc (take k l) a (drop at l))) in
    let n : length (p ++ drop at l) ≡ length l = simp (length-append, length-drop, length-take-le k l (omega arith)) (omega arith) in
    let d : drop (at + length b) (p ++ drop at l) ≡ drop (at + length b) l = ap (λ (i : ℕ). drop (i + length b) (p ++ drop at l)) (sym e) ∙ drop-append-add p (drop at l) (length b) ∙ drop-drop (length b) at l in
    let t : take (length l - k) (a ++ b) ≡ a ++ take (length l - at) b = part (length l - k) (length l - at) a b (omega arith) in
    let f : k + length (a ++ b) ≡ at + length b = rw length-append (omega arith) in
    ap (λ (x : List ℕ). placed x at b) s ∙ rw (take_at p (drop at l) at e, n, d, t, f) (simp append_assoc)
  where
    part : (m n : ℕ) (a b : List ℕ) → m ≡ length a + n → take m (a ++ b) ≡ a ++ take n b
    part m n a b h = rw h (take-append-add a b n)

-- the row `out` is l with the codes put from the place k on, and `next` is the place behind them
pub record Filled (l : List ℕ) (k : ℕ) (codes out : List ℕ) (next : ℕ) : Type 0 where
  pub row : out ≡ placed l k codes
  pub end : next ≡ min (length l) (k + length codes)

pub filled_start : (l : List ℕ) (k : ℕ) → k ≤ length l → Filled l k [] l k
filled_start l k h = record { row = sym (placed_none l k); end = omega arith }

pub filled_length : {l : List ℕ} {k : ℕ} {codes out : List ℕ} {next : ℕ} → k ≤ length l → Filled l k codes out next → length out ≡ length l
filled_length {l} {k} {codes} h f = rw f.row (length_placed l k codes h)

-- a call that puts more codes
pub filled_more : {l : List ℕ} {k : ℕ} {a out : List ℕ} {next : ℕ} (b out' : List ℕ) (next' : ℕ) → k ≤ length l → Filled l k a out next
    → next' ≡ min (length out) (next + length b) → out' ≡ placed out next b → Filled l k (a ++ b) out' next'
filled_more {l} {k} {a} {out} {next} b out' next' h f e o = record { row = o ∙ rw (f.row, f.end) (go (leb (k + length a) (length l)) refl); end = size }
  where
    size : next' ≡ min (length l) (k + length (a ++ b))
    size = let n = filled_length h f in let m = length-append a b in let g = f.end in omega arith

    go : (t : Bool) → leb (k + length a) (length l) ≡ t → placed (placed l k a) (min (length l) (k + length a)) b ≡ placed l k (a ++ b)
    go true t =
        let le : k + length a ≤ length l = leb-true _ _ t in
        let m : min (length l) (k + length a) ≡ k + length a = omega arith in
        rw m (placed_more l k a b le)
    go false t =
        let lt : length l < k + length a = leb-false _ _ t in
        let m : min (length l) (k + length a) ≡ length l = omega arith in
        rw (m, placed_full (placed l k a) (length l) b (omega (arith, length_placed l k a h))) (sym (placed_enough l k a b (omega arith)))

-- what the contracts say of it
pub filled_as : {l : List ℕ} {k : ℕ} {codes out : List ℕ} {next : ℕ} (codes' : List ℕ) → codes' ≡ codes → Filled l k codes out next
    → (next ≡ min (length l) (k + length codes')) × (out ≡ placed l k codes')
filled_as codes' e f = (rw e f.end, rw e f.row)

-- codes put from the first place on, as the contract of read_gaq_gains has them
placed_front : (l codes : List ℕ) → placed l 0 codes ≡ take (length l) codes ++ drop (length (take (length l) codes)) l
unfolding placed
placed_front l codes = rw (length-take, drop_min (length codes) l, sub-zero, zero-add)

-- ---- gain words
pub group_codes_lem : (mode w : ℕ) → mode ≡ 3 → word_codes mode w ≡ min 2 (w / 9) ∷ w % 9 / 3 ∷ w % 9 % 3 ∷ []
unfolding word_codes
group_codes_lem mode w h = simp (eq-eqb mode 3 h)

pub single_code : (mode w : ℕ) → (mode ≡ 3 → ⊥) → word_codes mode w ≡ w ∷ []
unfolding word_codes
single_code mode w h = simp (ne_eqb mode 3 h)

-- the codes of one word more
codes_more : (mode n : ℕ) (bs : List Bool) → codes_from mode (suc n) bs ≡ codes_from mode n bs ++ word_codes mode (number_of (take (word_bits mode) (drop (word_bits mode * n) bs)))
unfolding codes_from
codes_more mode zero bs = rw mul-zero (append-nil _)
codes_more mode (suc n) bs =
    let w = word_bits mode in
    let d : drop (w * n) (drop w bs) ≡ drop (w * suc n) bs = rw (drop-drop, mul-suc, add_comm w (w * n)) in
    rw (codes_more mode n (drop w bs), d) (sym (append_assoc (word_codes mode (number_of (take w bs))) _ _))

pub word_bits_le : (mode : ℕ) → word_bits mode ≤ 5
unfolding word_bits
word_bits_le mode = go (eqb mode 3)
  where
    go : (t : Bool) → cond t 5 1 ≤ 5
    go true = omega arith
    go false = omega arith

-- the bits of the word behind i of n words are there
pub word_there : (w at i n total : ℕ) → i < n → at + w * n ≤ total → at + w * i + w ≤ total
word_there w at i n total h k = let m : w * suc i ≤ w * n = mul-le-mul_left w h in omega arith

-- a word is a small number
pub word_small : (mode : ℕ) (bs : List Bool) → number_of (take (word_bits mode) bs) ≤ 31
word_small mode bs =
    let h : number_of (take (word_bits mode) bs) < 2 ^ 5 = lt_of_lt_of_le (number_take_lt (word_bits mode) bs) (pow_mono (word_bits_le mode)) in
    omega arith

-- a turn of the loop: the codes of the word behind i words were put
pub filled_word : {l out : List ℕ} {next : ℕ} (mode i w : ℕ) (bs : List Bool) → w ≡ number_of (take (word_bits mode) (drop (word_bits mode * i) bs))
    → Filled l 0 (codes_from mode i bs ++ word_codes mode w) out next → Filled l 0 (codes_from mode (i + 1) bs) out next
filled_word mode i w bs e f = rw (add-one, codes_more mode i bs, ← e) f

-- ---- read_gaq_gains by its cases
pub gains_mode : (s out : List ℕ) (at mode n : ℕ) → 3 < mode → (Err OutOfRange ≡ read_gaq_gains s at mode n (length out)) × (out ≡ gains_after s at mode n out)
unfolding read_gaq_gains gains_after
gains_mode s out at mode n h = (simp (lt-leb mode 3 h), simp (lt-leb mode 3 h))

-- m words of w bits each
module _ (s out : List ℕ) (at mode n w m : ℕ) (few : mode ≤ 3) (ew : w ≡ word_bits mode) (em : m ≡ words_read mode n (length out)) where
  whole : at + w * m ≡ words_end at mode n (length out)
  unfolding words_end
  whole = rw (ew, em)

  pub gains_short : 8 * length s < at + w * m → (Err InputEnds ≡ read_gaq_gains s at mode n (length out)) × (out ≡ gains_after s at mode n out)
  unfolding read_gaq_gains gains_after
  gains_short h =
      let e : leb (words_end at mode n (length out)) (8 * length s) ≡ false = rw (← whole) (lt-leb (at + w * m) (8 * length s) h) in
      (simp (le-leb mode 3 few, e), simp (le-leb mode 3 few, e))

  pub gains_good : (k : ℕ) (out' : List ℕ) (p : BitPos) → at + w * m ≤ 8 * length s → k ≡ min (length out) (length (codes_from mode m (drop at (bits_of s))))
      → out' ≡ placed out 0 (codes_from mode m (drop at (bits_of s))) → p ≡ pos_of (at + w * m)
      → (Ok (k, p) ≡ read_gaq_gains s at mode n (length out)) × (out' ≡ gains_after s at mode n out)
  unfolding read_gaq_gains gains_after gain_codes
  gains_good k out' p h ek eo ep =
      let codes = codes_from mode m (drop at (bits_of s)) in
      let e : leb (words_end at mode n (length out)) (8 * length s) ≡ true = rw (← whole) (le-leb (at + w * m) (8 * length s) h) in
      let g : gain_codes s at mode n (length out) ≡ take (length out) codes = rw em in
      let l : k ≡ length (take (length out) codes) = ek ∙ sym (length-take (length out) codes) in
      let f : out' ≡ take (length out) codes ++ drop (length (take (length out) codes)) out = eo ∙ placed_front out codes in
      (rw (le-leb mode 3 few, e, g, ← whole, l, ep), rw (le-leb mode 3 few, e, g) f)

-- ---- the gains that a mode allows are the values of its codes
pub allowed_values : (mode g : ℕ) → allowed_gain mode g ≡ member g (gain_value 0 mode ∷ gain_value 1 mode ∷ gain_value 2 mode ∷ [])
unfolding allowed_gain other_gains gain_value
allowed_values mode g = go (eqb mode 1) (eqb mode 2) (eqb mode 3)
  where
    -- a gain that two codes have counts once
    again : (t u : Bool) → t || u ≡ t || (t || u)
    again true u = refl
    again false u = refl

    go : (a b c : Bool) → member g (1 ∷ cond a (2 ∷ []) (cond b (4 ∷ []) (cond c (2 ∷ 4 ∷ []) [])))
        ≡ member g (1 ∷ cond a 2 (cond b 4 (cond c 2 1)) ∷ cond a 2 (cond b 4 (cond c 4 1)) ∷ [])
    go true b c = ap (λ (t : Bool). eqb g 1 || t) (again (eqb g 2) false)
    go false true c = ap (λ (t : Bool). eqb g 1 || t) (again (eqb g 4) false)
    go false false true = refl
    go false false false = again (eqb g 1) false ∙ again (eqb g 1) (eqb g 1 || false)
