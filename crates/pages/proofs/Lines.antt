-- Lines of four places: what stands at each place, and lines that fill up bin by bin. Assumes nothing.
use Prim.Native.Nat.{ℕ, zero, suc, ◌+◌, ◌-◌, ◌*◌, ◌/◌, ◌%◌, ◌≤◌, ◌<◌}
use mathlib.Core.Path.{◌≡◌, refl, sym, ap, ◌∙◌}
use mathlib.Core.Bool.{Bool, true, false, cond}
use mathlib.Core.List.{List, [], ◌∷◌, ◌++◌, append_assoc, append-nil}
use native.Mathlib.Omega.{arith}
use native.Mathlib.Numerals.{add-one}
use borrow.Author.Tests.{lt-ltb, le-ltb, ltb-true, ltb-false, le-leb, lt-leb, leb-true, leb-false}
use lib.Dec.{ltb, leb}
use lib.ListN.{length, take, drop, length-append}
use lib.Seq.{take_at, drop-drop}
use Rattle.bits.specs.Bits.{splice}
use Rattle.bits.proofs.Laws.{splice_at, length_splice}
use Rattle.channel.specs.Bins.{from}
use Rattle.channel.specs.Shown.{joined}
use Rattle.pages.specs.Pages.{spaces, filled, spread, place_text, line_text, lines_text, place_at}
use Rattle.pages.specs.Reading.{at_place}
use Rattle.pages.specs.Work.{blank_lines, with_cells}
use Rattle.pages.proofs.Pieces.{same_pieces, splice_middle, pieces_length, piece_drop, piece_put}

-- behind the four places of a line, each with a space behind it
abbrev pub line_rest : List ℕ
line_rest = spaces 12 ++ (10 ∷ [])

-- a place and its twelve characters lie within the lines
pub place_inside : (i n : ℕ) → i < 4 * n → place_at i + 12 ≤ 65 * n
unfolding place_at
place_inside i n u = omega arith

-- the next place comes behind them
pub place_next : (i e : ℕ) → i < e → place_at i + 12 ≤ place_at e
unfolding place_at
place_next i e u = omega arith

-- the place behind the last
pub place_end : (i n : ℕ) → i ≤ 4 * n → place_at i ≤ 65 * n
unfolding place_at
place_end i n u = omega arith

-- ---- one bin more over what stands there
pub cells_none : (cell : ℕ → List ℕ) (start end : ℕ) (out : List ℕ) → end ≤ start → with_cells cell start end out ≡ out
unfolding with_cells
cells_none cell start zero out h = refl
cells_none cell start (suc e) out h = rw (lt-leb start e h)

pub cells_turn : (cell : ℕ → List ℕ) (start b : ℕ) (out mid after : List ℕ) → start ≤ b → mid ≡ with_cells cell start b out → after ≡ splice mid (place_at (b - start)) (cell b)
    → after ≡ with_cells cell start (b + 1) out
unfolding with_cells
cells_turn cell start b out mid after h e f = rw (add-one, le-leb start b h) (f ∙ ap (λ (s : List ℕ). splice s (place_at (b - start)) (cell b)) e)

module _ (cell : ℕ → List ℕ) (twelve : (k : ℕ) → length (cell k) ≡ 12) where
  pub place_long : (end k : ℕ) → length (place_text cell end k) ≡ 12
  unfolding place_text
  place_long end k = go (ltb k end)
    where
      go : (t : Bool) → length (cond t (cell k) (spaces 12)) ≡ 12
      go true = twelve k
      go false = refl

  -- a place with the space behind it
  abbrev pub column : ℕ → ℕ → List ℕ
  column end k = place_text cell end k ++ (32 ∷ [])

  pub column_long : (end k : ℕ) → length (column end k) ≡ 13
  column_long end k = length-append (place_text cell end k) (32 ∷ []) ∙ ap (λ (n : ℕ). n + 1) (place_long end k)

  pub line_is : (end k : ℕ) → line_text cell end k ≡ joined (from (column end) k 4) ++ line_rest
  unfolding line_text spread from joined
  line_is end k =
      let a = place_text cell end k in
      let b = place_text cell end (suc k) in
      let c = place_text cell end (suc (suc k)) in
      let d = place_text cell end (suc (suc (suc k))) in
      let s = a ++ (32 ∷ (b ++ (32 ∷ (c ++ (32 ∷ d))))) in
      let n : length s ≡ 51 = simp (length-append, place_long) in
      ap (λ (m : ℕ). (s ++ spaces (64 - m)) ++ (10 ∷ [])) n ∙ simp (append_assoc, append-nil)

  pub line_long : (end k : ℕ) → length (line_text cell end k) ≡ 65
  line_long end k = ap length (line_is end k) ∙ length-append (joined (from (column end) k 4)) line_rest ∙ ap (λ (n : ℕ). n + 13) (pieces_length 13 (column end) (column_long end) k 4)

  -- ---- so many lines
  abbrev pub line_at : ℕ → ℕ → ℕ → List ℕ
  line_at start end l = line_text cell end (start + 4 * l)

  pub line_at_long : (start end l : ℕ) → length (line_at start end l) ≡ 65
  line_at_long start end l = line_long end (start + 4 * l)

  pub lines_long : (start end n : ℕ) → length (lines_text cell start end n) ≡ 65 * n
  unfolding lines_text
  lines_long start end n = pieces_length 65 (line_at start end) (line_at_long start end) 0 n

  -- the place c of a line
  place_in_line : (end k c : ℕ) (rest : List ℕ) → c < 4 → take 12 (drop (13 * c) (line_text cell end k ++ rest)) ≡ place_text cell end (k + c)
  place_in_line end k c rest u =
      let e : line_text cell end k ++ rest ≡ joined (from (column end) k 4) ++ (line_rest ++ rest) = ap (λ (s : List ℕ). s ++ rest) (line_is end k) ∙ simp append_assoc in
      rw (e, piece_drop 13 (column end) (column_long end) k 4 c (line_rest ++ rest) u, append_assoc) (take_at (place_text cell end (k + c)) _ 12 (place_long end (k + c)))

  -- the place i of the pages
  pub place_shown : (start end n i : ℕ) → i < 4 * n → at_place (lines_text cell start end n) i ≡ place_text cell end (start + i)
  unfolding place_at lines_text
  place_shown start end n i u =
      let f = line_at start end in
      let l = i / 4 in
      let c = i % 4 in
      let T = joined (from f 0 n) in
      let R = joined (from f (0 + suc l) (n - suc l)) ++ [] in
      let d : drop (65 * l + 13 * c) T ≡ drop (13 * c) (f (0 + l) ++ R) =
      sym (drop-drop (13 * c) (65 * l) T) ∙ ap (λ (s : List ℕ). drop (13 * c) (drop (65 * l) s)) (sym (append-nil T))
      ∙ ap (drop (13 * c)) (piece_drop 65 f (line_at_long start end) 0 n l [] (omega arith)) in
      let k : start + 4 * (0 + l) + c ≡ start + i = omega arith in
      ap (take 12) d ∙ place_in_line end (start + 4 * (0 + l)) c R (omega arith) ∙ ap (place_text cell end) k

  -- ---- lines that fill up
  pub place_blank : (end k : ℕ) → end ≤ k → place_text cell end k ≡ spaces 12
  unfolding place_text
  place_blank end k h = rw (le-ltb k end h)

  pub place_cell : (end k : ℕ) → k < end → place_text cell end k ≡ cell k
  unfolding place_text
  place_cell end k h = rw (lt-ltb k end h)

  -- a line from the last bin on is blank
  line_blank : (end k : ℕ) → end ≤ k → line_text cell end k ≡ spaces 64 ++ (10 ∷ [])
  unfolding line_text spread from
  line_blank end k h =
      rw (place_blank end k h, place_blank end (suc k) (omega arith), place_blank end (suc (suc k)) (omega arith), place_blank end (suc (suc (suc k))) (omega arith))

  pub no_bins : (start end n : ℕ) → end ≤ start → lines_text cell start end n ≡ blank_lines n
  unfolding lines_text blank_lines
  no_bins start end n h = ap joined (same_pieces (line_at start end) (λ l. spaces 64 ++ (10 ∷ [])) 0 n (λ l a b. line_blank end (start + 4 * l) (omega arith)))

  -- one bin more
  other_place : (b j : ℕ) → (j ≡ b → ⊥) → place_text cell b j ≡ place_text cell (suc b) j
  other_place b j n = go (ltb j b) refl
    where
      go : (t : Bool) → ltb j b ≡ t → place_text cell b j ≡ place_text cell (suc b) j
      go true e = let h = ltb-true j b e in place_cell b j h ∙ sym (place_cell (suc b) j (omega arith))
      go false e = let h = ltb-false j b e in place_blank b j h ∙ sym (place_blank (suc b) j (le_suc h n))
        where
          le_suc : b ≤ j → (j ≡ b → ⊥) → suc b ≤ j
          le_suc h n = omega arith

  -- in its line,
  line_more : (k c : ℕ) → c < 4 → splice (line_text cell (k + c) k) (13 * c) (cell (k + c)) ≡ line_text cell (suc (k + c)) k
  line_more k c u =
      let b = k + c in
      let e : 13 * c ≡ 13 * c + 0 = omega arith in
      let t = twelve b in
      let g : column (suc b) b ≡ splice (column b b) 0 (cell b) =
      ap (λ (s : List ℕ). s ++ (32 ∷ [])) (place_cell (suc b) b (omega arith))
      ∙ sym (ap (λ (s : List ℕ). splice (s ++ (32 ∷ [])) 0 (cell b)) (place_blank b b (omega arith)) ∙ splice_at [] (spaces 12) (32 ∷ []) (cell b) 0 refl (sym t)) in
      ap (λ (s : List ℕ). splice s (13 * c) (cell b)) (line_is b k) ∙ ap (λ (n : ℕ). splice (joined (from (column b) k 4) ++ line_rest) n (cell b)) e
      ∙ piece_put 13 (column b) (column_long b) (column (suc b)) k 4 c 0 (cell b) line_rest u (omega arith) g (λ j n. ap (λ (s : List ℕ). s ++ (32 ∷ [])) (other_place b j n))
      ∙ sym (line_is (suc b) k)

  other_line : (start b j : ℕ) → (j ≡ (b - start) / 4 → ⊥) → line_text cell b (start + 4 * j) ≡ line_text cell (suc b) (start + 4 * j)
  unfolding line_text
  other_line start b j q =
      ap (λ (ps : List (List ℕ)). filled 64 (spread ps) ++ (10 ∷ [])) (same_pieces (place_text cell b) (place_text cell (suc b)) (start + 4 * j) 4 (λ i v w. other_place b i (λ r. q (omega arith))))

  -- and in the lines
  pub lines_more : (start b n : ℕ) → start ≤ b → b - start < 4 * n → splice (lines_text cell start b n) (place_at (b - start)) (cell b) ≡ lines_text cell start (suc b) n
  unfolding lines_text place_at
  lines_more start b n h u =
      let l = (b - start) / 4 in
      let c = (b - start) % 4 in
      let k = start + 4 * (0 + l) in
      let f = line_at start b in
      let g = line_at start (suc b) in
      let e : k + c ≡ b = omega arith in
      let t = twelve b in
      let m : line_text cell (suc b) k ≡ splice (line_text cell b k) (13 * c) (cell b) = rw e at (sym (line_more k c (omega arith))) in
      ap (λ (s : List ℕ). splice s (65 * l + 13 * c) (cell b)) (sym (append-nil (joined (from f 0 n))))
      ∙ piece_put 65 f (line_at_long start b) g 0 n l (13 * c) (cell b) [] (omega arith) (omega arith) m (λ j q. other_line start b j (λ r. q (omega arith)))
      ∙ append-nil (joined (from g 0 n))

  -- ---- a blank front of an output, and the bins put over it one after another
  front_over : (out front new : List ℕ) (at : ℕ) → at + length new ≤ length front → splice (splice out 0 front) at new ≡ splice out 0 (splice front at new)
  unfolding splice
  front_over out front new at h =
      let l = length_splice front new at h in
      let e : 0 + at ≡ at = omega arith in
      rw e at (splice_middle [] front (drop (0 + length front) out) new at h) ∙ ap (λ (n : ℕ). splice front at new ++ drop (0 + n) out) (sym l)

  pub cells_put : (start b n : ℕ) (out : List ℕ) → b - start ≤ 4 * n → with_cells cell start b (splice out 0 (blank_lines n)) ≡ splice out 0 (lines_text cell start b n)
  unfolding with_cells
  cells_put start zero n out h = ap (splice out 0) (sym (no_bins start 0 n (omega arith)))
  cells_put start (suc e) n out h = go (leb start e) refl (cells_put start e n out (omega arith))
    where
      go : (t : Bool) → leb start e ≡ t → with_cells cell start e (splice out 0 (blank_lines n)) ≡ splice out 0 (lines_text cell start e n)
          → cond t (splice (with_cells cell start e (splice out 0 (blank_lines n))) (place_at (e - start)) (cell e)) (splice out 0 (blank_lines n)) ≡ splice out 0 (lines_text cell start (suc e) n)
      go true q r =
          let u = leb-true start e q in
          let t = twelve e in
          let l = lines_long start e n in
          let p = place_inside (e - start) n (omega arith) in
          rw r (front_over out (lines_text cell start e n) (cell e) (place_at (e - start)) (omega arith) ∙ ap (splice out 0) (lines_more start e n u (omega arith)))
      go false q r = ap (splice out 0) (sym (no_bins start (suc e) n (leb-false start e q)))
