-- The bytes of lines, one by one. Assumes nothing.
use Prim.Native.Nat.{ℕ, ◌+◌, ◌-◌, ◌*◌, ◌/◌, ◌%◌, ◌≤◌, ◌<◌}
use mathlib.Core.Path.{◌≡◌, refl, sym, ap, ◌∙◌, subst}
use mathlib.Core.Bool.{Bool, true, false, cond}
use mathlib.Core.List.{List, [], ◌∷◌, ◌++◌, append-nil}
use native.Mathlib.Omega.{arith}
use borrow.Author.Tests.{eqb-true, eqb-false, ltb-true, ltb-false}
use lib.Dec.{eqb, ltb}
use lib.ListN.{length, get_or, get_or-append, get_or-replicate}
use lib.Seq.{get_or-drop, get_or-append-add}
use Rattle.channel.specs.Bins.{from}
use Rattle.channel.specs.Shown.{joined}
use Rattle.pages.specs.Pages.{spaces, place_text, line_text, lines_text, place_at}
use Rattle.pages.proofs.Pieces.{pieces_length, piece_drop}
use Rattle.pages.proofs.Lines.{line_rest, column, column_long, place_long, place_blank, place_cell, line_at, line_at_long, line_is}
use Rattle.pages.proofs.Back.{Visible, visible_spaces, visible_at}

not_last : (o : ℕ) → o < 13 → (o ≡ 12 → ⊥) → o < 12
not_last o h n = omega arith

-- ---- pieces of w each
module _ (w : ℕ) (f : ℕ → List ℕ) (long : (k : ℕ) → length (f k) ≡ w) where
  -- the byte r of the piece i
  piece_byte : (k n i r : ℕ) (rest : List ℕ) → i < n → r < w → get_or (joined (from f k n) ++ rest) (w * i + r) 0 ≡ get_or (f (k + i)) r 0
  piece_byte k n i r rest l h =
      let e = long (k + i) in
      sym (get_or-drop (w * i) (joined (from f k n) ++ rest) r 0)
      ∙ ap (λ (s : List ℕ). get_or s r 0) (piece_drop w f long k n i rest l) ∙ get_or-append (f (k + i)) _ 0 r (omega arith)

-- ---- lines
module _ (cell : ℕ → List ℕ) (twelve : (k : ℕ) → length (cell k) ≡ 12) where
  -- the byte o of the place c, the space behind it, and what stands behind the four
  in_place : (end k c o : ℕ) → c < 4 → o < 12 → get_or (line_text cell end k) (13 * c + o) 0 ≡ get_or (place_text cell end (k + c)) o 0
  in_place end k c o u h =
      let e = place_long cell twelve end (k + c) in
      ap (λ (s : List ℕ). get_or s (13 * c + o) 0) (line_is cell twelve end k)
      ∙ piece_byte 13 (column cell twelve end) (column_long cell twelve end) k 4 c o line_rest u (omega arith) ∙ get_or-append (place_text cell end (k + c)) (32 ∷ []) 0 o (omega arith)

  behind_place : (end k c : ℕ) → c < 4 → get_or (line_text cell end k) (13 * c + 12) 0 ≡ 32
  behind_place end k c u =
      let p = place_text cell end (k + c) in
      let e : length p + 0 ≡ 12 = ap (λ (n : ℕ). n + 0) (place_long cell twelve end (k + c)) in
      ap (λ (s : List ℕ). get_or s (13 * c + 12) 0) (line_is cell twelve end k)
      ∙ piece_byte 13 (column cell twelve end) (column_long cell twelve end) k 4 c 12 line_rest u (omega arith)
      ∙ ap (λ (n : ℕ). get_or (p ++ (32 ∷ [])) n 0) (sym e) ∙ get_or-append-add p (32 ∷ []) 0 0

  behind_places : (end k r : ℕ) → get_or (line_text cell end k) (52 + r) 0 ≡ get_or line_rest r 0
  behind_places end k r =
      let s = joined (from (column cell twelve end) k 4) in
      let e : length s ≡ 52 = pieces_length 13 (column cell twelve end) (column_long cell twelve end) k 4 in
      ap (λ (t : List ℕ). get_or t (52 + r) 0) (line_is cell twelve end k) ∙ ap (λ (n : ℕ). get_or (s ++ line_rest) (n + r) 0) (sym e) ∙ get_or-append-add s line_rest r 0

  -- the byte r of the line l
  in_line : (start end n l r : ℕ) → l < n → r < 65 → get_or (lines_text cell start end n) (65 * l + r) 0 ≡ get_or (line_text cell end (start + 4 * l)) r 0
  unfolding lines_text
  in_line start end n l r u h =
      let z : 0 + l ≡ l = omega arith in
      ap (λ (s : List ℕ). get_or s (65 * l + r) 0) (sym (append-nil (joined (from (line_at cell twelve start end) 0 n))))
      ∙ piece_byte 65 (line_at cell twelve start end) (line_at_long cell twelve start end) 0 n l r [] u h ∙ ap (λ (i : ℕ). get_or (line_at cell twelve start end i) r 0) z

  -- the byte r of the line from k on: a line end, a place's, or a space
  abbrev byte_in : ℕ → ℕ → ℕ → ℕ
  byte_in end k r = cond (eqb r 64) 10 (cond (ltb r 52) (cond (eqb (r % 13) 12) 32 (get_or (place_text cell end (k + r / 13)) (r % 13) 0)) 32)

  line_byte : (end k r : ℕ) → r < 65 → get_or (line_text cell end k) r 0 ≡ byte_in end k r
  line_byte end k r h = go (eqb r 64) refl (ltb r 52) refl (eqb (r % 13) 12) refl
    where
      go : (t : Bool) → eqb r 64 ≡ t → (u : Bool) → ltb r 52 ≡ u → (v : Bool) → eqb (r % 13) 12 ≡ v
          → get_or (line_text cell end k) r 0 ≡ cond t 10 (cond u (cond v 32 (get_or (place_text cell end (k + r / 13)) (r % 13) 0)) 32)
      go true e u f v g = let q = eqb-true r 64 e in ap (λ (i : ℕ). get_or (line_text cell end k) i 0) q ∙ behind_places end k 12
      go false e true f true g =
          let q = eqb-true (r % 13) 12 g in
          let m = ltb-true r 52 f in
          let i : r ≡ 13 * (r / 13) + 12 = omega arith in
          ap (λ (j : ℕ). get_or (line_text cell end k) j 0) i ∙ behind_place end k (r / 13) (omega arith)
      go false e true f false g =
          let q = eqb-false (r % 13) 12 g in
          let m = ltb-true r 52 f in
          let i : r ≡ 13 * (r / 13) + r % 13 = omega arith in
          ap (λ (j : ℕ). get_or (line_text cell end k) j 0) i ∙ in_place end k (r / 13) (r % 13) (omega arith) (not_last (r % 13) (omega arith) q)
      go false e false f v g =
          let q = eqb-false r 64 e in
          let m = ltb-false r 52 f in
          let i : r ≡ 52 + (r - 52) = omega arith in
          ap (λ (j : ℕ). get_or (line_text cell end k) j 0) i ∙ behind_places end k (r - 52)
          ∙ get_or-append (spaces 12) (10 ∷ []) 0 (r - 52) (not_end r h q m) ∙ get_or-replicate 12 (r - 52) 32 0 (not_end r h q m)
        where
          not_end : (r : ℕ) → r < 65 → (r ≡ 64 → ⊥) → 52 ≤ r → r - 52 < 12
          not_end r h n m = omega arith

  -- the byte j of the lines
  lines_byte : (start end n j : ℕ) → j < 65 * n → get_or (lines_text cell start end n) j 0 ≡ byte_in end (start + 4 * (j / 65)) (j % 65)
  lines_byte start end n j h =
      let e : j ≡ 65 * (j / 65) + j % 65 = omega arith in
      ap (λ (i : ℕ). get_or (lines_text cell start end n) i 0) e ∙ in_line start end n (j / 65) (j % 65) (omega arith) (omega arith) ∙ line_byte end (start + 4 * (j / 65)) (j % 65) (omega arith)

  -- Outside the bins' places stand spaces and line ends, the line ends behind each 64 characters.
  pub outside_places : (start end n j : ℕ) → j < 65 * n → ((i : ℕ) → i < end - start → place_at i ≤ j → j < place_at i + 12 → ⊥)
      → get_or (lines_text cell start end n) j 0 ≡ cond (eqb (j % 65) 64) 10 32
  unfolding place_at
  outside_places start end n j h free = lines_byte start end n j h ∙ go (eqb (j % 65) 64) (ltb (j % 65) 52) refl (eqb (j % 65 % 13) 12) refl
    where
      k : ℕ
      k = start + 4 * (j / 65) + j % 65 / 13

      blank_there : j % 65 < 52 → (j % 65 % 13 ≡ 12 → ⊥) → end ≤ k
      blank_there m q = behind (ltb k end) refl
        where
          behind : (t : Bool) → ltb k end ≡ t → end ≤ k
          behind true e = let u = ltb-true k end e in absurd (free (4 * (j / 65) + j % 65 / 13) (omega arith) (omega arith) (within m q))
            where
              within : j % 65 < 52 → (j % 65 % 13 ≡ 12 → ⊥) → j < 65 * ((4 * (j / 65) + j % 65 / 13) / 4) + 13 * ((4 * (j / 65) + j % 65 / 13) % 4) + 12
              within m q = omega arith
          behind false e = ltb-false k end e

      go : (t u : Bool) → ltb (j % 65) 52 ≡ u → (v : Bool) → eqb (j % 65 % 13) 12 ≡ v
          → cond t 10 (cond u (cond v 32 (get_or (place_text cell end k) (j % 65 % 13) 0)) 32) ≡ cond t 10 32
      go true u f v g = refl
      go false true f true g = refl
      go false true f false g =
          let q = eqb-false (j % 65 % 13) 12 g in
          let m = ltb-true (j % 65) 52 f in
          ap (λ (s : List ℕ). get_or s (j % 65 % 13) 0) (place_blank cell twelve end k (blank_there m q)) ∙ get_or-replicate 12 (j % 65 % 13) 32 0 (not_last (j % 65 % 13) (omega arith) q)
      go false false f v g = refl

  -- Where cells have no line end, no other byte of a line is one.
  pub characters : ((k : ℕ) → Visible (cell k)) → (start end n j : ℕ) → j < 65 * n → (j % 65 ≡ 64 → ⊥) → 32 ≤ get_or (lines_text cell start end n) j 0
  characters vis start end n j h inner = rw (lines_byte start end n j h) (go (eqb (j % 65) 64) refl (ltb (j % 65) 52) (eqb (j % 65 % 13) 12) refl)
    where
      k : ℕ
      k = start + 4 * (j / 65) + j % 65 / 13

      seen : Visible (place_text cell end k)
      seen = of (ltb k end) refl
        where
          of : (t : Bool) → ltb k end ≡ t → Visible (place_text cell end k)
          of true e = subst Visible (sym (place_cell cell twelve end k (ltb-true k end e))) (vis k)
          of false e = subst Visible (sym (place_blank cell twelve end k (ltb-false k end e))) (visible_spaces 12)

      go : (t : Bool) → eqb (j % 65) 64 ≡ t → (u v : Bool) → eqb (j % 65 % 13) 12 ≡ v → 32 ≤ cond t 10 (cond u (cond v 32 (get_or (place_text cell end k) (j % 65 % 13) 0)) 32)
      go true e u v g = absurd (inner (eqb-true (j % 65) 64 e))
      go false e true true g = omega arith
      go false e true false g =
          let q = eqb-false (j % 65 % 13) 12 g in
          let l = place_long cell twelve end k in
          visible_at (place_text cell end k) (j % 65 % 13) seen (rw l (not_last (j % 65 % 13) (omega arith) q))
      go false e false v g = omega arith

  -- The byte behind each 64 characters is one.
  pub line_end : (start end n l : ℕ) → l < n → get_or (lines_text cell start end n) (65 * l + 64) 0 ≡ 10
  line_end start end n l u = in_line start end n l 64 u (omega arith) ∙ behind_places end (start + 4 * l) 12
