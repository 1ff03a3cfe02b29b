-- Laws of a channel's tokens, by the cases that the readers meet. Assumes nothing.
use Prim.Native.Nat.{ℕ, zero, suc, ◌+◌, ◌-◌, ◌*◌, ◌≤◌, ◌<◌}
use mathlib.Core.Path.{◌≡◌, refl, sym, ap, ◌∙◌}
use mathlib.Core.List.{List, [], ◌∷◌, ◌++◌, append_assoc, append-nil, map, map-append}
use mathlib.Core.Bool.{Bool, true, false, cond}
use native.Mathlib.Omega.{arith}
use native.Mathlib.Numerals.{add-one}
use lib.ListN.{length, take, drop, get_or, length-append, length-map, drop_of_length-le}
use lib.Seq.{take-suc, drop-cons, drop-drop, take_at, drop_at}
use lib.Dec.{eqb, leb}
use borrow.Author.Tests.{le-leb, lt-leb, eq-eqb, ne_eqb}
use Rattle.desktext.specs.Spelling.{largest, last_number, channel_token, bins_token, row_token, vector_token, close_token}
use Rattle.desktext.specs.Channel.{Part, part, missing, lead, items, numbers, vectors, closes, TextChannel, none, on_vectors, on_row, on_bins, channel_from}
use Rattle.desktext.specs.Printed.{AllIn, form}
use Rattle.desktext.specs.Work.{number_of, numbers_of, opening, is_within, vector_numbers, Stands}
use Rattle.desktext.specs.declared.Name.{Name}
use Rattle.desktext.specs.declared.Token.{Token}
use Rattle.desktext.specs.declared.Token.TheVariants as token
use Rattle.std.proofs.Common.{ℤ}
use Rattle.desktext.proofs.Signed.{closes_other}
use Rattle.desktext.proofs.ChannelTokens.{numbers_sole}
use Rattle.desktext.proofs.Laws.{no_true, rest_is}

lead_lead : (xs ys : List ℕ) (p : Part) → lead xs (lead ys p) ≡ lead (xs ++ ys) p
lead_lead xs ys (part zs r) = ap (λ (l : List ℕ). part l r) (sym (append_assoc xs ys zs))
lead_lead xs ys missing = refl

lead_nil : (p : Part) → lead [] p ≡ p
lead_nil (part zs r) = refl
lead_nil missing = refl

-- ---- a form's numbers
at_place : {A : Type 0} (xs : List A) (n : ℕ) (d : A) → n < length xs → drop n xs ≡ get_or xs n d ∷ drop (n + 1) xs
at_place xs n d h = rw (add-one, drop-cons xs n d)

items_last : (low high t : ℕ) (ts : List ℕ) → eqb t close_token ≡ true → items low high (t ∷ ts) ≡ part [] ts
unfolding items
items_last low high t ts e = rw e

items_off : (low high t : ℕ) (ts : List ℕ) → eqb t close_token ≡ false → cond (leb low t) (leb t high) false ≡ false → items low high (t ∷ ts) ≡ missing
unfolding items
items_off low high t ts e f = rw e (go (leb low t) (leb t high) f)
  where
    go : (x y : Bool) → cond x y false ≡ false → cond x (cond y (lead (t ∷ []) (items low high ts)) missing) missing ≡ missing
    go true true g = no_true (sym g)
    go true false g = refl
    go false y g = refl

items_on : (low high t : ℕ) (ts : List ℕ) → eqb t close_token ≡ false → cond (leb low t) (leb t high) false ≡ true → items low high (t ∷ ts) ≡ lead (t ∷ []) (items low high ts)
unfolding items
items_on low high t ts e f = rw e (go (leb low t) (leb t high) f)
  where
    go : (x y : Bool) → cond x y false ≡ true → cond x (cond y (lead (t ∷ []) (items low high ts)) missing) missing ≡ lead (t ∷ []) (items low high ts)
    go true true g = refl
    go true false g = no_true g
    go false y g = no_true g

module _ (name : Name) (low high : ℕ) (ts : List Token) where
  pub numbers_end : length ts ≡ 0 → numbers (opening name) low high (numbers_of ts) ≡ missing
  unfolding numbers
  numbers_end e = go ts e
    where
      go : (us : List Token) → length us ≡ 0 → numbers (opening name) low high (numbers_of us) ≡ missing
      go [] f = refl
      go (u ∷ us) f = absurd (omega arith)

  module _ (t : Token) (us : List Token) (is : ts ≡ t ∷ us) where
    pub numbers_other : eqb (number_of t) (opening name) ≡ false → numbers (opening name) low high (numbers_of ts) ≡ missing
    unfolding numbers
    numbers_other e = ap (λ (l : List Token). numbers (opening name) low high (numbers_of l)) is ∙ rw e

    pub numbers_named : eqb (number_of t) (opening name) ≡ true → numbers (opening name) low high (numbers_of ts) ≡ lead (numbers_of (take 0 us)) (items low high (numbers_of (drop 0 us)))
    unfolding numbers
    numbers_named e = ap (λ (l : List Token). numbers (opening name) low high (numbers_of l)) is ∙ rw e (sym (lead_nil (items low high (numbers_of us))))

-- n of them are read
module _ (low high : ℤ) (xs : List Token) (n : ℕ) (there : Part)
    (so : there ≡ lead (numbers_of (take n xs)) (items (number_of (token.Number low)) (number_of (token.Number high)) (numbers_of (drop n xs)))) where
  abbrev from : ℕ
  from = number_of (token.Number low)

  abbrev to : ℕ
  to = number_of (token.Number high)

  pub run_end : length xs ≤ n → there ≡ missing
  unfolding items
  run_end h = so ∙ ap (λ (l : List Token). lead (numbers_of (take n xs)) (items from to (numbers_of l))) (drop_of_length-le xs h)

  module _ (h : n < length xs) (d : Token) where
    here : (p : Part) → items from to (numbers_of (get_or xs n d ∷ drop (n + 1) xs)) ≡ p → there ≡ lead (numbers_of (take n xs)) p
    here p e = so ∙ ap (λ (l : List Token). lead (numbers_of (take n xs)) (items from to (numbers_of l))) (at_place xs n d h) ∙ ap (lead (numbers_of (take n xs))) e

    pub run_close : get_or xs n d ≡ token.Close → there ≡ part (numbers_of (take n xs)) (numbers_of (take (length xs - (n + 1)) (drop (n + 1) xs)))
    unfolding number_of
    run_close e =
        here _ (items_last from to _ (numbers_of (drop (n + 1) xs)) (ap (λ (t : Token). eqb (number_of t) close_token) e))
        ∙ rw (rest_is xs (n + 1)) (ap (λ (l : List ℕ). part l (numbers_of (drop (n + 1) xs))) (append-nil (numbers_of (take n xs))))

    module _ (other : get_or xs n d ≡ token.Close → ⊥) where
      pub run_off : is_within low high (get_or xs n d) ≡ false → there ≡ missing
      run_off e = here _ (items_off from to _ (numbers_of (drop (n + 1) xs)) (closes_other _ other) e)

      pub run_more : is_within low high (get_or xs n d) ≡ true → there ≡ lead (numbers_of (take (n + 1) xs)) (items from to (numbers_of (drop (n + 1) xs)))
      run_more e =
          let k : take (n + 1) xs ≡ take n xs ++ (get_or xs n d ∷ []) = rw add-one (take-suc xs n d h) in
          here _ (items_on from to _ (numbers_of (drop (n + 1) xs)) (closes_other _ other) e)
          ∙ lead_lead (numbers_of (take n xs)) (number_of (get_or xs n d) ∷ []) (items from to (numbers_of (drop (n + 1) xs)))
          ∙ ap (λ (l : List ℕ). lead l (items from to (numbers_of (drop (n + 1) xs)))) (sym (ap numbers_of k ∙ map-append number_of (take n xs) (get_or xs n d ∷ [])))

-- one more vector's numbers
vector_numbers_suc : (i : ℕ) (s : List ℕ) → vector_numbers (suc i) s ≡ vector_numbers i s ++ take 6 (drop (8 * i + 1) s)
unfolding vector_numbers
vector_numbers_suc zero s = append-nil (take 6 (drop 1 s))
vector_numbers_suc (suc i) s =
    let z : 8 + (8 * i + 1) ≡ 8 * suc i + 1 = omega arith in
    let d : drop (8 * i + 1) (drop 8 s) ≡ drop (8 * suc i + 1) s = drop-drop (8 * i + 1) 8 s ∙ ap (λ (k : ℕ). drop k s) z in
    ap (λ (l : List ℕ). take 6 (drop 1 s) ++ l) (vector_numbers_suc i (drop 8 s)) ∙ sym (append_assoc (take 6 (drop 1 s)) (vector_numbers i (drop 8 s)) (take 6 (drop (8 * i + 1) (drop 8 s))))
    ∙ ap (λ (l : List ℕ). (take 6 (drop 1 s) ++ vector_numbers i (drop 8 s)) ++ take 6 l) d

vectors_none : (m : ℕ) (s : List ℕ) → missing ≡ numbers vector_token 0 last_number s → vectors (suc m) s ≡ missing
unfolding vectors
vectors_none m s e = rw (← e)

vectors_off : (m : ℕ) (s v r : List ℕ) → part v r ≡ numbers vector_token 0 last_number s → (length v ≡ 6 → ⊥) → vectors (suc m) s ≡ missing
unfolding vectors
vectors_off m s v r e n = rw (← e, ne_eqb (length v) 6 n)

vectors_six : (m : ℕ) (s v r : List ℕ) → part v r ≡ numbers vector_token 0 last_number s → length v ≡ 6 → vectors (suc m) s ≡ lead v (vectors m r)
unfolding vectors
vectors_six m s v r e n = rw (← e, eq-eqb (length v) 6 n)

-- the last bracket stands alone
closes_some : (s : List ℕ) → closes s ≡ true → 0 < length s
unfolding closes
closes_some [] e = no_true e
closes_some (t ∷ s) e = omega arith

-- vectors one after the other: i of them stand before r
module _ (ts : List ℕ) (n i : ℕ) (r : List ℕ) (so : vectors n ts ≡ lead (vector_numbers i ts) (vectors (n - i) r)) (past : drop (8 * i) ts ≡ r) (fits : 8 * i + length r ≡ length ts) where
  module _ (left : i < n) where
    count : n - i ≡ suc (n - (i + 1))
    count = omega arith

    pub vectors_halt : missing ≡ numbers vector_token 0 last_number r → vectors n ts ≡ missing
    vectors_halt e =
        let a : vectors (n - i) r ≡ missing = rw count (vectors_none (n - (i + 1)) r e) in
        so ∙ ap (lead (vector_numbers i ts)) a

    module _ (v q : List ℕ) (is : part v q ≡ numbers vector_token 0 last_number r) where
      pub vectors_uneven : (length v ≡ 6 → ⊥) → vectors n ts ≡ missing
      vectors_uneven e =
          let a : vectors (n - i) r ≡ missing = rw count (vectors_off (n - (i + 1)) r _ _ is e) in
          so ∙ ap (lead (vector_numbers i ts)) a

      pub vectors_turn : length v ≡ 6 → (vectors n ts ≡ lead (vector_numbers (i + 1) ts) (vectors (n - (i + 1)) q)) × (drop (8 * (i + 1)) ts ≡ q) × (8 * (i + 1) + length q ≡ length ts)
      vectors_turn e =
          let a : vectors (n - i) r ≡ lead v (vectors (n - (i + 1)) q) = rw count (vectors_six (n - (i + 1)) r _ _ is e) in
          let w : r ≡ form vector_token v q = (numbers_sole vector_token 0 last_number r v q (sym is)).0 in
          let z : 1 + 8 * i ≡ 8 * i + 1 = omega arith in
          let d : drop (8 * i + 1) ts ≡ v ++ (close_token ∷ q) = sym (drop-drop 1 (8 * i) ts) ∙ ap (drop 1) (past ∙ w) in
          let six : take 6 (drop (8 * i + 1) ts) ≡ v = ap (take 6) d ∙ take_at v (close_token ∷ q) 6 e in
          let y : 8 * i + 8 ≡ 8 * (i + 1) = omega arith in
          let b : vector_numbers (i + 1) ts ≡ vector_numbers i ts ++ v =
          ap (λ (j : ℕ). vector_numbers j ts) (add-one i) ∙ vector_numbers_suc i ts ∙ ap (λ (l : List ℕ). vector_numbers i ts ++ l) six in
          let behind : drop 7 (v ++ (close_token ∷ q)) ≡ q = ap (drop 7) (sym (append_assoc v (close_token ∷ []) q)) ∙ drop_at (v ++ (close_token ∷ [])) q 7 (length-append v (close_token ∷ []) ∙ ap (λ (j : ℕ). j + 1) e) in
          let long : length r ≡ suc (length v + suc (length q)) = ap length w ∙ ap suc (length-append v (close_token ∷ q)) in
          (so ∙ ap (lead (vector_numbers i ts)) a ∙ lead_lead (vector_numbers i ts) v (vectors (n - (i + 1)) q) ∙ rw b refl, ap (λ (j : ℕ). drop j ts) (sym y) ∙ sym (drop-drop 8 (8 * i) ts) ∙ ap (drop 8) (past ∙ w) ∙ behind, omega arith)

  module _ (all : i ≡ n) where
    last : (b : Bool) → closes r ≡ b → (cond b (part (vector_numbers n ts) []) missing ≡ vectors n ts) × cond b (8 * n < length ts) (Unit {0})
    unfolding vectors
    last true e =
        let z : n - i ≡ 0 = omega arith in
        let k = closes_some r e in
        (sym (so ∙ rw (z, vectors, e, all) (ap (λ (l : List ℕ). part l []) (append-nil (vector_numbers n ts)))), omega arith)
    last false e =
        let z : n - i ≡ 0 = omega arith in
        (sym (so ∙ rw (z, vectors, e)), tt)

    pub vectors_last : (b : Bool) → closes r ≡ b → Stands ts n b
    vectors_last b e = let l = last b e in record { shown = l.0; within = l.1 }

pub vectors_start : (ts : List ℕ) (n : ℕ) → vectors n ts ≡ lead (vector_numbers 0 ts) (vectors (n - 0) ts)
unfolding vector_numbers
vectors_start ts n = let z : n - 0 ≡ n = omega arith in rw z (sym (lead_nil (vectors n ts)))

-- ---- a channel by its cases
pub channel_empty : (ts : List Token) → length ts ≡ 0 → channel_from (numbers_of ts) ≡ none
unfolding channel_from
channel_empty [] e = refl
channel_empty (t ∷ ts) e = absurd (omega arith)

module _ (ts : List Token) (t : Token) (us : List Token) (is : ts ≡ t ∷ us) where
  pub channel_other : eqb (number_of t) channel_token ≡ false → channel_from (numbers_of ts) ≡ none
  unfolding channel_from
  channel_other e = ap (λ (l : List Token). channel_from (numbers_of l)) is ∙ rw e

  pub channel_named : eqb (number_of t) channel_token ≡ true → channel_from (numbers_of ts) ≡ on_bins (numbers bins_token largest last_number (numbers_of us))
  unfolding channel_from
  channel_named e = ap (λ (l : List Token). channel_from (numbers_of l)) is ∙ rw e

-- every number of a list lies between the ends of a range
pub all_number : (low high : ℕ) (xs : List Token) (i : ℕ) (d : Token) → AllIn low high (numbers_of xs) → i < length xs → (low ≤ number_of (get_or xs i d)) × (number_of (get_or xs i d) ≤ high)
unfolding AllIn
all_number low high [] i d a h = absurd (omega arith)
all_number low high (x ∷ xs) zero d a h = (a.0, a.1)
all_number low high (x ∷ xs) (suc i) d a h = all_number low high xs i d a.2 (omega arith)

-- what is to be seen, once the bins are read
module _ (there : TextChannel) (p : Part) (so : there ≡ on_bins p) where
  pub check_no_bins : missing ≡ p → there ≡ none
  check_no_bins e = so ∙ ap on_bins (sym e)

  module _ (bins : List Token) (r : List ℕ) (is : part (numbers_of bins) r ≡ p) where
    pub check_uneven : (length bins ≡ 2 → ⊥) → there ≡ none
    check_uneven n = so ∙ ap on_bins (sym is) ∙ rw (ne_eqb (length (numbers_of bins)) 2 (λ e. n (sym (length-map bins number_of) ∙ e)))

    pub check_bins : length bins ≡ 2 → (d : Token) → there ≡ on_row (number_of (get_or bins 0 d) - largest) (number_of (get_or bins 1 d) - largest) (numbers row_token largest (largest + 255) r)
    check_bins e d = so ∙ ap on_bins (sym is) ∙ go bins e
      where
        go : (xs : List Token) → length xs ≡ 2 → on_bins (part (numbers_of xs) r) ≡ on_row (number_of (get_or xs 0 d) - largest) (number_of (get_or xs 1 d) - largest) (numbers row_token largest (largest + 255) r)
        go [] f = absurd (omega arith)
        go (x ∷ []) f = absurd (omega arith)
        go (x ∷ y ∷ []) f = refl
        go (x ∷ y ∷ z ∷ xs) f = absurd (omega arith)

-- and the row
module _ (there : TextChannel) (a b : ℕ) (p : Part) (so : there ≡ on_row a b p) where
  pub check_no_row : missing ≡ p → there ≡ none
  check_no_row e = so ∙ ap (on_row a b) (sym e)

  module _ (row : List Token) (r : List ℕ) (is : part (numbers_of row) r ≡ p) where
    count_is : length (numbers_of row) ≡ length row
    count_is = length-map row number_of

    pub check_long : 256 < length row → there ≡ none
    check_long h = so ∙ ap (on_row a b) (sym is) ∙ rw (count_is, lt-leb (length row) 256 h)

    pub check_rest : length row ≤ 256 → (q : Part) → q ≡ vectors (length row) r → there ≡ on_vectors a b (map (λ t. t - largest) (numbers_of row)) q
    check_rest h q e = so ∙ ap (on_row a b) (sym is) ∙ rw (count_is, le-leb (length row) 256 h, ← e)
