-- A channel's tokens are read as the channel, and only these. Assumes nothing.
use Prim.Native.Nat.{ℕ, zero, suc, ◌+◌, ◌-◌, ◌*◌, ◌≤◌, ◌<◌}
use mathlib.Core.Path.{◌≡◌, refl, sym, ap, ◌∙◌, subst}
use mathlib.Core.List.{List, [], ◌∷◌, ◌++◌, map}
use mathlib.Core.Bool.{Bool, true, false, cond}
use native.Mathlib.Omega.{arith}
use lib.ListN.{get_or, length, take, drop, length-map, length-drop, length-append, take-append-drop}
use lib.Seq.{length-take-le, take_at, drop_at}
use lib.Dec.{leb, eqb}
use borrow.Author.Tests.{le-leb, eq-eqb, ne_eqb, eqb-true, leb-true}
use Rattle.desktext.specs.Spelling.{largest, last_number, channel_token, bins_token, row_token, vector_token, close_token}
use Rattle.desktext.specs.Printed.{AllIn, form, vector_forms, channel_tokens, InLimits}
use Rattle.desktext.specs.Channel.{Part, part, missing, lead, items, numbers, on_vector, vectors, closes, channel, none, on_vectors, on_row, on_bins, channel_from}
use Rattle.desktext.proofs.Laws.{no_true}

no_part : {A : Type 0} (xs r : List ℕ) → missing ≡ part xs r → A
no_part xs r e = absurd (let z : ◌≡◌ {A = ℕ} 0 1 = cc in omega arith)

items_back : (low high : ℕ) (xs r : List ℕ) → high < close_token → AllIn low high xs → items low high (xs ++ (close_token ∷ r)) ≡ part xs r
unfolding items AllIn
items_back low high [] r h a = refl
items_back low high (x ∷ xs) r h a =
    let l = a.1 in
    rw (ne_eqb x close_token (λ e. omega arith), le-leb low x a.0, le-leb x high a.1) (ap (lead (x ∷ [])) (items_back low high xs r h a.2))

-- what leads the numbers of a form
follows : (v : List ℕ) (p : Part) (xs r : List ℕ) → lead v p ≡ part xs r → (ys : List ℕ) × (p ≡ part ys r) × (xs ≡ v ++ ys)
follows v (part ys q) xs r e = let a : v ++ ys ≡ xs = cc in let b : q ≡ r = cc in (ys, ap (part ys) b, sym a)
follows v missing xs r e = no_part xs r e

items_sole : (low high : ℕ) (ts xs r : List ℕ) → items low high ts ≡ part xs r → (ts ≡ xs ++ (close_token ∷ r)) × AllIn low high xs
unfolding items AllIn
items_sole low high [] xs r e = no_part xs r e
items_sole low high (t ∷ ts) xs r e = go (eqb t close_token) (leb low t) (leb t high) refl refl refl e (λ ys f. items_sole low high ts ys r f)
  where
    same : (ys : List ℕ) → xs ≡ ys → (t ∷ ts ≡ ys ++ (close_token ∷ r)) × AllIn low high ys → (t ∷ ts ≡ xs ++ (close_token ∷ r)) × AllIn low high xs
    same ys i k = subst (λ (l : List ℕ). (t ∷ ts ≡ l ++ (close_token ∷ r)) × AllIn low high l) (sym i) k

    go : (x y z : Bool) → eqb t close_token ≡ x → leb low t ≡ y → leb t high ≡ z → cond x (part [] ts) (cond y (cond z (lead (t ∷ []) (items low high ts)) missing) missing) ≡ part xs r
        → ((ys : List ℕ) → items low high ts ≡ part ys r → (ts ≡ ys ++ (close_token ∷ r)) × AllIn low high ys) → (t ∷ ts ≡ xs ++ (close_token ∷ r)) × AllIn low high xs
    go true y z f g h k more =
        let a : t ≡ close_token = eqb-true _ _ f in
        let b : [] ≡ xs = cc in
        let c : ts ≡ r = cc in
        same [] (sym b) (cc, tt)
    go false false z f g h k more = no_part xs r k
    go false true false f g h k more = no_part xs r k
    go false true true f g h k more =
        let n = follows (t ∷ []) (items low high ts) xs r k in
        let m = more n.0 n.1 in
        same (t ∷ n.0) n.2 (ap (λ (l : List ℕ). t ∷ l) m.0, (leb-true _ _ g, leb-true _ _ h, m.1))

numbers_back : (name low high : ℕ) (xs r : List ℕ) → high < close_token → AllIn low high xs → numbers name low high (form name xs r) ≡ part xs r
unfolding numbers
numbers_back name low high xs r h a = rw (eq-eqb name name refl) (items_back low high xs r h a)

pub numbers_sole : (name low high : ℕ) (ts xs r : List ℕ) → numbers name low high ts ≡ part xs r → (ts ≡ form name xs r) × AllIn low high xs
unfolding numbers
numbers_sole name low high [] xs r e = no_part xs r e
numbers_sole name low high (t ∷ ts) xs r e = go (eqb t name) refl e
  where
    go : (b : Bool) → eqb t name ≡ b → cond b (items low high ts) missing ≡ part xs r → (t ∷ ts ≡ form name xs r) × AllIn low high xs
    go true f g = let a : t ≡ name = eqb-true _ _ f in let n = items_sole low high ts xs r g in let i = n.0 in (cc, n.1)
    go false f g = no_part xs r g

pub all_take : (low high n : ℕ) (xs : List ℕ) → AllIn low high xs → AllIn low high (take n xs)
unfolding AllIn
all_take low high zero xs a = tt
all_take low high (suc n) [] a = tt
all_take low high (suc n) (x ∷ xs) a = (a.0, a.1, all_take low high n xs a.2)

pub all_drop : (low high n : ℕ) (xs : List ℕ) → AllIn low high xs → AllIn low high (drop n xs)
unfolding AllIn
all_drop low high zero xs a = a
all_drop low high (suc n) [] a = tt
all_drop low high (suc n) (x ∷ xs) a = all_drop low high n xs a.2

pub all_at : (low high : ℕ) (xs : List ℕ) (i : ℕ) → AllIn low high xs → i < length xs → (low ≤ get_or xs i 0) × (get_or xs i 0 ≤ high)
unfolding AllIn
all_at low high [] i a h = absurd (omega arith)
all_at low high (x ∷ xs) zero a h = (a.0, a.1)
all_at low high (x ∷ xs) (suc i) a h = all_at low high xs i a.2 (omega arith)

vectors_back : (n : ℕ) (vs : List ℕ) → length vs ≡ 6 * n → AllIn 0 last_number vs → vectors n (vector_forms n vs) ≡ part vs []
unfolding vectors vector_forms closes
vectors_back zero [] e a = refl
vectors_back zero (v ∷ vs) e a = absurd (omega arith)
vectors_back (suc n) vs e a =
    let l : length (take 6 vs) ≡ 6 = length-take-le 6 vs (omega arith) in
    let d : length (drop 6 vs) ≡ 6 * n = omega (arith, length-drop 6 vs) in
    let p : numbers vector_token 0 last_number (form vector_token (take 6 vs) (vector_forms n (drop 6 vs))) ≡ part (take 6 vs) (vector_forms n (drop 6 vs)) =
    numbers_back vector_token 0 last_number (take 6 vs) (vector_forms n (drop 6 vs)) (omega arith) (all_take 0 last_number 6 vs a) in
    let q : vectors n (vector_forms n (drop 6 vs)) ≡ part (drop 6 vs) [] = vectors_back n (drop 6 vs) d (all_drop 0 last_number 6 vs a) in
    ap (on_vector (vectors n)) p ∙ rw (eq-eqb (length (take 6 vs)) 6 l) (ap (lead (take 6 vs)) q ∙ ap (λ (x : List ℕ). part x []) (take-append-drop 6 vs))

closes_sole : (ts : List ℕ) → closes ts ≡ true → ts ≡ close_token ∷ []
unfolding closes
closes_sole [] e = no_true e
closes_sole (t ∷ []) e = let a : t ≡ close_token = eqb-true _ _ e in ap (λ (k : ℕ). k ∷ []) a
closes_sole (t ∷ u ∷ ts) e = no_true e

all_join : (low high : ℕ) (xs ys : List ℕ) → AllIn low high xs → AllIn low high ys → AllIn low high (xs ++ ys)
unfolding AllIn
all_join low high [] ys a b = b
all_join low high (x ∷ xs) ys a b = (a.0, a.1, all_join low high xs ys a.2 b)

abbrev pub Vectors : ℕ → List ℕ → List ℕ → List ℕ → Type 0
Vectors n ts vs r = (ts ≡ vector_forms n vs) × (r ≡ []) × (length vs ≡ 6 * n) × AllIn 0 last_number vs

vector_sole : (n : ℕ) (ts v q ys r vs : List ℕ) → ts ≡ form vector_token v q → length v ≡ 6 → AllIn 0 last_number v → Vectors n q ys r → vs ≡ v ++ ys → Vectors (suc n) ts vs r
unfolding vector_forms
vector_sole n ts v q ys r vs e l a m f =
    let t : take 6 vs ≡ v = ap (take 6) f ∙ take_at v ys 6 l in
    let d : drop 6 vs ≡ ys = ap (drop 6) f ∙ drop_at v ys 6 l in
    let g : form vector_token v q ≡ form vector_token (take 6 vs) (vector_forms n (drop 6 vs)) = rw (t, d, m.0) in
    let k : length vs ≡ length v + length ys = ap length f ∙ length-append v ys in
    let i = m.2 in
    (e ∙ g, m.1, omega arith, subst (λ (x : List ℕ). AllIn 0 last_number x) (sym f) (all_join 0 last_number v ys a m.3))

pub vectors_sole : (n : ℕ) (ts vs r : List ℕ) → vectors n ts ≡ part vs r → Vectors n ts vs r
unfolding vectors vector_forms AllIn
vectors_sole zero ts vs r e = go (closes ts) refl e
  where
    go : (b : Bool) → closes ts ≡ b → cond b (part [] []) missing ≡ part vs r → (ts ≡ close_token ∷ []) × (r ≡ []) × (length vs ≡ 0) × AllIn 0 last_number vs
    go true f g =
        let a : [] ≡ vs = cc in
        let b : [] ≡ r = cc in
        (closes_sole ts f, sym b, ap length (sym a), subst (λ (x : List ℕ). AllIn 0 last_number x) a tt)
    go false f g = no_part vs r g
vectors_sole (suc n) ts vs r e = go (numbers vector_token 0 last_number ts) refl e (λ q ys f. vectors_sole n q ys r f)
  where
    go : (x : Part) → numbers vector_token 0 last_number ts ≡ x → on_vector (vectors n) x ≡ part vs r → ((q ys : List ℕ) → vectors n q ≡ part ys r → Vectors n q ys r) → Vectors (suc n) ts vs r
    go missing f g more = no_part vs r g
    go (part v q) f g more = six (eqb (length v) 6) refl g
      where
        six : (b : Bool) → eqb (length v) 6 ≡ b → cond b (lead v (vectors n q)) missing ≡ part vs r → Vectors (suc n) ts vs r
        six true h k =
            let w = numbers_sole vector_token 0 last_number ts v q f in
            let y = follows v (vectors n q) vs r k in
            vector_sole n ts v q y.0 r vs w.0 (eqb-true _ _ h) w.1 (more q y.0 y.1) y.2
        six false h k = no_part vs r k

-- the row's numbers and their tokens
pub row_all : (row : List ℕ) → AllIn 0 255 row → AllIn largest (largest + 255) (map (λ k. largest + k) row)
unfolding AllIn
row_all [] a = tt
row_all (x ∷ row) a = let h = a.1 in (omega arith, omega arith, row_all row a.2)

row_back : (row : List ℕ) → map (λ t. t - largest) (map (λ k. largest + k) row) ≡ row
row_back [] = refl
row_back (x ∷ row) = let e : largest + x - largest ≡ x = omega arith in cc (e, row_back row)

row_sole : (ts : List ℕ) → AllIn largest (largest + 255) ts → (map (λ k. largest + k) (map (λ t. t - largest) ts) ≡ ts) × AllIn 0 255 (map (λ t. t - largest) ts)
unfolding AllIn
row_sole [] a = (refl, tt)
row_sole (t ∷ ts) a =
    let h = a.0 in
    let i = a.1 in
    let e : largest + (t - largest) ≡ t = omega arith in
    let n = row_sole ts a.2 in
    let f = n.0 in
    (cc, (omega arith, omega arith, n.1))

pub channel_back : (a b : ℕ) (row vs : List ℕ) → InLimits a b row vs → channel_from (channel_tokens a b row vs) ≡ channel a b row vs
unfolding channel_from channel_tokens AllIn
channel_back a b row vs ok =
    let f = ok.start in
    let l = ok.end in
    let R : List ℕ = form row_token (map (λ k. largest + k) row) (vector_forms (length row) vs) in
    let x : numbers bins_token largest last_number (form bins_token ((largest + a) ∷ (largest + b) ∷ []) R) ≡ part ((largest + a) ∷ (largest + b) ∷ []) R =
    numbers_back bins_token largest last_number ((largest + a) ∷ (largest + b) ∷ []) R (omega arith) (omega arith, omega arith, (omega arith, omega arith, tt)) in
    let y : numbers row_token largest (largest + 255) R ≡ part (map (λ k. largest + k) row) (vector_forms (length row) vs) =
    numbers_back row_token largest (largest + 255) (map (λ k. largest + k) row) (vector_forms (length row) vs) (omega arith) (row_all row ok.bytes) in
    let z : vectors (length row) (vector_forms (length row) vs) ≡ part vs [] = vectors_back (length row) vs ok.six ok.numbers in
    let n : length (map (λ k. largest + k) row) ≡ length row = length-map row (λ k. largest + k) in
    let p : largest + a - largest ≡ a = omega arith in
    let q : largest + b - largest ≡ b = omega arith in
    ap on_bins x ∙ ap (on_row (largest + a - largest) (largest + b - largest)) y ∙ rw (n, le-leb (length row) 256 ok.few, z, row_back row, p, q)

pub no_channel_lem : {A : Type 0} (a b : ℕ) (row vs : List ℕ) → none ≡ channel a b row vs → A
no_channel_lem a b row vs e = absurd (let z : ◌≡◌ {A = ℕ} 0 1 = cc in omega arith)

pub record RowThen (R : List ℕ) (row vs : List ℕ) : Type 0 where
  pub is : R ≡ form row_token (map (λ k. largest + k) row) (vector_forms (length row) vs)
  pub few : length row ≤ 256
  pub bytes : AllIn 0 255 row
  pub six : length vs ≡ 6 * length row
  pub numbers : AllIn 0 last_number vs

row_from : (R ts q ws : List ℕ) → R ≡ form row_token ts q → AllIn largest (largest + 255) ts → Vectors (length ts) q ws [] → length ts ≤ 256 → RowThen R (map (λ t. t - largest) ts) ws
row_from R ts q ws e a v l =
    let s = row_sole ts a in
    let n : length (map (λ t. t - largest) ts) ≡ length ts = length-map ts (λ t. t - largest) in
    let i = v.2 in
    record {
      is = e ∙ rw (s.0, n, v.0);
      few = omega arith;
      bytes = s.1;
      six = omega arith;
      numbers = v.3;
    }

row_then : (x y : ℕ) (R : List ℕ) (a b : ℕ) (row vs : List ℕ) → on_row x y (numbers row_token largest (largest + 255) R) ≡ channel a b row vs → (x ≡ a) × (y ≡ b) × RowThen R row vs
row_then x y R a b row vs e = go (numbers row_token largest (largest + 255) R) refl e
  where
    go : (p : Part) → numbers row_token largest (largest + 255) R ≡ p → on_row x y p ≡ channel a b row vs → (x ≡ a) × (y ≡ b) × RowThen R row vs
    go missing f g = no_channel_lem a b row vs g
    go (part ts q) f g = few (leb (length ts) 256) refl g
      where
        few : (c : Bool) → leb (length ts) 256 ≡ c → cond c (on_vectors x y (map (λ t. t - largest) ts) (vectors (length ts) q)) none ≡ channel a b row vs → (x ≡ a) × (y ≡ b) × RowThen R row vs
        few false h k = no_channel_lem a b row vs k
        few true h k = all (vectors (length ts) q) refl k
          where
            all : (p : Part) → vectors (length ts) q ≡ p → on_vectors x y (map (λ t. t - largest) ts) p ≡ channel a b row vs → (x ≡ a) × (y ≡ b) × RowThen R row vs
            all missing i j = no_channel_lem a b row vs j
            all (part ws r) i j =
                let u : x ≡ a = cc in
                let v : y ≡ b = cc in
                let s : map (λ t. t - largest) ts ≡ row = cc in
                let t : ws ≡ vs = cc in
                let m = numbers_sole row_token largest (largest + 255) R ts q f in
                let n = vectors_sole (length ts) q ws r i in
                let w : RowThen R (map (λ t. t - largest) ts) ws = row_from R ts q ws m.0 m.1 (n.0, refl, n.2, n.3) (leb-true _ _ h) in
                (u, v, subst (λ (l : List ℕ). RowThen R l vs) s (subst (λ (l : List ℕ). RowThen R (map (λ t. t - largest) ts) l) t w))

abbrev pub Sole : List ℕ → ℕ → ℕ → List ℕ → List ℕ → Type 0
Sole ts a b row vs = (ts ≡ channel_tokens a b row vs) × InLimits a b row vs

bins_then : (ts ab R : List ℕ) (a b : ℕ) (row vs : List ℕ) → ts ≡ channel_token ∷ form bins_token ab R → AllIn largest last_number ab
    → on_bins (part ab R) ≡ channel a b row vs → Sole ts a b row vs
unfolding AllIn channel_tokens
bins_then ts [] R a b row vs e i g = no_channel_lem a b row vs g
bins_then ts (x ∷ []) R a b row vs e i g = no_channel_lem a b row vs g
bins_then ts (x ∷ y ∷ []) R a b row vs e i g =
    let n = row_then (x - largest) (y - largest) R a b row vs g in
    let r = n.2 in
    let u = n.0 in
    let v = n.1 in
    let x0 = i.0 in
    let x1 = i.1 in
    let y0 = i.2.0 in
    let y1 = i.2.1 in
    let p : x ≡ largest + a = omega arith in
    let q : y ≡ largest + b = omega arith in
    let z : channel_token ∷ form bins_token (x ∷ y ∷ []) R ≡ channel_token ∷ form bins_token ((largest + a) ∷ (largest + b) ∷ []) (form row_token (map (λ k. largest + k) row) (vector_forms (length row) vs)) =
    cc (p, q, r.is) in
    (e ∙ z, record { start = omega arith; end = omega arith; few = r.few; bytes = r.bytes; six = r.six; numbers = r.numbers })
bins_then ts (x ∷ y ∷ z ∷ w) R a b row vs e i g = no_channel_lem a b row vs (three g)
  where
    three : cond (eqb (suc (suc (suc (length w)))) 2) (on_row (x - largest) (y - largest) (numbers row_token largest (largest + 255) R)) none ≡ channel a b row vs → none ≡ channel a b row vs
    three h = rw (ne_eqb (suc (suc (suc (length w)))) 2 (λ k. omega arith)) at h

pub channel_sole : (ts : List ℕ) (a b : ℕ) (row vs : List ℕ) → channel_from ts ≡ channel a b row vs → Sole ts a b row vs
unfolding channel_from
channel_sole [] a b row vs e = no_channel_lem a b row vs e
channel_sole (t ∷ ts) a b row vs e = go (eqb t channel_token) refl e
  where
    part_of : (p : Part) → numbers bins_token largest last_number ts ≡ p → t ≡ channel_token → on_bins p ≡ channel a b row vs → Sole (t ∷ ts) a b row vs
    part_of missing f h g = no_channel_lem a b row vs g
    part_of (part ab R) f h g =
        let n = numbers_sole bins_token largest last_number ts ab R f in
        let i = n.0 in
        bins_then (t ∷ ts) ab R a b row vs (cc) n.1 g

    go : (c : Bool) → eqb t channel_token ≡ c → cond c (on_bins (numbers bins_token largest last_number ts)) none ≡ channel a b row vs → Sole (t ∷ ts) a b row vs
    go true f g = part_of (numbers bins_token largest last_number ts) refl (eqb-true _ _ f) g
    go false f g = no_channel_lem a b row vs g
