-- What is read was so spelled. Assumes nothing.
use Prim.Native.Nat.{ℕ, zero, suc, ◌+◌, ◌-◌, ◌*◌, ◌≤◌, ◌<◌}
use mathlib.Core.Path.{◌≡◌, refl, sym, ap, ◌∙◌, subst}
use mathlib.Core.List.{List, [], ◌∷◌, ◌++◌}
use mathlib.Core.Bool.{Bool, true, false, cond}
use mathlib.Core.Logic.{◌⊎◌, inl, inr, ⊎_elim}
use native.Mathlib.Omega.{arith}
use lib.ListN.{length, drop}
use lib.Arith.{lt_of_le-ne}
use lib.Dec.{leb, eqb}
use borrow.Author.Tests.{eqb-true, eqb-false, leb-true}
use Rattle.plantext.specs.PlanText.{decimal_value}
use Rattle.desktext.specs.Spelling.{largest, last_number, close_token, channel_token, bins_token, row_token, vector_token, channel_word, bins_word, row_word, vector_word, AllDigits, Digits, Word, plain, minus, channel_name, bins_name, row_name, vector_name, Spelt, end, end_line, close, close_line, space, line, TextOf, text}
use Rattle.desktext.specs.Text.{Seen, seen, unseen, or_else, leads, named, digits, natural, above, below, number_seen, item_head, bracket, closing, ReadText, got, malformed, after, ending, on_item, on_close, step, rest, on_name, tokens}
use Rattle.desktext.proofs.Laws.{no_true}

no_seen : {A : Type 0} (t : ℕ) (r : List ℕ) → unseen ≡ seen t r → A
no_seen t r e = absurd (let z : ◌≡◌ {A = ℕ} 0 1 = cc in omega arith)

no_got : {A : Type 0} (ts : List ℕ) → malformed ≡ got ts → A
no_got ts e = absurd (let z : ◌≡◌ {A = ℕ} 0 1 = cc in omega arith)

bracket_spelt : (s : List ℕ) (t : ℕ) (r : List ℕ) → bracket s ≡ seen t r → (t ≡ close_token) × (s ≡ 41 ∷ r)
unfolding bracket
bracket_spelt [] t r e = no_seen t r e
bracket_spelt (b ∷ s) t r e = go (eqb b 41) refl e
  where
    go : (x : Bool) → eqb b 41 ≡ x → cond x (seen close_token s) unseen ≡ seen t r → (t ≡ close_token) × (b ∷ s ≡ 41 ∷ r)
    go true f g = let h : b ≡ 41 = eqb-true _ _ f in (cc, cc)
    go false f g = no_seen t r g

closing_spelt : (s : List ℕ) (t : ℕ) (r : List ℕ) → closing s ≡ seen t r → (t ≡ close_token) × ((s ≡ 41 ∷ r) ⊎ (s ≡ 10 ∷ 41 ∷ r))
unfolding closing
closing_spelt [] t r e = no_seen t r e
closing_spelt (b ∷ s) t r e = go (eqb b 10) refl e
  where
    go : (x : Bool) → eqb b 10 ≡ x → cond x (bracket s) (bracket (b ∷ s)) ≡ seen t r → (t ≡ close_token) × ((b ∷ s ≡ 41 ∷ r) ⊎ (b ∷ s ≡ 10 ∷ 41 ∷ r))
    go true f g = let h : b ≡ 10 = eqb-true _ _ f in let k = bracket_spelt s t r g in let i = k.1 in (k.0, inr (cc))
    go false f g = let k = bracket_spelt (b ∷ s) t r g in (k.0, inl k.1)

digits_spelt : (v : ℕ) (s : List ℕ) (m : ℕ) (r : List ℕ) → v ≤ largest → digits v s ≡ seen m r
    → (ds : List ℕ) × (s ≡ ds ++ r) × AllDigits ds × (m ≡ decimal_value v ds) × (m ≤ largest)
unfolding digits AllDigits decimal_value
digits_spelt v [] m r h e = let a : v ≡ m = cc in let b : [] ≡ r = cc in ([], b, tt, sym a, omega arith)
digits_spelt v (b ∷ s) m r h e = go (leb 48 b) (leb b 57) (leb (v * 10 + (b - 48)) largest) refl refl refl e (digits_spelt (v * 10 + (b - 48)) s m r)
  where
    go : (x y z : Bool) → leb 48 b ≡ x → leb b 57 ≡ y → leb (v * 10 + (b - 48)) largest ≡ z
        → cond (cond x y false) (cond z (digits (v * 10 + (b - 48)) s) unseen) (seen v (b ∷ s)) ≡ seen m r
        → (v * 10 + (b - 48) ≤ largest → digits (v * 10 + (b - 48)) s ≡ seen m r → (ds : List ℕ) × (s ≡ ds ++ r) × AllDigits ds × (m ≡ decimal_value (v * 10 + (b - 48)) ds) × (m ≤ largest))
        → (ds : List ℕ) × (b ∷ s ≡ ds ++ r) × AllDigits ds × (m ≡ decimal_value v ds) × (m ≤ largest)
    go true true true f g i k more = let n = more (leb-true _ _ i) k in (b ∷ n.0, ap (λ (l : List ℕ). b ∷ l) n.1, (leb-true _ _ f, leb-true _ _ g, n.2), n.3, n.4)
    go true true false f g i k more = no_seen m r k
    go true false z f g i k more = let a : v ≡ m = cc in let c : b ∷ s ≡ r = cc in ([], c, tt, sym a, omega arith)
    go false y z f g i k more = let a : v ≡ m = cc in let c : b ∷ s ≡ r = cc in ([], c, tt, sym a, omega arith)

natural_spelt : (s : List ℕ) (m : ℕ) (r : List ℕ) → natural s ≡ seen m r → (w : List ℕ) × (s ≡ w ++ r) × Digits m w
unfolding natural Digits
natural_spelt [] m r e = no_seen m r e
natural_spelt (b ∷ s) m r e = go (eqb b 48) (leb 48 b) (leb b 57) refl refl refl e
  where
    go : (x y z : Bool) → eqb b 48 ≡ x → leb 48 b ≡ y → leb b 57 ≡ z → cond x (seen 0 s) (cond (cond y z false) (digits (b - 48) s) unseen) ≡ seen m r
        → (w : List ℕ) × (b ∷ s ≡ w ++ r) × Digits m w
    go true y z f g h k =
        let a : b ≡ 48 = eqb-true _ _ f in
        let c : 0 ≡ m = cc in
        let d : s ≡ r = cc in
        (b ∷ [], ap (λ (l : List ℕ). b ∷ l) d, inl (a, refl, sym c))
    go false true true f g h k =
        let a : 48 < b = lt_of_le-ne (leb-true _ _ g) (λ i. eqb-false _ _ f (sym i)) in
        let c : b ≤ 57 = leb-true _ _ h in
        let n = digits_spelt (b - 48) s m r (omega arith) k in
        (b ∷ n.0, ap (λ (l : List ℕ). b ∷ l) n.1, inr (a, c, n.2, n.3, n.4))
    go false true false f g h k = no_seen m r k
    go false false z f g h k = no_seen m r k

number_spelt : (s : List ℕ) (t : ℕ) (r : List ℕ) → number_seen s ≡ seen t r → (w : List ℕ) × (s ≡ w ++ r) × Word t w
unfolding number_seen
number_spelt [] t r e = no_seen t r e
number_spelt (b ∷ s) t r e = go (eqb b 45) refl e
  where
    up : (x : Seen) → natural (b ∷ s) ≡ x → above x ≡ seen t r → (w : List ℕ) × (b ∷ s ≡ w ++ r) × Word t w
    up unseen f g = no_seen t r g
    up (seen m q) f g =
        let a : largest + m ≡ t = cc in
        let c : q ≡ r = cc in
        let n = natural_spelt (b ∷ s) m q f in
        (n.0, n.1 ∙ ap (λ (l : List ℕ). n.0 ++ l) c, plain m (sym a) n.2)

    down : (x : Seen) → natural s ≡ x → b ≡ 45 → below x ≡ seen t r → (w : List ℕ) × (b ∷ s ≡ w ++ r) × Word t w
    down unseen f h g = no_seen t r g
    down (seen m q) f h g = zero_or (eqb m 0) refl g
      where
        zero_or : (y : Bool) → eqb m 0 ≡ y → cond y unseen (seen (largest - m) q) ≡ seen t r → (w : List ℕ) × (b ∷ s ≡ w ++ r) × Word t w
        zero_or true i k = no_seen t r k
        zero_or false i k =
            let a : largest - m ≡ t = cc in
            let c : q ≡ r = cc in
            let n = natural_spelt s m q f in
            let d : s ≡ n.0 ++ r = n.1 ∙ ap (λ (l : List ℕ). n.0 ++ l) c in
            (45 ∷ n.0, rw (h, ← d), minus m n.0 refl (sym a) (eqb-false _ _ i) n.2)

    go : (x : Bool) → eqb b 45 ≡ x → cond x (below (natural s)) (above (natural (b ∷ s))) ≡ seen t r → (w : List ℕ) × (b ∷ s ≡ w ++ r) × Word t w
    go true f g = down (natural s) refl (eqb-true _ _ f) g
    go false f g = up (natural (b ∷ s)) refl g

leads_spelt : (w s : List ℕ) → leads w s ≡ true → s ≡ w ++ drop (length w) s
unfolding leads
leads_spelt [] s e = refl
leads_spelt (x ∷ w) [] e = no_true e
leads_spelt (x ∷ w) (y ∷ s) e = go (eqb x y) refl (leads_spelt w s) e
  where
    go : (b : Bool) → eqb x y ≡ b → (leads w s ≡ true → s ≡ w ++ drop (length w) s) → cond b (leads w s) false ≡ true → y ∷ s ≡ x ∷ (w ++ drop (length w) s)
    go true f more g = let h : x ≡ y = eqb-true _ _ f in let i = more g in cc
    go false f more g = no_true g

pub named_spelt : (s : List ℕ) (t : ℕ) (r : List ℕ) → named s ≡ seen t r → (w : List ℕ) × (s ≡ w ++ r) × Word t w × (last_number < t)
unfolding named
named_spelt s t r e = go (leads channel_word s) (leads bins_word s) (leads row_word s) (leads vector_word s) refl refl refl refl e
  where
    found : (w : List ℕ) (k : ℕ) (q : List ℕ) → leads w s ≡ true → seen k (drop (length w) s) ≡ seen t r → (t ≡ k) × (s ≡ w ++ r)
    found w k q f g =
        let a : k ≡ t = cc in
        let c : drop (length w) s ≡ r = cc in
        (sym a, leads_spelt w s f ∙ ap (λ (l : List ℕ). w ++ l) c)

    go : (a b c d : Bool) → leads channel_word s ≡ a → leads bins_word s ≡ b → leads row_word s ≡ c → leads vector_word s ≡ d
        → cond a (seen channel_token (drop 8 s)) (cond b (seen bins_token (drop 5 s)) (cond c (seen row_token (drop 4 s)) (cond d (seen vector_token (drop 7 s)) unseen))) ≡ seen t r
        → (w : List ℕ) × (s ≡ w ++ r) × Word t w × (last_number < t)
    go true b c d f g h i k = let n = found channel_word channel_token [] f k in let m = n.0 in (channel_word, n.1, channel_name n.0 refl, omega arith)
    go false true c d f g h i k = let n = found bins_word bins_token [] g k in let m = n.0 in (bins_word, n.1, bins_name n.0 refl, omega arith)
    go false false true d f g h i k = let n = found row_word row_token [] h k in let m = n.0 in (row_word, n.1, row_name n.0 refl, omega arith)
    go false false false true f g h i k = let n = found vector_word vector_token [] i k in let m = n.0 in (vector_word, n.1, vector_name n.0 refl, omega arith)
    go false false false false f g h i k = no_seen t r k

word_spelt : (s : List ℕ) (t : ℕ) (r : List ℕ) → or_else (named s) (number_seen s) ≡ seen t r → (w : List ℕ) × (s ≡ w ++ r) × Word t w
word_spelt s t r e = go (named s) refl e
  where
    go : (x : Seen) → named s ≡ x → or_else x (number_seen s) ≡ seen t r → (w : List ℕ) × (s ≡ w ++ r) × Word t w
    go unseen f g = number_spelt s t r g
    go (seen u q) f g = let n = named_spelt s t r (f ∙ g) in (n.0, n.1, n.2)

pub item_spelt : (s : List ℕ) (t : ℕ) (r : List ℕ) → item_head s ≡ seen t r → (w : List ℕ) × ((s ≡ 32 ∷ (w ++ r)) ⊎ (s ≡ 10 ∷ (w ++ r))) × Word t w
unfolding item_head
item_spelt [] t r e = no_seen t r e
item_spelt (b ∷ s) t r e = go (eqb b 32) (eqb b 10) refl refl e
  where
    go : (x y : Bool) → eqb b 32 ≡ x → eqb b 10 ≡ y → cond x (or_else (named s) (number_seen s)) (cond y (or_else (named s) (number_seen s)) unseen) ≡ seen t r
        → (w : List ℕ) × ((b ∷ s ≡ 32 ∷ (w ++ r)) ⊎ (b ∷ s ≡ 10 ∷ (w ++ r))) × Word t w
    go true y f g k = let h : b ≡ 32 = eqb-true _ _ f in let n = word_spelt s t r k in let i = n.1 in (n.0, inl (cc), n.2)
    go false true f g k = let h : b ≡ 10 = eqb-true _ _ g in let n = word_spelt s t r k in let i = n.1 in (n.0, inr (cc), n.2)
    go false false f g k = no_seen t r k

ending_spelt : (s ts : List ℕ) → ending s ≡ got ts → Spelt ts s
unfolding ending
ending_spelt [] ts e = let a : [] ≡ ts = cc in rw (← a) end
ending_spelt (b ∷ []) ts e = go (eqb b 10) refl e
  where
    go : (x : Bool) → eqb b 10 ≡ x → cond x (got []) malformed ≡ got ts → Spelt ts (b ∷ [])
    go true f g = let a : [] ≡ ts = cc in let h : b ≡ 10 = eqb-true _ _ f in rw (← a, h) end_line
    go false f g = no_got ts g
ending_spelt (b ∷ c ∷ s) ts e = no_got ts e

-- the tokens of what follows t
follows : (t : ℕ) (g : ReadText) (ts : List ℕ) → after (t ∷ []) g ≡ got ts → (us : List ℕ) × (g ≡ got us) × (ts ≡ t ∷ us)
follows t (got us) ts e = let a : t ∷ us ≡ ts = cc in (us, refl, sym a)
follows t malformed ts e = no_got ts e

spelt_as : (ts us s r : List ℕ) → ts ≡ us → s ≡ r → Spelt us r → Spelt ts s
spelt_as ts us s r e f h = subst (λ (x : List ℕ). Spelt x s) (sym e) (subst (λ (x : List ℕ). Spelt us x) (sym f) h)

text_as : (ts us s r : List ℕ) → ts ≡ us → s ≡ r → TextOf us r → TextOf ts s
text_as ts us s r e f h = subst (λ (x : List ℕ). TextOf x s) (sym e) (subst (λ (x : List ℕ). TextOf us x) (sym f) h)

close_word : (t : ℕ) (s r ts us : List ℕ) → closing s ≡ seen t r → ts ≡ t ∷ us → Spelt us r → Spelt ts s
close_word t s r ts us e f more =
    let n = closing_spelt s t r e in
    let a : ts ≡ close_token ∷ us = f ∙ ap (λ (k : ℕ). k ∷ us) n.0 in
    ⊎_elim (λ i. spelt_as ts (close_token ∷ us) s (41 ∷ r) a i (close more)) (λ i. spelt_as ts (close_token ∷ us) s (10 ∷ 41 ∷ r) a i (close_line more)) n.1

item_word : (t : ℕ) (s r ts us : List ℕ) → item_head s ≡ seen t r → ts ≡ t ∷ us → Spelt us r → Spelt ts s
item_word t s r ts us e f more =
    let n = item_spelt s t r e in
    ⊎_elim (λ i. spelt_as ts (t ∷ us) s (32 ∷ (n.0 ++ r)) f i (space n.2 more)) (λ i. spelt_as ts (t ∷ us) s (10 ∷ (n.0 ++ r)) f i (line n.2 more)) n.1

step_spelt : (go : ℕ → List ℕ → ReadText) → ((k : ℕ) (r us : List ℕ) → go k r ≡ got us → Spelt us r) → (d : ℕ) (s ts : List ℕ) → step go d s ≡ got ts → Spelt ts s
unfolding step
step_spelt go more zero s ts e = ending_spelt s ts e
step_spelt go more (suc d) s ts e = shut (closing s) refl e
  where
    on : (x : Seen) → item_head s ≡ x → on_item go (suc d) x ≡ got ts → Spelt ts s
    on unseen f g = no_got ts g
    on (seen t r) f g = kind (leb t last_number) (leb 4 (suc d)) g
      where
        kind : (x y : Bool) → cond x (after (t ∷ []) (go (suc d) r)) (cond y malformed (after (t ∷ []) (go (suc (suc d)) r))) ≡ got ts → Spelt ts s
        kind true y k = let a = follows t (go (suc d) r) ts k in item_word t s r ts a.0 f a.2 (more (suc d) r a.0 a.1)
        kind false true k = no_got ts k
        kind false false k = let a = follows t (go (suc (suc d)) r) ts k in item_word t s r ts a.0 f a.2 (more (suc (suc d)) r a.0 a.1)

    shut : (x : Seen) → closing s ≡ x → on_close go d x (on_item go (suc d) (item_head s)) ≡ got ts → Spelt ts s
    shut (seen t r) f g = let a = follows t (go d r) ts g in close_word t s r ts a.0 f a.2 (more d r a.0 a.1)
    shut unseen f g = on (item_head s) refl g

rest_spelt : (n d : ℕ) (s ts : List ℕ) → rest n d s ≡ got ts → Spelt ts s
unfolding rest
rest_spelt zero d s ts e = no_got ts e
rest_spelt (suc n) d s ts e = step_spelt (rest n) (λ k r us f. rest_spelt n k r us f) d s ts e

pub tokens_spelt : (s ts : List ℕ) → tokens s ≡ got ts → TextOf ts s
unfolding tokens
tokens_spelt s ts e = go (named s) refl e
  where
    go : (x : Seen) → named s ≡ x → on_name (length s) x ≡ got ts → TextOf ts s
    go unseen f g = no_got ts g
    go (seen t r) f g =
        let a = follows t (rest (length s) 1 r) ts g in
        let n = named_spelt s t r f in
        text_as ts (t ∷ a.0) s (n.0 ++ r) a.2 n.1 (text n.2 (rest_spelt (length s) 1 r a.0 a.1))
