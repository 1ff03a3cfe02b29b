-- What is so spelled is read. Assumes nothing.
use Prim.Native.Nat.{ℕ, zero, suc, ◌+◌, ◌-◌, ◌*◌, ◌≤◌, ◌<◌}
use mathlib.Core.Path.{◌≡◌, refl, sym, ap, ◌∙◌}
use mathlib.Core.List.{List, [], ◌∷◌, ◌++◌}
use mathlib.Core.Bool.{Bool, true, false, cond}
use mathlib.Core.Logic.{⊎_elim}
use native.Mathlib.Omega.{arith}
use lib.ListN.{length, length-append}
use lib.Dec.{leb, eqb}
use borrow.Author.Tests.{le-leb, eq-eqb, ne_eqb, leb-true, leb-false}
use Rattle.plantext.specs.PlanText.{decimal_value}
use Rattle.desktext.specs.Spelling.{largest, last_number, close_token, AllDigits, Digits, Word, plain, minus, channel_name, bins_name, row_name, vector_name, Spelt, end, end_line, close, close_line, space, line, TextOf, text, nested}
use Rattle.desktext.specs.Text.{Seen, seen, unseen, or_else, leads, named, is_digit, digits, natural, above, number_seen, item_head, bracket, closing, got, after, ending, step, rest, tokens}
use Rattle.desktext.proofs.Laws.{no_true, number_plain, number_less, bracket_other}
use Rattle.desktext.proofs.Steps.{rest_close, rest_number, rest_form}

-- no digit stands first
Cut : List ℕ → Type 0
Cut [] = Unit {0}
Cut (b ∷ s) = is_digit b ≡ false

cut : (ts s : List ℕ) → Spelt ts s → Cut s
unfolding Cut
cut ts s end = tt
cut ts s end_line = refl
cut ts s (close r) = refl
cut ts s (close_line r) = refl
cut ts s (space w r) = refl
cut ts s (line w r) = refl

number_grows : (v : ℕ) (ds : List ℕ) → v ≤ decimal_value v ds
unfolding decimal_value
number_grows v [] = omega arith
number_grows v (d ∷ ds) = let h = number_grows (v * 10 + (d - 48)) ds in omega arith

stop : (v : ℕ) (r : List ℕ) → Cut r → digits v r ≡ seen v r
unfolding digits Cut
stop v [] c = refl
stop v (b ∷ r) c = rw c

digits_back : (v : ℕ) (ds r : List ℕ) → AllDigits ds → Cut r → decimal_value v ds ≤ largest → digits v (ds ++ r) ≡ seen (decimal_value v ds) r
unfolding digits AllDigits decimal_value
digits_back v [] r a c h = stop v r c
digits_back v (d ∷ ds) r a c h =
    let m = number_grows (v * 10 + (d - 48)) ds in
    let l : v * 10 + (d - 48) ≤ largest = omega arith in
    rw (le-leb 48 d a.0, le-leb d 57 a.1, le-leb (v * 10 + (d - 48)) largest l) (digits_back (v * 10 + (d - 48)) ds r a.2 c h)

natural_back : (m : ℕ) (w r : List ℕ) → Digits m w → Cut r → natural (w ++ r) ≡ seen m r
unfolding natural Digits
natural_back m [] r a c = absurd a
natural_back m (d ∷ ds) r a c = ⊎_elim (λ i. zeros i) (λ i. more i) a
  where
    zeros : (d ≡ 48) × (ds ≡ []) × (m ≡ 0) → cond (eqb d 48) (seen 0 (ds ++ r)) (cond (is_digit d) (digits (d - 48) (ds ++ r)) unseen) ≡ seen m r
    zeros i =
        let e = i.1 in
        let f : ds ++ r ≡ r = ap (λ (l : List ℕ). l ++ r) e in
        rw (eq-eqb d 48 i.0, f, i.2)

    more : (48 < d) × (d ≤ 57) × AllDigits ds × (m ≡ decimal_value (d - 48) ds) × (m ≤ largest) → cond (eqb d 48) (seen 0 (ds ++ r)) (cond (is_digit d) (digits (d - 48) (ds ++ r)) unseen) ≡ seen m r
    more i =
        let p = i.0 in
        let e = i.3 in
        let l = i.4 in
        let h : decimal_value (d - 48) ds ≤ largest = omega arith in
        rw (ne_eqb d 48 (λ f. omega arith), le-leb 48 d (omega arith), le-leb d 57 i.1, e) (digits_back (d - 48) ds r i.2 c h)

-- the first byte of a number's digits
digits_head : (m : ℕ) (w : List ℕ) → Digits m w → (d : ℕ) × (ds : List ℕ) × (w ≡ d ∷ ds) × (48 ≤ d)
unfolding Digits
digits_head m [] a = absurd a
digits_head m (d ∷ ds) a = (d, ds, refl, ⊎_elim (λ i. let e = i.0 in omega arith) (λ i. let e = i.0 in omega arith) a)

-- a name begins with no other byte
named_no : (d : ℕ) (s : List ℕ) → (40 ≡ d → ⊥) → named (d ∷ s) ≡ unseen
unfolding named leads
named_no d s n = rw (ne_eqb 40 d n)

word_back : (t : ℕ) (w r : List ℕ) → Word t w → Cut r → or_else (named (w ++ r)) (number_seen (w ++ r)) ≡ seen t r
unfolding named leads
word_back t w r (plain m e a) c =
    let x = digits_head m w a in
    let d = x.0 in
    let l = x.3 in
    let f : w ++ r ≡ d ∷ (x.1 ++ r) = ap (λ (k : List ℕ). k ++ r) x.2 in
    let g : named (w ++ r) ≡ unseen = ap named f ∙ named_no d (x.1 ++ r) (λ i. omega arith) in
    let h : number_seen (w ++ r) ≡ above (natural (w ++ r)) = ap number_seen f ∙ number_plain (d ∷ (x.1 ++ r)) 0 (omega arith) (λ i. omega arith) ∙ ap (λ (k : List ℕ). above (natural k)) (sym f) in
    ap (λ (k : Seen). or_else k (number_seen (w ++ r))) g ∙ h ∙ ap above (natural_back m w r a c) ∙ ap (λ (k : ℕ). seen k r) (sym e)
word_back t w r (minus m v e f n a) c =
    let g : w ++ r ≡ 45 ∷ (v ++ r) = ap (λ (k : List ℕ). k ++ r) e in
    let h : number_seen (w ++ r) ≡ seen (largest - m) r = ap number_seen g ∙ number_less (45 ∷ (v ++ r)) 0 (omega arith) refl m r (sym (natural_back m v r a c)) n in
    let i : named (w ++ r) ≡ unseen = ap named g ∙ named_no 45 (v ++ r) (λ k. omega arith) in
    ap (λ (k : Seen). or_else k (number_seen (w ++ r))) i ∙ h ∙ ap (λ (k : ℕ). seen k r) (sym f)
word_back t w r (channel_name e f) c = rw (e, f)
word_back t w r (bins_name e f) c = rw (e, f)
word_back t w r (row_name e f) c = rw (e, f)
word_back t w r (vector_name e f) c = rw (e, f)

word_open : (t : ℕ) (w r : List ℕ) → Word t w → bracket (w ++ r) ≡ unseen
unfolding bracket
word_open t w r (plain m e a) =
    let x = digits_head m w a in
    let l = x.3 in
    ap (λ (k : List ℕ). bracket (k ++ r)) x.2 ∙ bracket_other (x.0 ∷ (x.1 ++ r)) 0 (omega arith) (λ i. omega arith)
word_open t w r (minus m v e f n a) = rw e
word_open t w r (channel_name e f) = rw f
word_open t w r (bins_name e f) = rw f
word_open t w r (row_name e f) = rw f
word_open t w r (vector_name e f) = rw f

digits_least : (m : ℕ) (w : List ℕ) → Digits m w → m ≤ largest
unfolding Digits
digits_least m [] a = absurd a
digits_least m (d ∷ ds) a = ⊎_elim (λ i. let e = i.2 in omega arith) (λ i. i.4) a

word_token : (t : ℕ) (w : List ℕ) → Word t w → t < close_token
word_token t w (plain m e a) = let h = digits_least m w a in omega arith
word_token t w (minus m v e f n a) = omega arith
word_token t w (channel_name e f) = omega arith
word_token t w (bins_name e f) = omega arith
word_token t w (row_name e f) = omega arith
word_token t w (vector_name e f) = omega arith

item_back : (n d t : ℕ) (ts s x : List ℕ) → closing x ≡ unseen → item_head x ≡ seen t s → t < close_token → nested (suc d) (t ∷ ts) ≡ true
    → ((k : ℕ) → nested k ts ≡ true → rest n k s ≡ got ts) → rest (suc n) (suc d) x ≡ got (t ∷ ts)
unfolding nested
item_back n d t ts s x c e l h more = go (leb t last_number) (leb 4 (suc d)) refl refl (rw (ne_eqb t close_token (λ i. omega arith)) at h)
  where
    go : (a b : Bool) → leb t last_number ≡ a → leb 4 (suc d) ≡ b → cond a (nested (suc d) ts) (cond b false (nested (suc (suc d)) ts)) ≡ true → rest (suc n) (suc d) x ≡ got (t ∷ ts)
    go true b f g i = rest_number n d x t s c e (leb-true _ _ f) ∙ ap (after (t ∷ [])) (more (suc d) i)
    go false true f g i = no_true i
    go false false f g i = rest_form n d x t s c e (leb-false _ _ f) (leb-false _ _ g) ∙ ap (after (t ∷ [])) (more (suc (suc d)) i)

rest_back : (n d : ℕ) (ts s : List ℕ) → Spelt ts s → nested d ts ≡ true → length ts < n → rest n d s ≡ got ts
unfolding rest step ending nested closing bracket item_head
rest_back zero d ts s sp e h = absurd (omega arith)
rest_back (suc n) zero ts s end e h = refl
rest_back (suc n) zero ts s end_line e h = refl
rest_back (suc n) zero ts s (close r) e h = no_true e
rest_back (suc n) zero ts s (close_line r) e h = no_true e
rest_back (suc n) zero ts s (space w r) e h = no_true e
rest_back (suc n) zero ts s (line w r) e h = no_true e
rest_back (suc n) (suc d) ts s end e h = no_true e
rest_back (suc n) (suc d) ts s end_line e h = no_true e
rest_back (suc n) (suc d) ts s (close {ts = us} {s = x} r) e h =
    rest_close n d (41 ∷ x) close_token x refl ∙ ap (after (close_token ∷ [])) (rest_back n d us x r e (omega arith))
rest_back (suc n) (suc d) ts s (close_line {ts = us} {s = x} r) e h =
    rest_close n d (10 ∷ 41 ∷ x) close_token x refl ∙ ap (after (close_token ∷ [])) (rest_back n d us x r e (omega arith))
rest_back (suc n) (suc d) ts s (space {t = t} {ts = us} {w = v} {s = x} w r) e h =
    item_back n d t us x (32 ∷ (v ++ x)) refl (word_back t v x w (cut us x r)) (word_token t v w) e (λ k f. rest_back n k us x r f (omega arith))
rest_back (suc n) (suc d) ts s (line {t = t} {ts = us} {w = v} {s = x} w r) e h =
    item_back n d t us x (10 ∷ (v ++ x)) (word_open t v x w) (word_back t v x w (cut us x r)) (word_token t v w) e (λ k f. rest_back n k us x r f (omega arith))

-- a text is no shorter than its tokens
longer : (ts s : List ℕ) → Spelt ts s → length ts ≤ length s
longer ts s end = omega arith
longer ts s end_line = omega arith
longer ts s (close {ts = us} {s = x} r) = let h = longer us x r in omega arith
longer ts s (close_line {ts = us} {s = x} r) = let h = longer us x r in omega arith
longer ts s (space {ts = us} {w = v} {s = x} w r) = let h = longer us x r in omega (arith, length-append v x)
longer ts s (line {ts = us} {w = v} {s = x} w r) = let h = longer us x r in omega (arith, length-append v x)

name_back : (t : ℕ) (w s : List ℕ) → Word t w → last_number < t → named (w ++ s) ≡ seen t s
unfolding named leads
name_back t w s (plain m e a) h = absurd (let k = digits_least m w a in omega arith)
name_back t w s (minus m v e f n a) h = absurd (omega arith)
name_back t w s (channel_name e f) h = rw (e, f)
name_back t w s (bins_name e f) h = rw (e, f)
name_back t w s (row_name e f) h = rw (e, f)
name_back t w s (vector_name e f) h = rw (e, f)

word_some : (t : ℕ) (w : List ℕ) → Word t w → 1 ≤ length w
word_some t w (plain m e a) = let x = digits_head m w a in omega (arith, ap length x.2)
word_some t w (minus m v e f n a) = omega (arith, ap length e)
word_some t w (channel_name e f) = omega (arith, ap length f)
word_some t w (bins_name e f) = omega (arith, ap length f)
word_some t w (row_name e f) = omega (arith, ap length f)
word_some t w (vector_name e f) = omega (arith, ap length f)

named_first : (s : List ℕ) (t : ℕ) (r ts : List ℕ) → named s ≡ seen t r → rest (length s) 1 r ≡ got ts → tokens s ≡ got (t ∷ ts)
unfolding tokens
named_first s t r ts e f = rw (e, f)

pub tokens_back : (t : ℕ) (ts x : List ℕ) → TextOf (t ∷ ts) x → last_number < t → nested 1 ts ≡ true → tokens x ≡ got (t ∷ ts)
tokens_back t ts x (text {w = w} {s = s} v r) h e =
    let l = longer ts s r in
    let m = word_some t w v in
    named_first (w ++ s) t s ts (name_back t w s v h) (rest_back (length (w ++ s)) 1 ts s r e (omega (arith, length-append w s)))
