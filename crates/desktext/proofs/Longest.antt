-- No text of a channel has more than 23,121 bytes: 2,312 tokens of ten bytes at most, and a last line end. Assumes
-- nothing.
use Prim.Native.Nat.{ℕ, zero, suc, ◌+◌, ◌-◌, ◌*◌, ◌^◌, ◌≤◌, ◌<◌}
use mathlib.Core.Path.{◌≡◌, refl, ap}
use mathlib.Core.List.{List, [], ◌∷◌, map}
use mathlib.Core.Bool.{Bool, true, false}
use mathlib.Core.Logic.{⊎_elim}
use native.Mathlib.Omega.{arith}
use native.Mathlib.Nat.{le_trans, min-le_left, pow-suc, pow-le-pow_right}
use lib.ListN.{length, take, drop, length-append, length-map, length-take}
use lib.Dec.{leb}
use borrow.Author.Tests.{leb-true, leb-false}
use Rattle.plantext.specs.PlanText.{decimal_value}
use Rattle.desktext.specs.Spelling.{largest, close_token, AllDigits, Digits, Word, plain, minus, channel_name, bins_name, row_name, vector_name, Spelt, end, end_line, close, close_line, space, line, TextOf, text}
use Rattle.desktext.specs.Printed.{vector_forms, channel_tokens, IsText}
use Rattle.desktext.specs.Channel.{TextChannel, channel, none, channel_in}
use Rattle.desktext.specs.Work.{longest}
use Rattle.desktext.proofs.Texts.{text_read}

-- ---- a token's bytes
grown : (p v d : ℕ) → p ≤ v → p * 10 ≤ v * 10 + d
grown p v d h = omega arith

seven_more : (k : ℕ) → 10 ^ k ≤ largest → k ≤ 7
seven_more k h = go (leb k 7) refl
  where
    go : (b : Bool) → leb k 7 ≡ b → k ≤ 7
    go true e = leb-true _ _ e
    go false e =
        let l : 7 < k = leb-false _ _ e in
        let m : 10 ^ 8 ≤ largest = le_trans (pow-le-pow_right {n = 10} (omega arith) {i = 8} {j = k} l) h in
        absurd (omega arith)

-- behind the first k digits of a number
few_digits : (k v : ℕ) (ds : List ℕ) → 10 ^ k ≤ v → decimal_value v ds ≤ largest → k + length ds ≤ 7
unfolding decimal_value
few_digits k v [] h l = let r = seven_more k (le_trans h l) in omega arith
few_digits k v (d ∷ ds) h l = let r = few_digits (suc k) (v * 10 + (d - 48)) ds (rw (pow-suc 10 k) (grown (10 ^ k) v (d - 48) h)) l in omega arith

digits_long : (m : ℕ) (w : List ℕ) → Digits m w → length w ≤ 8
unfolding Digits
digits_long m [] a = absurd a
digits_long m (d ∷ ds) a = ⊎_elim (λ i. let e = ap length i.1 in omega arith) (λ i. more i) a
  where
    more : (48 < d) × (d ≤ 57) × AllDigits ds × (m ≡ decimal_value (d - 48) ds) × (m ≤ largest) → suc (length ds) ≤ 8
    more i =
        let p = i.0 in
        let e = i.3 in
        let l = i.4 in
        let f = few_digits 0 (d - 48) ds (omega arith) (omega arith) in
        omega arith

word_long : (t : ℕ) (w : List ℕ) → Word t w → length w ≤ 9
word_long t w (plain m e a) = let h = digits_long m w a in omega arith
word_long t w (minus m v e f n a) = let h = digits_long m v a in omega (arith, ap length e)
word_long t w (channel_name e f) = omega (arith, ap length f)
word_long t w (bins_name e f) = omega (arith, ap length f)
word_long t w (row_name e f) = omega (arith, ap length f)
word_long t w (vector_name e f) = omega (arith, ap length f)

-- ---- a text's bytes
spelt_long : (ts s : List ℕ) → Spelt ts s → length s ≤ 10 * length ts + 1
spelt_long ts s end = omega arith
spelt_long ts s end_line = omega arith
spelt_long ts s (close {ts = us} {s = x} r) = let h = spelt_long us x r in omega arith
spelt_long ts s (close_line {ts = us} {s = x} r) = let h = spelt_long us x r in omega arith
spelt_long ts s (space {t = t} {ts = us} {w = w} {s = x} v r) = let h = spelt_long us x r in let k = word_long t w v in omega (arith, length-append w x)
spelt_long ts s (line {t = t} {ts = us} {w = w} {s = x} v r) = let h = spelt_long us x r in let k = word_long t w v in omega (arith, length-append w x)

text_long : (ts s : List ℕ) → TextOf ts s → length s ≤ 10 * length ts + 1
text_long ts s (text {t = t} {ts = us} {w = w} {s = x} v r) = let h = spelt_long us x r in let k = word_long t w v in omega (arith, length-append w x)

-- ---- a channel's tokens
vectors_few : (n : ℕ) (vs : List ℕ) → length (vector_forms n vs) ≤ 8 * n + 1
unfolding vector_forms
vectors_few zero vs = omega arith
vectors_few (suc n) vs =
    let h = vectors_few n (drop 6 vs) in
    let k = min-le_left 6 (length vs) in
    omega (arith, length-take 6 vs, length-append (take 6 vs) (close_token ∷ vector_forms n (drop 6 vs)))

tokens_few : (a b : ℕ) (row vs : List ℕ) → length row ≤ 256 → length (channel_tokens a b row vs) ≤ 2312
unfolding channel_tokens
tokens_few a b row vs h =
    let k = vectors_few (length row) vs in
    let m = length-map row (λ k. largest + k) in
    omega (arith, length-append (map (λ k. largest + k) row) (close_token ∷ vector_forms (length row) vs))

pub text_short : (a b : ℕ) (row vs s : List ℕ) → IsText a b row vs s → length s ≤ longest
text_short a b row vs s t =
    let h = text_long (channel_tokens a b row vs) s t.spelt in
    let k = tokens_few a b row vs t.allowed.few in
    omega arith

-- a longer text has no channel
pub channel_too_long : (s : List ℕ) → longest < length s → channel_in s ≡ none
channel_too_long s h = go (channel_in s) refl
  where
    go : (c : TextChannel) → channel_in s ≡ c → channel_in s ≡ none
    go none e = e
    go (channel a b row vs) e = absurd (let k = text_short a b row vs s ((text_read s a b row vs).1 e) in omega arith)
