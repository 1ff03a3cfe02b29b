-- How many bytes what is read takes: a number with its separator at least two, a form's name with its separator more than
-- that. Assumes nothing.
use Prim.Native.Nat.{ℕ, suc, ◌+◌, ◌≤◌, ◌<◌}
use mathlib.Core.Path.{◌≡◌, sym, ap, ◌∙◌}
use mathlib.Core.List.{List, [], ◌∷◌}
use mathlib.Core.Logic.{⊎_elim}
use native.Mathlib.Omega.{arith}
use lib.ListN.{length, length-append}
use Rattle.desktext.specs.Spelling.{largest, last_number, Digits, Word, plain, minus, channel_name, bins_name, row_name, vector_name}
use Rattle.desktext.specs.Text.{seen, named, item_head}
use Rattle.desktext.proofs.Spelt.{named_spelt, item_spelt}

-- a number's digits: one or more, of a number that is not too large
digits_few : (m : ℕ) (w : List ℕ) → Digits m w → (1 ≤ length w) × (m ≤ largest)
unfolding Digits
digits_few m [] a = absurd a
digits_few m (d ∷ ds) a = (omega arith, ⊎_elim (λ i. let z = i.2 in omega arith) (λ i. i.4) a)

-- a token's bytes
word_takes : (t : ℕ) (w : List ℕ) → Word t w → (1 ≤ length w) × (last_number < t → 4 ≤ length w)
word_takes t w (plain m e a) = let d = digits_few m w a in let k = d.1 in (d.0, λ h. absurd (omega arith))
word_takes t w (minus m v e f n a) = (omega (arith, ap length e), λ h. absurd (omega arith))
word_takes t w (channel_name e f) = (omega (arith, ap length f), λ h. omega (arith, ap length f))
word_takes t w (bins_name e f) = (omega (arith, ap length f), λ h. omega (arith, ap length f))
word_takes t w (row_name e f) = (omega (arith, ap length f), λ h. omega (arith, ap length f))
word_takes t w (vector_name e f) = (omega (arith, ap length f), λ h. omega (arith, ap length f))

pub named_eats : (s : List ℕ) (t : ℕ) (r : List ℕ) → seen t r ≡ named s → length r + 4 ≤ length s
named_eats s t r e =
    let n = named_spelt s t r (sym e) in
    let k = (word_takes t n.0 n.2).1 n.3 in
    omega (arith, ap length n.1, length-append n.0 r)

pub item_eats : (s : List ℕ) (t : ℕ) (r : List ℕ) → seen t r ≡ item_head s → (length r + 2 ≤ length s) × (last_number < t → length r + 3 ≤ length s)
item_eats s t r e =
    let n = item_spelt s t r (sym e) in
    let k = word_takes t n.0 n.2 in
    let l : length s ≡ suc (length n.0 + length r) = ⊎_elim (λ i. ap length i ∙ ap suc (length-append n.0 r)) (λ i. ap length i ∙ ap suc (length-append n.0 r)) n.1 in
    let a = k.0 in
    (omega arith, λ h. let b = k.1 h in omega arith)
