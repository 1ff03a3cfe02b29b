-- The texts that are read as a channel are those of the section: law `text_read`. Assumes nothing.
use Prim.Native.Nat.{ℕ, zero, suc, ◌+◌, ◌≤◌, ◌<◌}
use mathlib.Core.Path.{◌≡◌, refl, sym, ap, ◌∙◌, subst}
use mathlib.Core.Logic.{◌↔◌}
use mathlib.Core.List.{List, [], ◌∷◌, ◌++◌, map}
use mathlib.Core.Bool.{Bool, true, false, cond}
use native.Mathlib.Omega.{arith}
use lib.ListN.{length, take, drop}
use lib.Dec.{leb}
use borrow.Author.Tests.{le-leb, lt-leb, ne_eqb, leb-true}
use Rattle.std.specs.Prelude.{Result, Ok, Err}
use Rattle.answers.specs.declared.Refusal.{Refusal}
use Rattle.answers.specs.declared.Refusal.TheVariants.{Text}
use Rattle.answers.specs.Answers.{answer_number}
use Rattle.desktext.specs.Spelling.{largest, last_number, channel_token, bins_token, row_token, close_token, TextOf, nested}
use Rattle.desktext.specs.Printed.{IsText, AllIn, form, vector_forms, channel_tokens, InLimits}
use Rattle.desktext.specs.Text.{ReadText, got, malformed, tokens}
use Rattle.desktext.specs.Channel.{TextChannel, text_answer, channel, none, channel_in, on_got}
use Rattle.desktext.specs.declared.Shape.{Shape}
use Rattle.desktext.proofs.Spelt.{tokens_spelt}
use Rattle.desktext.proofs.Back.{tokens_back}
use Rattle.desktext.proofs.ChannelTokens.{all_take, all_drop, row_all, channel_back, channel_sole, no_channel_lem}

-- a channel's brackets close
nested_items : (low high d : ℕ) (xs r : List ℕ) → high ≤ last_number → AllIn low high xs → nested (suc d) (xs ++ (close_token ∷ r)) ≡ nested d r
unfolding nested AllIn
nested_items low high d [] r h a = refl
nested_items low high d (x ∷ xs) r h a =
    let l = a.1 in
    rw (ne_eqb x close_token (λ e. omega arith), le-leb x last_number (omega arith)) (nested_items low high d xs r h a.2)

nested_vectors : (n : ℕ) (vs : List ℕ) → AllIn 0 last_number vs → nested 1 (vector_forms n vs) ≡ true
unfolding vector_forms nested
nested_vectors zero vs a = refl
nested_vectors (suc n) vs a = nested_items 0 last_number 1 (take 6 vs) (vector_forms n (drop 6 vs)) (omega arith) (all_take 0 last_number 6 vs a) ∙ nested_vectors n (drop 6 vs) (all_drop 0 last_number 6 vs a)

nested_name : (t : ℕ) (ts : List ℕ) → last_number < t → t < close_token → nested 1 (t ∷ ts) ≡ nested 2 ts
unfolding nested
nested_name t ts h k = rw (ne_eqb t close_token (λ e. omega arith), lt-leb t last_number h)

pub nested_channel : (a b : ℕ) (row vs : List ℕ) → InLimits a b row vs
    → nested 1 (form bins_token ((largest + a) ∷ (largest + b) ∷ []) (form row_token (map (λ k. largest + k) row) (vector_forms (length row) vs))) ≡ true
unfolding AllIn
nested_channel a b row vs ok =
    let f = ok.start in
    let l = ok.end in
    let R : List ℕ = form row_token (map (λ k. largest + k) row) (vector_forms (length row) vs) in
    nested_name bins_token (((largest + a) ∷ (largest + b) ∷ []) ++ (close_token ∷ R)) (omega arith) (omega arith)
    ∙ nested_items largest last_number 1 ((largest + a) ∷ (largest + b) ∷ []) R (omega arith) (omega arith, omega arith, (omega arith, omega arith, tt))
    ∙ nested_name row_token (map (λ k. largest + k) row ++ (close_token ∷ vector_forms (length row) vs)) (omega arith) (omega arith)
    ∙ nested_items largest (largest + 255) 1 (map (λ k. largest + k) row) (vector_forms (length row) vs) (omega arith) (row_all row ok.bytes)
    ∙ nested_vectors (length row) vs ok.numbers

-- ---- the parser's definition and the rules of the section are the same
reads_back : (a b : ℕ) (row vs s : List ℕ) → IsText a b row vs s → channel_in s ≡ channel a b row vs
unfolding channel_in channel_tokens
reads_back a b row vs s x =
    let t : tokens s ≡ got (channel_tokens a b row vs) = tokens_back channel_token _ s x.spelt (omega arith) (nested_channel a b row vs x.allowed) in
    rw (le-leb (length s) 65536 x.short, t) (channel_back a b row vs x.allowed)

reads_sole : (a b : ℕ) (row vs s : List ℕ) → channel_in s ≡ channel a b row vs → IsText a b row vs s
unfolding channel_in
reads_sole a b row vs s e = go (leb (length s) 65536) refl e
  where
    of : (g : ReadText) → tokens s ≡ g → length s ≤ 65536 → on_got g ≡ channel a b row vs → IsText a b row vs s
    of malformed f h k = no_channel_lem a b row vs k
    of (got ts) f h k =
        let n = channel_sole ts a b row vs k in
        record { allowed = n.1; spelt = subst (λ (x : List ℕ). TextOf x s) n.0 (tokens_spelt s ts f); short = h }

    go : (c : Bool) → leb (length s) 65536 ≡ c → cond c (on_got (tokens s)) none ≡ channel a b row vs → IsText a b row vs s
    go true f g = of (tokens s) refl (leb-true _ _ f) g
    go false f g = no_channel_lem a b row vs g

-- the texts of a channel are just those that are read as it
pub text_read : (s : List ℕ) (a b : ℕ) (row vs : List ℕ) → IsText a b row vs s ↔ (channel_in s ≡ channel a b row vs)
text_read s a b row vs = (reads_back a b row vs s, reads_sole a b row vs s)

-- just a text of no channel is refused with 13
pub text_refused : (s : List ℕ) → ((a b : ℕ) (row vs : List ℕ) → IsText a b row vs s → ⊥) ↔ (text_answer (channel_in s) ≡ Err Text)
text_refused s = (λ n. ap text_answer (unread (channel_in s) refl n), λ e a b row vs x. no_answer _ (ap text_answer (sym (reads_back a b row vs s x)) ∙ e))
  where
    unread : (c : TextChannel) → channel_in s ≡ c → ((a b : ℕ) (row vs : List ℕ) → IsText a b row vs s → ⊥) → channel_in s ≡ none
    unread none e n = e
    unread (channel a b row vs) e n = absurd (n a b row vs (reads_sole a b row vs s e))

    no_answer : (p : Shape) → ◌≡◌ {A = Result Shape Refusal} (Ok p) (Err Text) → ⊥
    no_answer p e = let z : ◌≡◌ {A = ℕ} 0 13 = ap answer_number e in omega arith
