-- The answer to what fills the input is that to all of the text: both are too long.
use Rattle.std.proofs.Common.{◌≡◌, ℕ, ◌<◌, List, [], ◌++◌, None, Some, IfSome, inl, inr, arith, sym, ap, ◌∙◌, subst, length, take, length-append, append-nil, length-take-le}
use mathlib.Core.Bool.{true≢false}
use Rattle.std.specs.Result.{is_ok, OnOk}
use Rattle.std.proofs.Common.{Result, Ok, Err}
use Rattle.std.proofs.lemmas.Bool.{cases_lt}
use Rattle.std.specs.declared.option.Option.{Option}
use Rattle.std.specs.Io.KnownBytes.{Appends}
use Rattle.bits.specs.Bits.{splice}
use Rattle.bits.proofs.Laws.{splice_read}
use Rattle.plantext.specs.PlanText.{refused_text}
use Rattle.desktext.specs.Desk.{desk_answer}
use Rattle.desktext.specs.declared.View.{View}
use Rattle.desktext.proofs.DeskPrints.{desk_refuses}
use Rattle.desk_io.specs.Bytes.{IsRead}

-- a text that is too long is refused
long_refused : (v : View) (s : List ℕ) → 65536 < length s → desk_answer v s ≡ refused_text 13
long_refused v s h = (desk_refuses v s).1 (λ a b row vs t. let short = t.short in omega arith)

-- a part of a text that is all of it where it does not fill the input
same : (v : View) (s rest : List ℕ) → (length s < 65537 → rest ≡ []) → desk_answer v s ≡ desk_answer v (s ++ rest)
same v s rest h = elim (cases_lt (length s) 65537) [
  | inl short ↦ ap (desk_answer v) (sym (ap (λ l. s ++ l) (h short) ∙ append-nil s))
  | inr full ↦ let l = length-append s rest in long_refused v s (omega arith) ∙ sym (long_refused v (s ++ rest) (omega (arith, l, full)))
]

whole : (v : View) (old new : Option (List ℕ)) (buf : List ℕ) (n : ℕ) (P : List ℕ → Type 0) → length buf ≡ 65537 → IsRead old new buf n
    → P (desk_answer v (take n buf)) → IfSome old (λ text. P (desk_answer v text))
whole v None new buf n P e r p = tt
whole v (Some text) None buf n P e r p = absurd r.given
whole v (Some text) (Some rest) buf n P e r p =
    let long : length (take n buf) ≡ n = length-take-le n buf r.inside in
    subst P (same v (take n buf) rest (λ h. r.at_end (omega arith)) ∙ ap (desk_answer v) (sym r.given)) p

-- what is put at the front of the output and written from there
pub answered : (v : View) (old new before after : Option (List ℕ)) (buf out : List ℕ) {n k : ℕ} {put : List ℕ} → length buf ≡ 65537 → IsRead old new buf n
    → k ≡ length (desk_answer v (take n buf)) → put ≡ splice out 0 (desk_answer v (take n buf)) → Appends before after (take k put)
    → IfSome old (λ text. Appends before after (desk_answer v text))
answered v old new before after buf out {n} {k} {put} e r long is written =
    let ys = desk_answer v (take n buf) in
    let first : take k put ≡ ys = rw (long, is) (splice_read out ys 0 (omega arith)) in
    whole v old new buf n (Appends before after) e r (subst (Appends before after) first written)

-- what a written answer says where only the error is another
pub on_ok : {A B C D P Q : Type 0} (r : Result A B) (s : Result C D) → is_ok s ≡ is_ok r → (P → Q) → OnOk r P → OnOk s Q
on_ok (Ok x) (Ok y) e f p = f p
on_ok (Err x) (Ok y) e f p = absurd (true≢false e)
on_ok r (Err y) e f p = tt
