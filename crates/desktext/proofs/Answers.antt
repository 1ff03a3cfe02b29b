-- What the desk prints: the plan with the bytes of its field, or a refusal. Assumes nothing.
use Prim.Native.Nat.{ℕ, zero, suc, ◌+◌, ◌-◌, ◌*◌, ◌/◌, ◌≤◌}
use mathlib.Core.Path.{◌≡◌, refl, sym, ap, ◌∙◌}
use mathlib.Core.List.{List, ◌∷◌, ◌++◌, map, append_assoc}
use mathlib.Core.Bool.{Bool, true}
use native.Mathlib.Omega.{arith}
use native.Mathlib.Nat.{le_trans, le_of_eq, suc-add, min-le_left}
use borrow.Author.Tests.{le-leb}
use lib.Ieee.{Float}
use lib.ListN.{length, take, drop, replicate, length-append, length-take, length-drop, length-map, length-replicate, replicate-append-replicate}
use lib.Seq.{take-append-le, drop-append-le}
use Rattle.bits.specs.Bits.{number_of, bits_of, bytes_of, splice, pos_of, bytes_with}
use Rattle.std.specs.Prelude.{None, Result, Ok, Err}
use Rattle.answers.specs.Answers.{answer_number, value_or}
use Rattle.answers.specs.Causes.{number, cause_number}
use Rattle.answers.specs.declared.Refusal.{Refusal}
use Rattle.answers.specs.declared.Refusal.TheVariants.{Text}
use Rattle.answers.proofs.Numbers.{numbered}
use Rattle.bits.specs.declared.BitPos.{BitPos}
use Rattle.bits.proofs.Laws.{bits_of_append, length_bits_of, length_with, splice_read}
use Rattle.planner.specs.Fit.{plan_cause}
use Rattle.planner.specs.Planning.{cause_of, planned, plan_answered, total_of}
use Rattle.planner.proofs.Answer.{refusal_is, cause_most, plan_cause_fit, fits_few}
use Rattle.planner.specs.declared.Plan.{Plan}
use Rattle.writer.specs.Written.{field_of, channel_write, channel_written}
use Rattle.writer.proofs.Planned.{no_cause as cause-none, within, fits, field_long as long-field, few_bits as bits_few, is_written as field-written}
use Rattle.plantext.specs.PlanText.{plan_text, refused_text}
use Rattle.plantext.proofs.Printing.{plan_text_fits, refused_text_fits, plan_no_refusal, digit_not_13, refused_sample}
use Rattle.pages.specs.Pages.{pages_length, pages_text}
use Rattle.pages.specs.Printing.{pages_cause, pages_print, pages_printed}
use Rattle.pages.proofs.Call.{pages_long}
use Rattle.pages.proofs.Printed.{pages_most}
use Rattle.desktext.specs.Printed.{component_of}
use Rattle.desktext.specs.Channel.{TextChannel, channel, none, channel_in, text_answer, row_after, vectors_after}
use Rattle.desktext.specs.Work.{Given, Prints}
use Rattle.desktext.specs.Desk.{field_bytes, view_of, plan_or_refusal, plan_answer, channel_answer, desk_answer}
use Rattle.desktext.specs.declared.View.{View}
use Rattle.desktext.specs.declared.View.TheVariants.{WithField, OnPages}
use Rattle.desktext.specs.declared.Shape.{Shape}
use Rattle.desktext.proofs.Texts.{text_read}

-- ---- the first bytes of a buffer
take_bytes : (n m : ℕ) (bs : List Bool) → take n (bytes_of (n + m) bs) ≡ bytes_of n bs
unfolding bytes_of
take_bytes zero m bs = refl
take_bytes (suc n) m bs = rw (suc-add n m) (ap (λ (r : List ℕ). number_of (take 8 bs) ∷ r) (take_bytes n m (drop 8 bs)))

bytes_front : (n : ℕ) (a b : List Bool) → 8 * n ≤ length a → bytes_of n (a ++ b) ≡ bytes_of n a
unfolding bytes_of
bytes_front zero a b h = refl
bytes_front (suc n) a b h =
    rw (take-append-le 8 a b (omega arith), drop-append-le 8 a b (omega arith))
    (ap (λ (r : List ℕ). number_of (take 8 a) ∷ r) (bytes_front n (drop 8 a) b (omega (arith, length-drop 8 a))))

with_front : (s t : List ℕ) (f : List Bool) → length f ≤ 8 * length s → take (length s) (bytes_with (s ++ t) 0 f) ≡ bytes_with s 0 f
unfolding bytes_with splice
with_front s t f h =
    let b = length_bits_of s in
    let d : drop (0 + length f) (bits_of (s ++ t)) ≡ drop (0 + length f) (bits_of s) ++ bits_of t =
    rw (bits_of_append s t) (drop-append-le (0 + length f) (bits_of s) (bits_of t) (omega arith)) in
    let l : 8 * length s ≤ length (f ++ drop (0 + length f) (bits_of s)) = rw (length-append f (drop (0 + length f) (bits_of s)), length-drop (0 + length f) (bits_of s)) (omega arith) in
    rw (length-append s t, take_bytes (length s) (length t) (f ++ drop (0 + length f) (bits_of (s ++ t))), d, ← append_assoc f (drop (0 + length f) (bits_of s)) (bits_of t))
    (bytes_front (length s) (f ++ drop (0 + length f) (bits_of s)) (bits_of t) l)

-- a field at the front of bytes 0: the first of them are the field's
zeros_front : (k n : ℕ) (f : List Bool) → length f ≤ 8 * n → n ≤ k → take n (bytes_with (replicate k 0) 0 f) ≡ bytes_with (replicate n 0) 0 f
zeros_front k n f h u =
    let s : List ℕ = replicate n 0 in
    let t : List ℕ = replicate (k - n) 0 in
    let l : length s ≡ n = length-replicate n 0 in
    let e : n + (k - n) ≡ k = omega arith in
    let r : s ++ t ≡ replicate k 0 = replicate-append-replicate n (k - n) 0 ∙ ap (λ (m : ℕ). replicate {A = ℕ} m 0) e in
    ap (λ (z : List ℕ). take n (bytes_with z 0 f)) (sym r) ∙ ap (λ (m : ℕ). take m (bytes_with (s ++ t) 0 f)) (sym l) ∙ with_front s t f (omega arith)

-- a value is no refusal
ok_not_err : {A : Type 0} (a : A) (k : Refusal) → ◌≡◌ {A = Result A Refusal} (Ok a) (Err k) → ⊥
ok_not_err a k e = let z : ◌≡◌ {A = ℕ} 0 (number k) = ap answer_number e in let n = numbered k in omega arith

-- ---- the planner's answer
module _ (v : View) (row : List ℕ) (start end : ℕ) (x : List Float) where
  pub plan_refused : (k : Refusal) → planned row start end x ≡ Err k → refused_text (number k) ≡ plan_answer v row start end x
  unfolding plan_answer
  plan_refused k e = rw e refl

  pub plan_shown : (p : Plan) → Given p row start end x → view_of v p row start end x ≡ plan_answer v row start end x
  unfolding plan_answer
  plan_shown p e = rw e refl

-- ---- its plan
module _ (p : Plan) (row : List ℕ) (start end : ℕ) (x : List Float) (given : Given p row start end x) where
  abbrev is : p ≡ plan_answered row start end x
  is = sym (ap (value_or _) given)

  abbrev planned_given : answer_number (planned row start end x) ≡ 0
  planned_given = ap answer_number given

  pub few_gains : p.count ≤ 256
  few_gains = rw is (fits_few (plan_answered row start end x) row start end x (within row start end x planned_given) (fits row start end x planned_given))

  -- ---- its field
  field_long : length (field_of p row start end x) ≡ total_of p
  field_long = rw is (long-field row start end x planned_given)

  pub few_bits : total_of p ≤ 31152
  few_bits = rw is (bits_few row start end x planned_given)

  -- 8,192 bytes hold it
  module _ (room : List ℕ) (zeros : room ≡ replicate 8192 0) where
    long : length room ≡ 8192
    long = ap length zeros ∙ length-replicate {A = ℕ} 8192 0

    is_written : (channel_write p row start end x room 0 ≡ Ok (pos_of (0 + total_of p))) × (channel_written p row start end x room 0 ≡ bytes_with room 0 (field_of p row start end x))
    is_written =
        let f = bits_few row start end x planned_given in
        let l = long in
        rw is (field-written row start end x planned_given room 0 (omega arith))

    pub never_refused : (w : Result BitPos Refusal) (k : Refusal) → w ≡ channel_write p row start end x room 0 → w ≡ Err k → ⊥
    never_refused w k e f = ok_not_err (pos_of (0 + total_of p)) k (sym is_written.0 ∙ sym e ∙ f)

    module _ (after : List ℕ) (put : after ≡ channel_written p row start end x room 0) where
      pub bytes_fit : (total_of p + 7) / 8 ≤ length after
      bytes_fit =
          let f = few_bits in
          let l : length after ≡ 8192 = ap length (put ∙ is_written.1) ∙ length_with room 0 (field_of p row start end x) ∙ long in
          omega arith

      pub plan_given : plan_text p (take ((total_of p + 7) / 8) after) ≡ view_of WithField p row start end x
      plan_given =
          let f = few_bits in
          let n = (total_of p + 7) / 8 in
          let bs = field_of p row start end x in
          let l = field_long in
          let b : take n after ≡ field_bytes bs =
          ap (take n) (put ∙ is_written.1 ∙ ap (λ (z : List ℕ). bytes_with z 0 bs) zeros)
          ∙ zeros_front 8192 n bs (omega arith) (omega arith) ∙ ap (λ (m : ℕ). bytes_with (replicate ((m + 7) / 8) 0) 0 bs) (sym l) in
          rw b

      -- the plan is printed with so many of the bytes
      pub field_given : (n r : ℕ) (out new : List ℕ) → n ≡ (total_of p + 7) / 8 → r ≡ length (plan_text p (take n after)) → new ≡ splice out 0 (plan_text p (take n after))
          → Prints (view_of WithField p row start end x) out new (Ok r)
      field_given n r out new e f g =
          let t : plan_text p (take n after) ≡ view_of WithField p row start end x = ap (λ (m : ℕ). plan_text p (take m after)) e ∙ plan_given in
          (f ∙ ap length t, g ∙ ap (splice out 0) t)

  -- ---- its pages: the output holds them
  no_cause : plan_cause p row start end x ≡ None
  no_cause = rw is (plan_cause_fit (plan_answered row start end x) row start end x true (cause-none row start end x planned_given) (sym (fits row start end x planned_given)))

  pub few_pages : pages_length start end ≤ 6500
  few_pages = pages_most p row start end x no_cause

  module _ (out : List ℕ) (long : 32768 ≤ length out) where
    is_printed : (pages_print p row start end x out ≡ Ok (pages_length start end)) × (pages_printed p row start end x out ≡ splice out 0 (pages_text p row start end x))
    unfolding pages_print pages_printed pages_cause
    is_printed = let m = few_pages in rw (no_cause, le-leb (pages_length start end) (length out) (omega arith)) (refl, refl)

    pub pages_given : (r : Result ℕ Refusal) (after : List ℕ) → r ≡ pages_print p row start end x out → after ≡ pages_printed p row start end x out
        → Prints (view_of OnPages p row start end x) out after r
    pages_given r after e g = let i = is_printed in rw (e ∙ i.0) (sym (pages_long p row start end x), g ∙ i.1)

-- ---- it is never (refused 13), and it fits the output
module _ (row : List ℕ) (start end : ℕ) (x : List Float) where
  view_no_refusal : (v : View) (p : Plan) → view_of v p row start end x ≡ refused_text 13 → ⊥
  view_no_refusal WithField p e = plan_no_refusal p _ 13 e
  view_no_refusal OnPages p e =
      let l = pages_long p row start end x in
      let m : pages_length start end ≡ 13 = sym l ∙ ap length (e ∙ refused_sample) in
      omega arith

  pub plan_never_13 : (v : View) → plan_answer v row start end x ≡ refused_text 13 → ⊥
  unfolding plan_answer
  plan_never_13 v e = go (planned row start end x) refl e
    where
      go : (r : Result Plan Refusal) → planned row start end x ≡ r → plan_or_refusal (λ p. view_of v p row start end x) r ≡ refused_text 13 → ⊥
      go (Ok p) g f = view_no_refusal v p f
      go (Err k) g f =
          let n : number k ≡ cause_number (cause_of row start end x) = sym (ap answer_number g) ∙ refusal_is row start end x in
          digit_not_13 (number k) (omega (arith, cause_most row start end x)) f

  view_fits : (v : View) (p : Plan) → Given p row start end x → length (view_of v p row start end x) ≤ 32768
  view_fits WithField p g =
      let bs = field_of p row start end x in
      let n = few_gains p row start end x g in
      let m = few_bits p row start end x g in
      let l = field_long p row start end x g in
      let t = min-le_left p.count (length p.gains) in
      let w : length (field_bytes bs) ≡ (length bs + 7) / 8 = length_with (replicate ((length bs + 7) / 8) 0) 0 bs ∙ length-replicate _ 0 in
      let h = plan_text_fits p (field_bytes bs) in
      omega (arith, length-take p.count p.gains)
  view_fits OnPages p g =
      let m = few_pages p row start end x g in
      let l = pages_long p row start end x in
      omega arith

  pub plan_fits_lem : (v : View) → length (plan_answer v row start end x) ≤ 32768
  unfolding plan_answer
  plan_fits_lem v = go (planned row start end x) refl
    where
      go : (r : Result Plan Refusal) → planned row start end x ≡ r → length (plan_or_refusal (λ p. view_of v p row start end x) r) ≤ 32768
      go (Ok p) g = view_fits v p g
      go (Err k) g = let h = refused_text_fits (number k) in omega arith

-- ---- the channel of a text
module _ (v : View) (s : List ℕ) (r : Result Shape Refusal) (is : r ≡ text_answer (channel_in s)) where
  pub text_none : (k : Refusal) → r ≡ Err k → refused_text (number k) ≡ desk_answer v s
  unfolding desk_answer
  text_none k e = go (channel_in s) (sym e ∙ is)
    where
      go : (c : TextChannel) → Err k ≡ text_answer c → refused_text (number k) ≡ channel_answer v c
      go none f = ap refused_text (ap answer_number f)
      go (channel a b row vs) f = absurd (ok_not_err _ k (sym f))

  -- its row and vectors stand at the front of the outputs
  module _ (p : Shape) (e : r ≡ Ok p) where
    pub few_numbers : p.count ≤ 256
    few_numbers = go (channel_in s) refl (sym e ∙ is)
      where
        go : (c : TextChannel) → channel_in s ≡ c → Ok p ≡ text_answer c → p.count ≤ 256
        go none g f = absurd (ok_not_err p Text f)
        go (channel i j row vs) g f = let z : p.count ≡ length row = cc in le_trans (le_of_eq z) ((text_read s i j row vs).1 g).allowed.few

    pub text_channel : (out row : List ℕ) (xs x : List Float) → row ≡ row_after (channel_in s) out → x ≡ vectors_after (channel_in s) xs
        → plan_answer v (take p.count row) p.start p.end (take (6 * p.count) x) ≡ desk_answer v s
    unfolding desk_answer
    text_channel out row xs x er ex = go (channel_in s) refl (sym e ∙ is) er ex
      where
        go : (c : TextChannel) → channel_in s ≡ c → Ok p ≡ text_answer c → row ≡ row_after c out → x ≡ vectors_after c xs
            → plan_answer v (take p.count row) p.start p.end (take (6 * p.count) x) ≡ channel_answer v c
        go none g f er ex = absurd (ok_not_err p Text f)
        go (channel i j hs vs) g f er ex =
            let za : p.start ≡ i = cc in
            let zb : p.end ≡ j = cc in
            let zn : p.count ≡ length hs = cc in
            let l : length (map component_of vs) ≡ 6 * length hs = length-map vs component_of ∙ ((text_read s i j hs vs).1 g).allowed.six in
            let u : take p.count row ≡ hs = rw (er, zn) (splice_read out hs 0 (omega arith)) in
            let w : take (6 * p.count) x ≡ map component_of vs = rw (ex, zn, sym l) (splice_read xs (map component_of vs) 0 (omega arith)) in
            rw (u, w, za, zb)
