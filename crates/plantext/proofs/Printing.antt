-- Laws of printing: parts put in one after another, and how long a part is. Assumes nothing.
use Prim.Native.Nat.{ℕ, zero, suc, ◌+◌, ◌-◌, ◌*◌, ◌/◌, ◌%◌, ◌≤◌, ◌<◌}
use mathlib.Core.Path.{◌≡◌, refl, sym, ap, ◌∙◌}
use mathlib.Core.List.{List, [], ◌∷◌, ◌++◌, append_assoc, append-nil}
use mathlib.Core.Bool.{Bool, true, false, cond}
use native.Mathlib.Omega.{arith}
use native.Mathlib.Nat.{le_of_lt}
use native.Mathlib.Numerals.{add-one}
use lib.ListN.{length, take, set, get_or, replicate, length-append}
use lib.Seq.{take-suc, drop-drop, length-take-le}
use lib.Dec.{leb}
use borrow.Author.Tests.{le-leb, lt-leb}
use borrow.Rule.Slice.PartMut.{put_mid}
use Rattle.bits.specs.Bits.{splice}
use Rattle.bits.proofs.Laws.{splice_none, splice_one, splice_more, length_splice}
use Rattle.planner.specs.Planning.{total_of, gains_of}
use Rattle.planner.specs.declared.Plan.{Plan}
use Rattle.plantext.specs.Work.{Put, Puts}
use Rattle.plantext.specs.declared.Printer.{Printer}
use Rattle.plantext.specs.PlanText.{decimal, numeral, hex_of, spaced, hexes, line, mode_name, gains_name, payload_name, total_name, field_name, refused_name, choice_lines, size_lines, plan_text, refused_text}

pub put_is : {out w after : List ℕ} {at r : ℕ} → at + length w ≤ length out → r ≡ at + length w → after ≡ splice out at w → Put out at w after r
put_is {out} {w} {at = at} f n e = record { fits = f; next = n; text = e; long = ap length e ∙ length_splice out w at f }

pub put_none : (out : List ℕ) (at : ℕ) → at ≤ length out → Put out at [] out at
put_none out at h = put_is (omega arith) (omega arith) (sym (splice_none out at))

pub put_byte : (out : List ℕ) (at b : ℕ) → at < length out → Put out at (b ∷ []) (set out at b) (at + 1)
put_byte out at b h = put_is (omega arith) refl (sym (splice_one out at b h))

-- one part after another
pub put_both : {out a mid b after : List ℕ} {at p r : ℕ} → Put out at a mid p → Put mid p b after r → Put out at (a ++ b) after r
put_both {out} {a} {mid} {b} {after} {at} {p} {r} x y =
    let n = length-append a b in
    let h = x.next in
    let k = y.next in
    let f = y.fits in
    let l = x.long in
    put_is (omega arith) (omega arith) (y.text ∙ rw (x.text, x.next) (splice_more out a b at (omega arith)))

-- the same of a printer
pub puts_none : (p : Printer) → p.at ≤ length p.out.now → Puts p p []
puts_none p h = record { put = put_none p.out.now p.at h; same_output = refl }

pub puts_both : {p q r : Printer} {a b : List ℕ} → Puts p q a → Puts q r b → Puts p r (a ++ b)
puts_both x y = record { put = put_both x.put y.put; same_output = y.same_output ∙ x.same_output }

-- ---- a byte string
-- a part of a slice that is written whole
pub put_mid_splice : {A : Type 0} (l new : List A) (at k : ℕ) → k ≡ length new → put_mid at k l new ≡ splice l at new
unfolding splice
put_mid_splice {A} l new at k e = rw e (ap (λ (r : List A). take at l ++ (new ++ r)) (drop-drop (length new) at l))

pub put_slice : (out w s : List ℕ) (at : ℕ) → at + length w ≤ length out → s ≡ w → Put out at w (put_mid at (at + length w - at) out s) (at + length w)
put_slice out w s at h e = put_is h refl (rw e (put_mid_splice out w at (at + length w - at) (omega arith)))

-- ---- a number
pub decimal_fits : (places n : ℕ) → length (decimal places n) ≤ places
unfolding decimal
decimal_fits zero n = omega arith
decimal_fits (suc places) n = go (leb 10 n) (decimal_fits places (n / 10))
  where
    go : (b : Bool) → length (decimal places (n / 10)) ≤ places → length (cond b (decimal places (n / 10) ++ ((48 + n % 10) ∷ [])) ((48 + n) ∷ [])) ≤ suc places
    go true h = rw (length-append (decimal places (n / 10)) ((48 + n % 10) ∷ [])) (omega arith)
    go false h = omega arith

module _ (n : ℕ) {p : Printer} where
  pub number_none : p.at ≤ length p.out.now → Puts p p (decimal 0 n)
  unfolding decimal
  number_none h = puts_none p h

  pub number_digit : (places : ℕ) → 0 < places → n < 10 → {r : Printer} → Puts p r ((48 + n % 10) ∷ []) → Puts p r (decimal places n)
  unfolding decimal
  number_digit zero h l x = absurd (omega arith)
  number_digit (suc places) h l x = let e : n % 10 ≡ n = omega arith in rw (lt-leb 10 n l) (rw e at x)

  pub number_more : (places : ℕ) → 0 < places → 10 ≤ n → {q r : Printer} → Puts p q (decimal (places - 1) (n / 10)) → Puts q r ((48 + n % 10) ∷ []) → Puts p r (decimal places n)
  unfolding decimal
  number_more zero h l x y = absurd (omega arith)
  number_more (suc places) h l {q} x y =
      let z : suc places - 1 ≡ places = omega arith in
      let v : Puts p q (decimal places (n / 10)) = rw z at x in
      rw (le-leb 10 n l) (puts_both v y)

-- ---- numbers after spaces
pub spaced_one : (n : ℕ) → spaced (n ∷ []) ≡ 32 ∷ numeral n
unfolding spaced
spaced_one n = append-nil (32 ∷ numeral n)

spaced_append : (xs ys : List ℕ) → spaced (xs ++ ys) ≡ spaced xs ++ spaced ys
unfolding spaced
spaced_append [] ys = refl
spaced_append (x ∷ xs) ys = ap (λ (l : List ℕ). (32 ∷ numeral x) ++ l) (spaced_append xs ys) ∙ sym (append_assoc (32 ∷ numeral x) (spaced xs) (spaced ys))

-- eleven bytes a number at most
pub spaced_fits : (ns : List ℕ) → length (spaced ns) ≤ 11 * length ns
unfolding spaced
spaced_fits [] = omega arith
spaced_fits (n ∷ ns) = let h = spaced_fits ns in let d = decimal_fits 10 n in rw (length-append (32 ∷ numeral n) (spaced ns)) (omega arith)

pub spaced_none : (p : Printer) (ns : List ℕ) → p.at ≤ length p.out.now → Puts p p (spaced (take 0 ns))
unfolding spaced
spaced_none p ns h = puts_none p h

-- after the first i of them there is room for another
pub spaced_room : (ns : List ℕ) (i : ℕ) → i < length ns → length (spaced (take i ns)) + 11 ≤ 11 * length ns
spaced_room ns i h = let f = spaced_fits (take i ns) in let l = length-take-le i ns (le_of_lt h) in omega arith

pub spaced_turn : {p q r : Printer} (ns : List ℕ) (i : ℕ) → i < length ns → Puts p q (spaced (take i ns)) → Puts q r (spaced (get_or ns i 0 ∷ [])) → Puts p r (spaced (take (i + 1) ns))
spaced_turn ns i h x y = rw (add-one, take-suc ns i 0 h, spaced_append) (puts_both x y)

-- ---- bytes in hex
pub length_hexes : (bs : List ℕ) → length (hexes bs) ≡ 3 * length bs
unfolding hexes
length_hexes [] = refl
length_hexes (b ∷ bs) = let h = length_hexes bs in omega arith

hexes_append : (xs ys : List ℕ) → hexes (xs ++ ys) ≡ hexes xs ++ hexes ys
unfolding hexes
hexes_append [] ys = refl
hexes_append (x ∷ xs) ys = ap (λ (l : List ℕ). 32 ∷ hex_of (x / 16) ∷ hex_of (x % 16) ∷ l) (hexes_append xs ys)

pub hexes_none : (p : Printer) (bs : List ℕ) → p.at ≤ length p.out.now → Puts p p (hexes (take 0 bs))
unfolding hexes
hexes_none p bs h = puts_none p h

pub hexes_room : (bs : List ℕ) (i : ℕ) → i < length bs → length (hexes (take i bs)) + 3 ≤ 3 * length bs
hexes_room bs i h = let f = length_hexes (take i bs) in let l = length-take-le i bs (le_of_lt h) in omega arith

-- the three bytes of one
pub hexes_turn : {p q r : Printer} (bs : List ℕ) (i x y : ℕ) → i < length bs → Puts p q (hexes (take i bs))
    → x ≡ hex_of (get_or bs i 0 / 16) → y ≡ hex_of (get_or bs i 0 % 16) → Puts q r (32 ∷ x ∷ y ∷ []) → Puts p r (hexes (take (i + 1) bs))
unfolding hexes
hexes_turn bs i x y h a ex ey b = rw (add-one, take-suc bs i 0 h, hexes_append, ← ex, ← ey) (puts_both a b)

-- ---- lines
length_line : (name items : List ℕ) → length (line name items) ≡ 3 + (length name + length items)
unfolding line
length_line name items = simp length-append (omega arith)

pub puts_line : {p q r s : Printer} (name items : List ℕ) → Puts p q (40 ∷ name) → Puts q r items → Puts r s (41 ∷ 10 ∷ []) → Puts p s (line name items)
unfolding line
puts_line name items x y z = puts_both x (puts_both y z)

pub number_line_fits : (name : List ℕ) (n : ℕ) → length (line name (spaced (n ∷ []))) ≤ 14 + length name
number_line_fits name n = let h = spaced_fits (n ∷ []) in rw length_line (omega arith)

pub gains_line_fits : (gains : List ℕ) → length (line gains_name (spaced gains)) ≤ 8 + 11 * length gains
gains_line_fits gains = let h = spaced_fits gains in rw length_line (omega arith)

pub field_line_fits : (bs : List ℕ) → length (line field_name (hexes bs)) ≤ 8 + 3 * length bs
field_line_fits bs = let h = length_hexes bs in rw length_line (omega arith)

pub choice_fits_lem : (mode : ℕ) (gains : List ℕ) → length (choice_lines mode gains) ≤ 26 + 11 * length gains
unfolding choice_lines
choice_fits_lem mode gains =
    let h = number_line_fits mode_name mode in
    let k = gains_line_fits gains in
    rw length-append (omega arith)

pub sizes_fit : (payload total : ℕ) → length (size_lines payload total) ≤ 40
unfolding size_lines
sizes_fit payload total =
    let h = number_line_fits payload_name payload in
    let k = number_line_fits total_name total in
    rw length-append (omega arith)

-- ---- the answers
pub plan_text_fits : (p : Plan) (field : List ℕ) → length (plan_text p field) ≤ 82 + (11 * length (gains_of p) + 3 * length field)
unfolding plan_text
plan_text_fits p field =
    let h = choice_fits_lem p.mode (gains_of p) in
    let k = sizes_fit p.payload (total_of p) in
    let l = field_line_fits field in
    simp length-append (omega arith)

pub refused_text_fits : (n : ℕ) → length (refused_text n) ≤ 21
unfolding refused_text
refused_text_fits n = number_line_fits refused_name n

-- their second bytes tell a plan from a refusal
pub plan_no_refusal : (p : Plan) (field : List ℕ) (n : ℕ) → plan_text p field ≡ refused_text n → ⊥
unfolding plan_text refused_text line
plan_no_refusal p field n e = let z : ◌≡◌ {A = ℕ} 112 114 = ap (λ (l : List ℕ). get_or l 1 0) e in omega arith

-- a number of one digit is not 13
pub digit_not_13 : (n : ℕ) → n < 10 → refused_text n ≡ refused_text 13 → ⊥
unfolding refused_text line spaced decimal
digit_not_13 n h e = let z : ◌≡◌ {A = ℕ} 12 13 = ap length (rw (lt-leb 10 n h) at e) in omega arith

-- ---- the example of docs/FORMAT.md
unfoldable pub sample_plan : Plan
sample_plan = record { mode = 1; gains = 2 ∷ replicate 255 0; count = 1; payload = 13 }

unfoldable pub sample_text : List ℕ
sample_text =
    40 ∷ 112 ∷ 108 ∷ 97 ∷ 110 ∷ 10 ∷  -- (plan
    40 ∷ 109 ∷ 111 ∷ 100 ∷ 101 ∷ 32 ∷ 49 ∷ 41 ∷ 10 ∷  -- (mode 1)
    40 ∷ 103 ∷ 97 ∷ 105 ∷ 110 ∷ 115 ∷ 32 ∷ 50 ∷ 41 ∷ 10 ∷  -- (gains 2)
    40 ∷ 112 ∷ 97 ∷ 121 ∷ 108 ∷ 111 ∷ 97 ∷ 100 ∷ 32 ∷ 49 ∷ 51 ∷ 41 ∷ 10 ∷  -- (payload 13)
    40 ∷ 116 ∷ 111 ∷ 116 ∷ 97 ∷ 108 ∷ 32 ∷ 49 ∷ 53 ∷ 41 ∷ 10 ∷  -- (total 15)
    40 ∷ 102 ∷ 105 ∷ 101 ∷ 108 ∷ 100 ∷ 32 ∷ 54 ∷ 57 ∷ 32 ∷ 56 ∷ 48 ∷ 41 ∷ 10 ∷  -- (field 69 80)
    41 ∷ 10 ∷ []  -- )

pub sample_text_lem : plan_text sample_plan (0x69 ∷ 0x80 ∷ []) ≡ sample_text
unfolding plan_text choice_lines size_lines line spaced decimal hexes hex_of sample_plan sample_text
sample_text_lem = refl

-- (gains)
no_gains_line : line gains_name (spaced []) ≡ 40 ∷ 103 ∷ 97 ∷ 105 ∷ 110 ∷ 115 ∷ 41 ∷ 10 ∷ []
unfolding line spaced
no_gains_line = refl

-- (refused 13)
pub refused_sample : refused_text 13 ≡ 40 ∷ 114 ∷ 101 ∷ 102 ∷ 117 ∷ 115 ∷ 101 ∷ 100 ∷ 32 ∷ 49 ∷ 51 ∷ 41 ∷ 10 ∷ []
unfolding refused_text line spaced decimal
refused_sample = refl
