-- What a call that writes does, in terms of plain numbers and lists. Assumes nothing.
use Prim.Native.Nat.{ℕ, ◌+◌, ◌*◌, ◌/◌, ◌%◌, ◌^◌, ◌≤◌, ◌<◌}
use mathlib.Core.Path.{◌≡◌, refl, sym, ap, ◌∙◌, subst}
use mathlib.Core.Bool.{Bool, true, false, cond}
use mathlib.Core.List.{List, [], ◌++◌, append_assoc, append-nil}
use native.Mathlib.Omega.{arith}
use borrow.Author.Tests.{eq-eqb, ne_eqb, eqb-true, eqb-false}
use lib.Dec.{eqb}
use lib.ListN.{length, length-append}
use Rattle.bits.specs.Bits.{bits_n, bits_of, bit_at, pos_of}
use Rattle.bits.specs.Format.{number}
use Rattle.bits.specs.declared.BitPos.{BitPos}
use Rattle.bits.proofs.Laws.{bits_n_cat, length_bits_of, splice_none, splice_more}
use Rattle.tables.specs.Tables.{mant_bits}
use Rattle.tables.proofs.Rules.{mant_bits_lem}
use Rattle.levels.specs.declared.Code.{Code}
use Rattle.levels.specs.Codes.{tag, small_bits, large_bits, code_bits, tagged, coded, Accepted}
use Rattle.levels.specs.Work.{word_of}
use Rattle.levels.proofs.CodeLaws.{coded_one, coded_tagged}
use Rattle.levels.proofs.Signed.{small_width, large_width}
use Rattle.writer.specs.Puts.{Room, Puts}
use Rattle.writer.specs.declared.FieldWriter.{FieldWriter}

pub bit_of_lem : (k : ℕ) → bit_at (pos_of k) ≡ k
bit_of_lem k = omega arith

-- ---- the bits of a code, by its kind
module _ (m g : ℕ) where
  pub bits_one : (l : ℕ) → g ≡ 1 → (coded m g).enc (Code.Large l) ≡ bits_n m l
  unfolding number
  bits_one l e = rw (coded_one m g (eq-eqb g 1 e))

  pub bits_small : (s : ℕ) → (g ≡ 1 → ⊥) → (s ≡ tag (small_bits m g) → ⊥) → (coded m g).enc (Code.Small s) ≡ bits_n (small_bits m g) s
  unfolding number tagged
  bits_small s n t = rw (coded_tagged m g (ne_eqb g 1 n), ne_eqb s (tag (small_bits m g)) t) (append-nil (bits_n (small_bits m g) s))

  pub bits_large : (l : ℕ) → (g ≡ 1 → ⊥) → (coded m g).enc (Code.Large l) ≡ bits_n (small_bits m g) (tag (small_bits m g)) ++ bits_n (large_bits m g) l
  unfolding number tagged
  bits_large l n = rw (coded_tagged m g (ne_eqb g 1 n), eq-eqb (tag (small_bits m g)) (tag (small_bits m g)) refl)

-- a code as one number, its tag with it
pub word_bits_lem : (h g : ℕ) (c : Code) → Accepted h g c → (coded (mant_bits h) g).enc c ≡ bits_n (code_bits (mant_bits h) g c) (word_of (mant_bits h) g c)
word_bits_lem h g (Code.Small s) a = bits_small (mant_bits h) g s a.0 a.2
word_bits_lem h g (Code.Large l) a = go (eqb g 1) refl
  where
    go : (t : Bool) → eqb g 1 ≡ t → (coded (mant_bits h) g).enc (Code.Large l)
        ≡ bits_n (cond t (mant_bits h) (small_bits (mant_bits h) g + large_bits (mant_bits h) g)) (cond t l (tag (small_bits (mant_bits h) g) * 2 ^ large_bits (mant_bits h) g + l))
    go true e = bits_one (mant_bits h) g l (eqb-true g 1 e)
    go false e = bits_large (mant_bits h) g l (eqb-false g 1 e) ∙ sym (bits_n_cat (small_bits (mant_bits h) g) (large_bits (mant_bits h) g) (tag (small_bits (mant_bits h) g)) a)

pub word_width : (h g : ℕ) (c : Code) → 8 ≤ h → h ≤ 19 → code_bits (mant_bits h) g c ≤ 32
word_width h g c low high =
    let b = mant_bits_lem h low high in
    go c b.1 (small_width (mant_bits h) g b.0 b.1).1 (large_width (mant_bits h) g b.0 b.1).1
  where
    either : (m s l : ℕ) (t : Bool) → m ≤ 16 → s ≤ 16 → l ≤ 16 → cond t m (s + l) ≤ 32
    either m s l true p q r = omega arith
    either m s l false p q r = omega arith

    go : (c : Code) → mant_bits h ≤ 16 → small_bits (mant_bits h) g ≤ 16 → large_bits (mant_bits h) g ≤ 16 → code_bits (mant_bits h) g c ≤ 32
    go (Code.Small u) p q r = omega arith
    go (Code.Large u) p q r = either (mant_bits h) (small_bits (mant_bits h) g) (large_bits (mant_bits h) g) (eqb g 1) p q r

-- a position whose bit is below 8 is told by the bit that it names
pub named : (q : BitPos) (k : ℕ) → q.bit < 8 → bit_at q ≡ k → q ≡ pos_of k
named q k h e =
    let b : q.byte ≡ k / 8 = omega arith in
    let c : q.bit ≡ k % 8 = omega arith in
    λ i. record { byte = b i; bit = c i }

-- ---- bits put, none and one list behind the other
pub puts_none : (w : FieldWriter) → Puts [] w w
puts_none w = record { place = omega arith; long = refl; bits = sym (splice_none (bits_of w.out.now) (bit_at w.pos)); same_output = refl }

pub puts_both : {a b : List Bool} {w u v : FieldWriter} → Room (a ++ b) w → Puts a w u → Puts b u v → Puts (a ++ b) w v
puts_both {a} {b} {w} room f g =
    let n = length-append a b in
    let m = length_bits_of w.out.now in
    let k = f.place in
    let l = g.place in
    record {
      place = omega arith;
      long = g.long ∙ f.long;
      bits = g.bits ∙ rw (f.bits, k) (splice_more (bits_of w.out.now) a b (bit_at w.pos) (omega arith));
      same_output = g.same_output ∙ f.same_output;
    }

-- ---- a loop that writes a list of bits: what is written, and what is left of the whole
pub record Left (start now : FieldWriter) (rest whole : List Bool) : Type 0 where
  pub before : List Bool
  pub wrote : Puts before start now
  pub parts : before ++ rest ≡ whole

pub left_all : (w : FieldWriter) (whole : List Bool) → Left w w whole whole
left_all w whole = record { before = []; wrote = puts_none w; parts = refl }

-- what a turn writes, and what is left behind it
pub record Next (rest b rest' : List Bool) : Type 0 where
  pub is : rest ≡ b ++ rest'

module _ {start now : FieldWriter} {rest whole b rest' : List Bool} (l : Left start now rest whole) (r : Next rest b rest') (room : Room whole start) where
  left_long : length l.before + (length b + length rest') ≡ length whole
  left_long = ap (λ (k : ℕ). length l.before + k) (sym (length-append b rest') ∙ sym (ap length r.is)) ∙ sym (length-append l.before rest) ∙ ap length l.parts

  pub left_room : Room b now
  left_room =
      let k = left_long in
      let f = l.wrote.long in
      let g = l.wrote.place in
      omega arith

  pub left_next : (after : FieldWriter) → Puts b now after → Left start after rest' whole
  left_next after w =
      let k = left_long in
      let n = length-append l.before b in
      record {
        before = l.before ++ b;
        wrote = puts_both (omega arith) l.wrote w;
        parts = append_assoc l.before b rest' ∙ ap (λ (t : List Bool). l.before ++ t) (sym r.is) ∙ l.parts;
      }

pub left_none : {start now : FieldWriter} {rest whole : List Bool} → Left start now rest whole → rest ≡ [] → Puts whole start now
left_none {start} {now} l r =
    let a : l.before ≡ _ = sym (append-nil l.before) ∙ ap (λ (t : List Bool). l.before ++ t) (sym r) ∙ l.parts in
    subst (λ (bs : List Bool). Puts bs start now) a l.wrote
