-- The answer of the channel reader, from the position behind the field. Assumes nothing.
use Prim.Native.Nat.{ℕ, ◌+◌, ◌-◌, ◌*◌, ◌≤◌}
use mathlib.Core.Path.{◌≡◌, refl, sym, ap, ◌∙◌}
use mathlib.Core.Bool.{Bool}
use mathlib.Core.List.{List}
use native.Mathlib.Omega.{arith}
use lib.ListN.{length, length-append, length-drop, drop}
use Rattle.std.specs.Prelude.{Ok, Err}
use Rattle.answers.specs.declared.Refusal.{Refusal}
use Rattle.bits.specs.Bits.{bits_of, bit_at}
use Rattle.bits.specs.Format.{Got, got}
use Rattle.bits.specs.Takes.{ahead, Takes}
use Rattle.bits.specs.declared.field_reader.FieldReader.{FieldReader}
use Rattle.bits.proofs.Laws.{length_bits_of}
use Rattle.bits.proofs.Taking.{got_to, refused_by}
use Rattle.channel.specs.Row.{no_gains}
use Rattle.channel.specs.Field.{Channel, lenient, field}
use Rattle.channel.proofs.Laws.{lenient_laws, field_lawful}
use Rattle.channel.proofs.Most.{field_most}
use Rattle.reader.specs.Reading.{Call, found, read_answer, answer_to}
use Rattle.reader.specs.declared.FieldHead.{FieldHead}
use Rattle.reader.specs.Work.{GainsPut, head_of, Near}
use Rattle.reader.proofs.Causes.{found_got}

-- how many bits are ahead
long : (r : FieldReader) → length (ahead r) ≡ 8 * length r.src.now - bit_at r.pos
long r = length-drop (bit_at r.pos) (bits_of r.src.now) ∙ ap (λ (k : ℕ). k - bit_at r.pos) (length_bits_of r.src.now)

module _ (row : List ℕ) (start end : ℕ) (c : Call) (first last : FieldReader) (same : first.src.now ≡ c.src) (at : bit_at first.pos ≡ c.at) (gains : List ℕ) where
  abbrev seen : Got Channel
  seen = found row start end c

  abbrev put : Channel → Type 0
  put d = GainsPut no_gains gains d.gains

  answer_of : (h : FieldHead) (d : Channel) (rest : List Bool) (b : ℕ) → seen ≡ got d rest → h ≡ head_of d → put d → b ≡ 8 * length c.src - c.at - length rest
      → Ok (record { mode = h.mode; gains = gains; count = h.count; bits = b }) ≡ answer_to row start end c
  answer_of h d rest b e f p k = rw (e, f, p, k) refl

  module _ (h : FieldHead) (t : Takes head_of seen (Ok h) put first last) where
    -- how far the field reaches
    reach : (c.at + length (ahead last) ≤ 8 * length c.src) × (8 * length c.src ≤ c.at + length (ahead last) + 65536)
    reach =
        let g = got_to head_of seen put first last h t in
        let f = found_got row start end c g.value (ahead last) g.is in
        let bs = drop c.at (bits_of c.src) in
        let s = (field_lawful lenient lenient_laws row start end).sole bs (ahead last) g.value f.is in
        let few = field_most lenient lenient_laws row start end g.value s.1 f.row_is.few in
        let l : length bs ≡ 8 * length c.src - c.at = length-drop c.at (bits_of c.src) ∙ ap (λ (k : ℕ). k - c.at) (length_bits_of c.src) in
        let o = ap length s.0 ∙ length-append ((field row start end).enc g.value) (ahead last) in
        let i = f.inside in
        (omega arith, omega arith)

    -- where the last reader stands
    stands : bit_at last.pos ≡ 8 * length c.src - length (ahead last)
    stands =
        let g = got_to head_of seen put first last h t in
        let n : length last.src.now ≡ length c.src = ap length (g.same ∙ same) in
        let l = long last in
        let i = last.inside in
        omega arith

    pub near : Near first.pos last.pos
    near = let r = reach in let s = stands in let i = last.inside in (omega arith, omega arith, i.1)

    pub answer_is : Ok (record { mode = h.mode; gains = gains; count = h.count; bits = bit_at last.pos - bit_at first.pos }) ≡ answer_to row start end c
    answer_is =
        let g = got_to head_of seen put first last h t in
        let r = reach in
        let s = stands in
        let b : bit_at last.pos - bit_at first.pos ≡ 8 * length c.src - c.at - length (ahead last) = omega arith in
        answer_of h g.value (ahead last) _ g.is g.shows g.left b

  pub answer_refused : (k : Refusal) → Takes head_of seen (Err k) put first last → Err k ≡ answer_to row start end c
  answer_refused k t = ap (read_answer (8 * length c.src - c.at)) (sym (refused_by head_of seen put first last k t))
