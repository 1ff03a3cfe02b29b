-- The field of a choice, one part put behind the other, and the call by its cases. Assumes nothing.
use Prim.Native.Nat.{ℕ, ◌+◌, ◌*◌, ◌≤◌, ◌<◌}
use mathlib.Core.Path.{◌≡◌, refl, sym, ap, ◌∙◌, subst}
use mathlib.Core.Bool.{Bool}
use mathlib.Core.List.{List, ◌++◌}
use native.Mathlib.Omega.{arith}
use borrow.Author.Tests.{le-leb, lt-leb}
use lib.ListN.{length, length-append}
use lib.Ieee.{Float}
use Rattle.bits.specs.Bits.{bits_n, bits_of, splice, bit_at, pos_of, bytes_with}
use Rattle.bits.specs.Format.{number}
use Rattle.bits.specs.declared.BitPos.{BitPos}
use Rattle.bits.proofs.Laws.{Bytes, bytes_with_lem}
use Rattle.channel.specs.declared.bins.Bins.{Bins}
use Rattle.channel.specs.Field.{gain_words}
use Rattle.planner.specs.declared.Plan.{Plan}
use Rattle.planner.specs.Choice.{Choice}
use Rattle.planner.specs.Planning.{total_of}
use Rattle.planner.specs.Fit.{plan_cause}
use Rattle.std.specs.Prelude.{None, Some, Result, Ok, Err}
use Rattle.answers.specs.declared.Refusal.{Refusal}
use Rattle.answers.specs.declared.Refusal.TheVariants.{OutputFull}
use Rattle.writer.specs.Written.{field_of, write_cause, write_cause_up_to, channel_write, channel_write_up_to, channel_written, channel_written_up_to}
use Rattle.writer.specs.Work.{bins_enc, gains_enc, choice_enc}
use Rattle.writer.specs.Puts.{Room, Puts}
use Rattle.writer.specs.declared.FieldWriter.{FieldWriter}
use Rattle.writer.proofs.Turns.{named, puts_both}

-- ---- the field of a choice: the mode, then its gain words, then the bins
module _ (mode : ℕ) (gains : List ℕ) (b : Bins) (x : List Float) (choice : Choice mode gains b.row.now b.start b.end) where
  abbrev first : List Bool
  first = bits_n 2 mode

  abbrev second : List Bool
  second = gains_enc mode gains

  abbrev third : List Bool
  third = bins_enc mode gains b x b.start

  abbrev whole : List Bool
  whole = choice_enc mode gains b x

  whole_is : whole ≡ first ++ (second ++ third)
  unfolding number
  whole_is = ap (λ (n : ℕ). first ++ ((gain_words mode n).enc gains ++ third)) (sym choice.one_each)

  lengths : length whole ≡ length first + (length second + length third)
  lengths = ap length whole_is ∙ length-append first (second ++ third) ∙ ap (λ (k : ℕ). length first + k) (length-append second third)

  module _ (w : FieldWriter) (room : Room whole w) where
    pub mode_room : Room first w
    mode_room = let l = lengths in omega arith

    module _ (u : FieldWriter) (f : Puts first w u) where
      pub gains_room : Room second u
      gains_room = let l = lengths in let n = f.place in let m = f.long in omega arith

      module _ (v : FieldWriter) (g : Puts second u v) where
        pub bins_room : Room third v
        bins_room = let l = lengths in let n = f.place in let m = f.long in let i = g.place in let j = g.long in omega arith

        pub field_put : (z : FieldWriter) → Puts third v z → Puts whole w z
        field_put z h =
            let l = lengths in
            let n = f.place in
            let m = f.long in
            let a = length-append second third in
            let e = length-append first (second ++ third) in
            subst (λ (bs : List Bool). Puts bs w z) (sym whole_is) (puts_both (omega arith) f (puts_both (omega arith) g h))

-- ---- the call
module _ (p : Plan) (row : List ℕ) (start end : ℕ) (x : List Float) (out : List ℕ) (at : ℕ) where
  abbrev pub Answers : Result BitPos Refusal → List ℕ → Type 0
  Answers r e = (r ≡ channel_write p row start end x out at) × (e ≡ channel_written p row start end x out at)

  refused_with : (k : Refusal) → write_cause p row start end x (8 * length out) at ≡ Some k → Answers (Err k) out
  unfolding channel_write_up_to channel_written_up_to
  refused_with k e = rw e (refl, refl)

  pub call_cause : (k : Refusal) → plan_cause p row start end x ≡ Some k → Answers (Err k) out
  unfolding write_cause_up_to
  call_cause k e = refused_with k (rw e)

  module _ (none : plan_cause p row start end x ≡ None) where
    pub call_short : 8 * length out < at + total_of p → Answers (Err OutputFull) out
    unfolding write_cause_up_to
    call_short h = refused_with OutputFull (rw (none, lt-leb (at + total_of p) (8 * length out) h))

    pub call_good : at + total_of p ≤ 8 * length out → length (field_of p row start end x) ≡ total_of p → (r : BitPos) (e : List ℕ)
        → r ≡ pos_of (at + length (field_of p row start end x)) → e ≡ bytes_with out at (field_of p row start end x) → Answers (Ok r) e
    unfolding write_cause_up_to channel_write_up_to channel_written_up_to
    call_good h l r e i j =
        rw (none, le-leb (at + total_of p) (8 * length out) h) (ap Ok (i ∙ ap (λ (n : ℕ). pos_of (at + n)) l), j)

    -- a writer that has put the field, where e is its output
    pub call_put : at + total_of p ≤ 8 * length out → length (field_of p row start end x) ≡ total_of p → (w v : FieldWriter) → bit_at w.pos ≡ at → w.out.now ≡ out
        → Puts (field_of p row start end x) w v → (e : List ℕ) → e ≡ v.out.now → Bytes e → Answers (Ok v.pos) e
    call_put h l w v i j f e k b =
        let from : bit_at v.pos ≡ at + length (field_of p row start end x) = f.place ∙ rw i in
        let long : length e ≡ length out = rw (k, f.long, j) in
        let bits : bits_of e ≡ splice (bits_of out) at (field_of p row start end x) = rw k (f.bits ∙ rw (i, j)) in
        call_good h l v.pos e (named v.pos _ v.bit_small from) (bytes_with_lem out e at (field_of p row start end x) long b bits)
