-- What a field's reader gives is what the format of a number reads of the bits ahead.
use Prim.Native.Nat.{ℕ, ◌+◌, ◌-◌, ◌*◌, ◌^◌, ◌≤◌, ◌<◌}
use mathlib.Core.Path.{◌≡◌, refl, sym, ap, ◌∙◌}
use mathlib.Core.List.{List}
use mathlib.Core.Logic.{inr}
use native.Mathlib.Omega.{arith}
use lib.ListN.{length, take, drop}
use Rattle.std.specs.Prelude.{Result, Ok, Err}
use Rattle.answers.specs.declared.Refusal.{Refusal}
use Rattle.bits.specs.Bits.{bits_of, number_of, bit_at, pos_of, read_u32}
use Rattle.bits.specs.Format.{number, Got, got, refused, move_answer}
use Rattle.bits.specs.Takes.{ahead, Takes}
use Rattle.bits.specs.declared.BitPos.{BitPos}
use Rattle.bits.specs.declared.field_reader.FieldReader.{FieldReader}
use Rattle.bits.proofs.Lawful.{number_lawful}
use Rattle.bits.proofs.Reading.{number_as, number_there, pos_is}

module _ (before now : FieldReader) (n : ℕ) (few : n ≤ 32) where
  abbrev s : List ℕ
  s = before.src.now

  taken_as : (v : ℕ) (p : BitPos) → (number n).dec (ahead before) ≡ got v (drop (bit_at p) (bits_of s)) → now.src.now ≡ s → now.pos ≡ p
      → Takes (λ v. v) ((number n).dec (ahead before)) (Ok v) (λ v. v < 2 ^ n) before now
  unfolding number
  taken_as v p e same place =
      let small = ((number_lawful n).sole (ahead before) _ v e).1 in
      rw e (record { is = refl; took = (same, rw (same, place) refl, small) })

  -- what read_u32 of the position answers
  pub number_got : (r : Result (ℕ × BitPos) Refusal) (v : ℕ) (p : BitPos) → r ≡ read_u32 s (bit_at before.pos) n → r ≡ Ok (v, p) → now.src.now ≡ s → now.pos ≡ p
      → Takes (λ v. v) ((number n).dec (ahead before)) (Ok v) (λ v. v < 2 ^ n) before now
  number_got r v p e u same place = taken_as v p (number_as s (bit_at before.pos) n few (inr before.inside.0) r (Ok (v, p)) e u) same place

  pub number_refused : (r : Result (ℕ × BitPos) Refusal) (k : Refusal) → r ≡ read_u32 s (bit_at before.pos) n → r ≡ Err k
      → Takes (λ v. v) ((number n).dec (ahead before)) (Err k) (λ v. v < 2 ^ n) before now
  number_refused r k e u = rw (number_as s (bit_at before.pos) n few (inr before.inside.0) r (Err k) e u) (record { is = refl; took = tt })

  -- what stands there
  pub word_got : (v : ℕ) → bit_at before.pos + n ≤ 8 * length s → v ≡ number_of (take n (ahead before)) → now.src.now ≡ s → now.pos ≡ pos_of (bit_at before.pos + n)
      → Takes (λ v. v) ((number n).dec (ahead before)) (Ok v) (λ v. v < 2 ^ n) before now
  word_got v there e same place = taken_as v (pos_of (bit_at before.pos + n)) (rw e (number_there s (bit_at before.pos) n few there)) same place

-- ---- from what was read to an answer, and back
module _ {A R : Type 0} (f : A → R) (G : Got A) (P : A → Type 0) (before now : FieldReader) where
  -- what an answer that is no refusal tells
  pub record GotTo (v : R) : Type 0 where
    pub value : A
    pub is : G ≡ got value (ahead now)
    pub same : now.src.now ≡ before.src.now
    pub left : P value
    pub shows : v ≡ f value

  pub takes_got : (a : A) → G ≡ got a (ahead now) → now.src.now ≡ before.src.now → P a → Takes f G (Ok (f a)) P before now
  takes_got a e same left = rw e (record { is = refl; took = (same, refl, left) })

  pub takes_refused : (k : Refusal) → G ≡ refused k → Takes f G (Err k) P before now
  takes_refused k e = rw e (record { is = refl; took = tt })

pub got_to : {A R : Type 0} (f : A → R) (G : Got A) (P : A → Type 0) (before now : FieldReader) (v : R) → Takes f G (Ok v) P before now → GotTo f G P before now v
got_to f (got a rest) P before now v t =
    let k = t.took in
    record { value = a; is = ap (got a) (sym k.1); same = k.0; left = k.2; shows = let u = t.is in cc }
got_to f (refused j) P before now v t = let u = t.is in let z : ◌≡◌ {A = ℕ} 0 1 = cc in absurd (omega arith)

pub refused_by : {A R : Type 0} (f : A → R) (G : Got A) (P : A → Type 0) (before now : FieldReader) (k : Refusal) → Takes f G (Err k) P before now → G ≡ refused k
refused_by f (got a rest) P before now k t = let u = t.is in let z : ◌≡◌ {A = ℕ} 0 1 = cc in absurd (omega arith)
refused_by f (refused j) P before now k t = let u = t.is in let e : k ≡ j = cc in ap refused (sym e)

-- what was read where the answer shows it whole, and that the bytes are the same
pub is_got : {A : Type 0} (G : Got A) (P : A → Type 0) (before now : FieldReader) (v : A) → Takes (λ a. a) G (Ok v) P before now → (G ≡ got v (ahead now)) × (now.src.now ≡ before.src.now)
is_got G P before now v t = let d = got_to (λ a. a) G P before now v t in (rw d.shows d.is, d.same)

-- the answer of a call that hands the position out
module _ {A R : Type 0} (f : A → R) (G : Got A) (P : A → Type 0) (before now : FieldReader) where
  pub moved : (v : R) → Takes f G (Ok v) P before now → Ok now.pos ≡ move_answer (8 * length before.src.now) G
  moved v t =
      let d = got_to f G P before now v t in
      ap Ok (sym (pos_is now.src.now now.pos now.inside) ∙ ap (λ (s : List ℕ). pos_of (8 * length s - length (ahead now))) d.same)
      ∙ ap (move_answer (8 * length before.src.now)) (sym d.is)

  pub not_moved : (k : Refusal) → Takes f G (Err k) P before now → Err k ≡ move_answer (8 * length before.src.now) G
  not_moved k t = ap (move_answer (8 * length before.src.now)) (sym (refused_by f G P before now k t))
