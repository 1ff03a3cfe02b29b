-- The loop over the six codes of a bin: what is known before each turn, and what a turn does. Assumes nothing.
use Prim.Native.Nat.{ℕ, zero, suc, ◌+◌, ◌-◌, ◌≤◌, ◌<◌}
use mathlib.Core.Path.{◌≡◌, refl, sym, ap, ◌∙◌}
use mathlib.Core.List.{List, [], ◌∷◌, ◌++◌, map, append_assoc, append-nil}
use mathlib.Core.Bool.{Bool}
use native.Mathlib.Omega.{arith}
use lib.IntN.{ℤ}
use lib.Ieee.{Float}
use lib.ListN.{length, set, replicate, take, drop, length-append, length-map}
use Rattle.std.specs.Prelude.{Result, Ok, Err, ⊤}
use Rattle.answers.specs.declared.Refusal.{Refusal}
use Rattle.bits.specs.Bits.{splice}
use Rattle.bits.specs.Format.{Got, got, refused, and_then, Format, each_Ok, each_dec}
use Rattle.bits.specs.Takes.{ahead, Takes}
use Rattle.bits.specs.Work.{resume}
use Rattle.bits.specs.declared.field_reader.FieldReader.{FieldReader}
use Rattle.bits.proofs.Laws.{splice_none}
use Rattle.bits.proofs.Copying.{put_more, part_spliced, splice_whole}
use Rattle.bits.proofs.Taking.{takes_got, takes_refused, got_to, refused_by}
use Rattle.bits.proofs.Lawful.{each_lawful, resume_none, resume_next, resume_stop, resume_done}
use Rattle.tables.specs.Tables.{mant_bits}
use Rattle.levels.specs.declared.Code.{Code}
use Rattle.levels.specs.Codes.{coded, six}
use Rattle.levels.specs.Exact.{exact_of}
use Rattle.levels.specs.Value.{value_of}
use Rattle.levels.proofs.CodeLaws.{coded_lawful}
use Rattle.scalars.specs.Scalars.{values_read, scalars_after}
use Rattle.scalars.specs.Work.{code_and, codes_there, six_values, six_exacts, SixLeft}

-- ---- the codes that are there
module _ (F : Format Code) (n : ℕ) (bs : List Bool) where
  there_more : (c : Code) (rest : List Bool) → F.dec bs ≡ got c rest → codes_there F (suc n) bs ≡ c ∷ codes_there F n rest
  unfolding codes_there
  there_more c rest e = rw e

  there_cut : (k : Refusal) → F.dec bs ≡ refused k → codes_there F (suc n) bs ≡ []
  unfolding codes_there
  there_cut k e = rw e

there_none : (F : Format Code) (bs : List Bool) → codes_there F 0 bs ≡ []
unfolding codes_there
there_none F bs = refl

module _ (h g : ℕ) (bs : List Bool) (v : List Float) (x : List ℤ) where
  -- the codes read so far, and the bits that are left
  pub record SoFar (left : List Bool) (j : ℕ) (v' : List Float) (x' : List ℤ) : Type 0 where
    pub cs : List Code
    pub count : length cs ≡ j
    pub few : j ≤ 6
    pub rest : (six (mant_bits h) g).dec bs ≡ resume cs (each_dec (λ (k : ℕ). coded (mant_bits h) g) (replicate (6 - j) 0) left)
    pub there : codes_there (coded (mant_bits h) g) 6 bs ≡ cs ++ codes_there (coded (mant_bits h) g) (6 - j) left
    pub values : v' ≡ splice v 0 (map (value_of h g) cs)
    pub exacts : x' ≡ splice x 0 (map (exact_of h g) cs)

  pub none_yet : SoFar bs 0 v x
  none_yet =
      record {
        cs = [];
        count = refl;
        few = omega arith;
        rest = sym (resume_none _);
        there = refl;
        values = sym (splice_none v 0);
        exacts = sym (splice_none x 0);
      }

  -- what a loop leaves
  abbrev pub Left : List Float → List ℤ → Type 0
  Left v' x' = (v' ≡ six_values h g 0 bs v) × (x' ≡ six_exacts h g 0 bs x)

module _ {h g : ℕ} {bs : List Bool} {v : List Float} {x : List ℤ} {left : List Bool} {j : ℕ} {v' : List Float} {x' : List ℤ} (f : SoFar h g bs v x left j v' x') where
  abbrev one : ℕ → Format Code
  one k = coded (mant_bits h) g

  -- in lists that are given by equations
  pub in_lists : (v'' : List Float) (x'' : List ℤ) → v'' ≡ v' → x'' ≡ x' → SoFar h g bs v x left j v'' x''
  in_lists v'' x'' e e' = rw (e, e') f

  -- where the codes so far are all that are there
  put : codes_there (coded (mant_bits h) g) 6 bs ≡ f.cs → Left h g bs v x v' x'
  unfolding six_values six_exacts
  put e = (rw e f.values, rw e f.exacts)

  module _ (more : j < 6) where
    turns : 6 - j ≡ suc (6 - (j + 1))
    turns = omega arith

    places : replicate {A = ℕ} (6 - j) 0 ≡ 0 ∷ replicate (6 - (j + 1)) 0
    places = ap (λ (n : ℕ). replicate {A = ℕ} n 0) turns

    pub one_more_lem : (c : Code) (rest : List Bool) (y : Float) (z : ℤ) → 6 ≤ length v → 6 ≤ length x
        → (coded (mant_bits h) g).dec left ≡ got c rest → y ≡ value_of h g c → z ≡ exact_of h g c
        → SoFar h g bs v x rest (j + 1) (set v' j y) (set x' j z)
    one_more_lem c rest y z hv hx e ey ez =
        let k = f.count in
        let o : 0 + length f.cs ≡ length f.cs = omega arith in
        let hv' : 0 + length f.cs < length v = omega arith in
        let hx' : 0 + length f.cs < length x = omega arith in
        let pv : set (splice v 0 (map (value_of h g) f.cs)) (0 + length f.cs) (value_of h g c) ≡ splice v 0 (map (value_of h g) (f.cs ++ (c ∷ []))) = put_more (value_of h g) v 0 f.cs c hv' in
        let px : set (splice x 0 (map (exact_of h g) f.cs)) (0 + length f.cs) (exact_of h g c) ≡ splice x 0 (map (exact_of h g) (f.cs ++ (c ∷ []))) = put_more (exact_of h g) x 0 f.cs c hx' in
        record {
          cs = f.cs ++ (c ∷ []);
          count = length-append f.cs (c ∷ []) ∙ ap (λ (n : ℕ). n + 1) k;
          few = omega arith;
          rest = f.rest ∙ rw places (resume_next one 0 (replicate (6 - (j + 1)) 0) left rest f.cs c e);
          there =
              f.there ∙ rw (turns, there_more (coded (mant_bits h) g) (6 - (j + 1)) left c rest e)
              (sym (append_assoc f.cs (c ∷ []) (codes_there (coded (mant_bits h) g) (6 - (j + 1)) rest)));
          values = rw (ey, f.values, ← k) (rw o at pv);
          exacts = rw (ez, f.exacts, ← k) (rw o at px);
        }

    -- the bits run out
    pub cut : (k : Refusal) → (coded (mant_bits h) g).dec left ≡ refused k → ((six (mant_bits h) g).dec bs ≡ refused k) × Left h g bs v x v' x'
    cut k e = (
      f.rest ∙ rw places (resume_stop one 0 (replicate (6 - (j + 1)) 0) left f.cs k e),
      put (f.there ∙ rw (turns, there_cut (coded (mant_bits h) g) (6 - (j + 1)) left k e, append-nil)),
    )

  -- all six are there
  pub all_read : 6 ≤ j → ((six (mant_bits h) g).dec bs ≡ got f.cs left) × Left h g bs v x v' x'
  all_read l =
      let z : 6 - j ≡ 0 = omega arith in
      let n : replicate {A = ℕ} (6 - j) 0 ≡ [] = ap (λ (n : ℕ). replicate {A = ℕ} n 0) z in (
        f.rest ∙ rw n (resume_done one left f.cs),
        put (f.there ∙ rw (z, there_none (coded (mant_bits h) g) left, append-nil)),
      )

-- ---- the six values put out
counted : {A : Type 0} (F : ℕ → Format A) (n : ℕ) (cs : List A) → each_Ok F (replicate n 0) cs → length cs ≡ n
unfolding each_Ok
counted F zero [] o = refl
counted F zero (c ∷ cs) o = absurd o
counted F (suc n) [] o = absurd o
counted F (suc n) (c ∷ cs) o = ap suc (counted F n cs o.1)

six_there : (m g : ℕ) (bs rest : List Bool) (cs : List Code) → (six m g).dec bs ≡ got cs rest → length cs ≡ 6
six_there m g bs rest cs e = counted (λ k. coded m g) 6 cs ((each_lawful (λ k. coded m g) (λ k. coded_lawful m g) (replicate 6 0)).sole bs rest cs e).1

-- the codes of a bin that is there are all the codes that are there
pub all_there : (F : Format Code) (n : ℕ) (bs rest : List Bool) (cs : List Code) → each_dec (λ (k : ℕ). F) (replicate n 0) bs ≡ got cs rest → codes_there F n bs ≡ cs
unfolding each_dec codes_there
all_there F zero bs rest cs e = let q : [] ≡ cs = cc in q
all_there F (suc n) bs rest cs e = first (λ mid rest' ds u. all_there F n mid rest' ds u) (F.dec bs) refl e
  where
    second : (c : Code) (mid : List Bool) (G : Got (List Code)) → each_dec (λ (k : ℕ). F) (replicate n 0) mid ≡ G → and_then G (λ ds rest'. got (c ∷ ds) rest') ≡ got cs rest
        → ((ds : List Code) (rest' : List Bool) → each_dec (λ (k : ℕ). F) (replicate n 0) mid ≡ got ds rest' → codes_there F n mid ≡ ds) → c ∷ codes_there F n mid ≡ cs
    second c mid (got ds rest') d q r = let k : c ∷ ds ≡ cs = cc in ap (λ l. c ∷ l) (r ds rest' d) ∙ k
    second c mid (refused j) d q r = let z : ◌≡◌ {A = ℕ} 0 1 = cc in absurd (omega arith)

    first : ((mid rest' : List Bool) (ds : List Code) → each_dec (λ (k : ℕ). F) (replicate n 0) mid ≡ got ds rest' → codes_there F n mid ≡ ds) → (G : Got Code) → F.dec bs ≡ G
        → and_then G (λ c mid. and_then (each_dec (λ (k : ℕ). F) (replicate n 0) mid) (λ ds rest'. got (c ∷ ds) rest')) ≡ got cs rest
        → code_and G (λ mid. codes_there F n mid) ≡ cs
    first r (got c mid) d q = second c mid (each_dec (λ (k : ℕ). F) (replicate n 0) mid) refl q (λ ds rest' u. r mid rest' ds u)
    first r (refused j) d q = let z : ◌≡◌ {A = ℕ} 0 1 = cc in absurd (omega arith)

-- where all six are there, their values are all that is left
module _ (h g : ℕ) (bs rest : List Bool) (cs : List Code) where
  all_put : {A : Type 0} (f : Code → A) (v : List A) → (six (mant_bits h) g).dec bs ≡ got cs rest → length v ≡ 6 → splice v 0 (map f (codes_there (coded (mant_bits h) g) 6 bs)) ≡ map f cs
  all_put f v d l =
      let k = six_there (mant_bits h) g bs rest cs d in
      ap (λ l. splice v 0 (map f l)) (all_there (coded (mant_bits h) g) 6 bs rest cs d) ∙ splice_whole v (map f cs) (l ∙ sym k ∙ sym (length-map cs f))

  values_whole : (v : List Float) → (six (mant_bits h) g).dec bs ≡ got cs rest → length v ≡ 6 → six_values h g 0 bs v ≡ map (value_of h g) cs
  unfolding six_values
  values_whole = all_put (value_of h g)

  exacts_whole : (x : List ℤ) → (six (mant_bits h) g).dec bs ≡ got cs rest → length x ≡ 6 → six_exacts h g 0 bs x ≡ map (exact_of h g) cs
  unfolding six_exacts
  exacts_whole = all_put (exact_of h g)

-- the six values of a bin that is there
pub values_all : (h g : ℕ) (out v v' : List Float) (before now : FieldReader) → v' ≡ six_values h g 0 (ahead before) v → length v ≡ 6
    → Takes (λ cs. tt) ((six (mant_bits h) g).dec (ahead before)) (Ok (tt {0})) (λ cs. Unit) before now → v' ≡ scalars_after out (values_read h g (ahead before))
values_all h g out v v' before now is long t =
    let d = got_to (λ cs. tt) ((six (mant_bits h) g).dec (ahead before)) (λ cs. Unit) before now tt t in
    is ∙ values_whole h g (ahead before) (ahead now) d.value v d.is long
    ∙ ap (λ (G : Got (List Code)). scalars_after out (and_then G (λ cs rest. got (map (value_of h g) cs) rest))) (sym d.is)

-- the values of six places after reading, where all six are there
pub six_left : (h g : ℕ) (v v' : List Float) (x x' : List ℤ) (before now : FieldReader) (r : Result ⊤ Refusal) → length v ≡ 6 → length x ≡ 6 → v' ≡ six_values h g 0 (ahead before) v → x' ≡ six_exacts h g 0 (ahead before) x
    → Takes (λ cs. tt {0}) ((six (mant_bits h) g).dec (ahead before)) r (λ cs. Unit {0}) before now → Takes (λ cs. tt {0}) ((six (mant_bits h) g).dec (ahead before)) r (SixLeft h g v' x') before now
six_left h g v v' x x' before now (Ok u) lv lx ev ex t =
    let d = got_to (λ cs. tt {0}) ((six (mant_bits h) g).dec (ahead before)) (λ cs. Unit {0}) before now tt t in
    takes_got (λ cs. tt {0}) ((six (mant_bits h) g).dec (ahead before)) (SixLeft h g v' x') before now d.value d.is d.same
    (ev ∙ values_whole h g (ahead before) (ahead now) d.value v d.is lv, ex ∙ exacts_whole h g (ahead before) (ahead now) d.value x d.is lx)
six_left h g v v' x x' before now (Err k) lv lx ev ex t =
    takes_refused (λ cs. tt {0}) ((six (mant_bits h) g).dec (ahead before)) (SixLeft h g v' x') before now k (refused_by (λ cs. tt {0}) ((six (mant_bits h) g).dec (ahead before)) (λ cs. Unit {0}) before now k t)

-- ---- six places of longer outputs
there_few : (F : Format Code) (n : ℕ) (bs : List Bool) → length (codes_there F n bs) ≤ n
unfolding codes_there
there_few F zero bs = omega arith
there_few F (suc n) bs = go (F.dec bs) (λ rest. there_few F n rest)
  where
    go : (G : Got Code) → ((rest : List Bool) → length (codes_there F n rest) ≤ n) → length (code_and G (λ rest. codes_there F n rest)) ≤ suc n
    go (got c rest) r = let k = r rest in omega arith
    go (refused k) r = omega arith

module _ (h g : ℕ) (bs : List Bool) (at : ℕ) where
  put_there : {A : Type 0} (f : Code → A) (v : List A) → at + 6 ≤ length v
      → splice v at (splice (take 6 (drop at v)) 0 (map f (codes_there (coded (mant_bits h) g) 6 bs))) ≡ splice v at (map f (codes_there (coded (mant_bits h) g) 6 bs))
  put_there f v fits =
      let k = there_few (coded (mant_bits h) g) 6 bs in
      let l = length-map (codes_there (coded (mant_bits h) g) 6 bs) f in
      part_spliced v _ at 6 (omega arith) fits

  -- what six places hold after reading is what the whole output holds
  pub values_placed : (v v' : List Float) (n : ℕ) → n ≡ 6 → at + 6 ≤ length v → v' ≡ six_values h g 0 bs (take n (drop at v)) → splice v at v' ≡ six_values h g at bs v
  unfolding six_values
  values_placed v v' n six fits e = ap (splice v at) (rw six at e) ∙ put_there (value_of h g) v fits

  pub exacts_placed : (x x' : List ℤ) (n : ℕ) → n ≡ 6 → at + 6 ≤ length x → x' ≡ six_exacts h g 0 bs (take n (drop at x)) → splice x at x' ≡ six_exacts h g at bs x
  unfolding six_exacts
  exacts_placed x x' n six fits e = ap (splice x at) (rw six at e) ∙ put_there (exact_of h g) x fits
