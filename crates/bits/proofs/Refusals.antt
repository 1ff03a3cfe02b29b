-- Formats made of numbers refuse with 8 (`InputEnds`) alone, and more bits are enough for them. Assumes nothing.
use Prim.Native.Nat.{ℕ}
use mathlib.Core.Path.{◌≡◌, refl, sym, ap, ◌∙◌}
use mathlib.Core.List.{List, [], ◌∷◌, ◌++◌, append_assoc}
use mathlib.Core.Bool.{Bool, true, false, cond}
use native.Mathlib.Omega.{arith}
use borrow.Author.Tests.{le-leb}
use lib.Dec.{leb}
use lib.ListN.{length, length-append, length-replicate, take, drop, replicate}
use Rattle.answers.specs.declared.Refusal.{Refusal}
use Rattle.answers.specs.declared.Refusal.TheVariants.{InputEnds}
use Rattle.bits.specs.Bits.{number_of}
use Rattle.bits.specs.Format.{Got, got, refused, and_then, Format, number, only, both, tested, shown, each, each_dec}
use Rattle.bits.proofs.Lawful.{Lawful}

-- ---- a refusal is an 8
abbrev pub Eight : {A : Type 0} → Got A → Type 0
Eight (got a rest) = Unit {0}
Eight (refused k) = k ≡ InputEnds

abbrev pub Eights : {A : Type 0} → Format A → Type 0
Eights F = (bs : List Bool) → Eight (F.dec bs)

then : {A B : Type 0} (t : Got A) (f : A → List Bool → Got B) → Eight t → ((a : A) (rest : List Bool) → Eight (f a rest)) → Eight (and_then t f)
then (got a rest) f h k = k a rest
then (refused n) f h k = h

pub number_eights : (n : ℕ) → Eights (number n)
unfolding number
number_eights n bs = go (leb n (length bs))
  where
    go : (t : Bool) → Eight (cond t (got (number_of (take n bs)) (drop n bs)) (refused InputEnds))
    go true = tt
    go false = refl

pub both_eights : {A B : Type 0} (F : Format A) (G : A → Format B) → Eights F → ((a : A) → Eights (G a)) → Eights (both F G)
both_eights F G f g bs =
    then (F.dec bs) (λ a rest. and_then ((G a).dec rest) (λ b rest'. got (a, b) rest')) (f bs)
    (λ a rest. then ((G a).dec rest) (λ b rest'. got (a, b) rest') (g a rest) (λ b rest'. tt))

pub shown_eights : {A B : Type 0} (F : Format A) (to : A → B) (of : B → A) → Eights F → Eights (shown F to of)
shown_eights F to of f bs = then (F.dec bs) (λ a rest. got (to a) rest) (f bs) (λ a rest. tt)

pub each_eights : {R A : Type 0} (F : R → Format A) → ((r : R) → Eights (F r)) → (rs : List R) → Eights (each F rs)
unfolding each_dec
each_eights F f [] bs = tt
each_eights F f (r ∷ rs) bs =
    then ((F r).dec bs) (λ a rest. and_then (each_dec F rs rest) (λ xs rest'. got (a ∷ xs) rest')) (f r bs)
    (λ a rest. then (each_dec F rs rest) (λ xs rest'. got (a ∷ xs) rest') (each_eights F f rs rest) (λ xs rest'. tt))

-- ---- more bits are enough
pub record Enough {A : Type 0} (F : Format A) (bs : List Bool) : Type 0 where
  pub more : List Bool
  pub done : F.dec (bs ++ more) ≡ refused InputEnds → ⊥

abbrev pub Ends : {A : Type 0} → Format A → Type 0
Ends F = (bs : List Bool) → Enough F bs

pub got_not : {A : Type 0} (a : A) (rest : List Bool) (k : Refusal) → got a rest ≡ refused k → ⊥
got_not a rest k e = let z : ◌≡◌ {A = ℕ} 0 1 = cc in omega arith

pub number_ends : (n : ℕ) → Ends (number n)
unfolding number
number_ends n bs = record {
  more = replicate n false;
  done = λ e. got_not _ _ InputEnds (sym (ap (λ (t : Bool). cond t (got (number_of (take n (bs ++ replicate n false))) (drop n (bs ++ replicate n false))) (refused InputEnds)) long) ∙ e);
}
  where
    long : leb n (length (bs ++ replicate n false)) ≡ true
    long = le-leb n _ (rw (length-append, length-replicate) (omega arith))

pub only_ends : {A : Type 0} (a : A) → Ends (only a)
only_ends a bs = record { more = []; done = got_not a (bs ++ []) InputEnds }

-- what is read stays read with more behind it
kept : {A : Type 0} (F : Format A) → Lawful F → (bs rest more : List Bool) (a : A) → F.dec bs ≡ got a rest → F.dec (bs ++ more) ≡ got a (rest ++ more)
kept F f bs rest more a e =
    let s = f.sole bs rest a e in
    ap (λ (l : List Bool). F.dec (l ++ more)) s.0 ∙ ap F.dec (append_assoc (F.enc a) rest more) ∙ f.back a (rest ++ more) s.1

-- one format, and then what goes by its value
module _ {A B : Type 0} (F : Format A) (l : Lawful F) (f : Ends F) (D : A → List Bool → Got B) (more : A → List Bool → List Bool)
    (done : (a : A) (rest : List Bool) → D a (rest ++ more a rest) ≡ refused InputEnds → ⊥) where
  abbrev run : List Bool → Got B
  run bs = and_then (F.dec bs) D

  record Runs (bs : List Bool) : Type 0 where
    pub bits : List Bool
    pub ends : run (bs ++ bits) ≡ refused InputEnds → ⊥

  runs : (bs : List Bool) → Runs bs
  runs bs = go (F.dec (bs ++ (f bs).more)) refl
    where
      go : (t : Got A) → F.dec (bs ++ (f bs).more) ≡ t → Runs bs
      go (got a rest) e = record {
        bits = (f bs).more ++ more a rest;
        ends = λ q.
            done a rest
            (sym (ap (λ (t : Got A). and_then t D) (ap F.dec (sym (append_assoc bs (f bs).more (more a rest))) ∙ kept F l (bs ++ (f bs).more) rest (more a rest) a e)) ∙ q);
      }
      go (refused k) e = record {
        bits = (f bs).more;
        ends = λ q.
            let r : ◌≡◌ {A = Got B} (refused k) (refused InputEnds) = sym (ap (λ (t : Got A). and_then t D) e) ∙ q in
            let z : k ≡ InputEnds = cc in
            (f bs).done (e ∙ ap refused z);
      }

pub both_ends : {A B : Type 0} (F : Format A) (G : A → Format B) → Lawful F → Ends F → ((a : A) → Ends (G a)) → Ends (both F G)
both_ends {A} {B} F G l f g bs = record { more = r.bits; done = r.ends }
  where
    D : A → List Bool → Got (A × B)
    D a rest = and_then {B = A × B} ((G a).dec rest) (λ b rest'. got (a, b) rest')

    pair : (a : A) (t : Got B) → (t ≡ refused InputEnds → ⊥) → and_then {B = A × B} t (λ b rest'. got (a, b) rest') ≡ refused InputEnds → ⊥
    pair a (got b rest') n e = let p : A × B = (a, b) in got_not p rest' InputEnds e
    pair a (refused k) n e = let z : k ≡ InputEnds = cc in n (ap refused z)

    r : Runs F l f D (λ a rest. (g a rest).more) (λ a rest. pair a ((G a).dec (rest ++ (g a rest).more)) (g a rest).done) bs
    r = runs F l f D (λ a rest. (g a rest).more) (λ a rest. pair a ((G a).dec (rest ++ (g a rest).more)) (g a rest).done) bs

pub shown_ends : {A B : Type 0} (F : Format A) (to : A → B) (of : B → A) → Ends F → Ends (shown F to of)
shown_ends {A} {B} F to of f bs = record { more = (f bs).more; done = go (F.dec (bs ++ (f bs).more)) (f bs).done }
  where
    go : (t : Got A) → (t ≡ refused InputEnds → ⊥) → and_then t (λ a rest. got (to a) rest) ≡ refused InputEnds → ⊥
    go (got a rest) n e = got_not (to a) rest InputEnds e
    go (refused k) n e = let z : k ≡ InputEnds = cc in n (ap refused z)

pub tested_ends : {A : Type 0} (F : Format A) (ok : A → Bool) (n : Refusal) → (n ≡ InputEnds → ⊥) → Ends F → Ends (tested F ok n)
tested_ends {A} F ok n other f bs = record { more = (f bs).more; done = go (F.dec (bs ++ (f bs).more)) (f bs).done }
  where
    test : (a : A) (rest : List Bool) (t : Bool) → cond t (got a rest) (refused n) ≡ refused InputEnds → ⊥
    test a rest true e = got_not a rest InputEnds e
    test a rest false e = other cc

    go : (t : Got A) → (t ≡ refused InputEnds → ⊥) → and_then t (λ a rest. cond (ok a) (got a rest) (refused n)) ≡ refused InputEnds → ⊥
    go (got a rest) m e = test a rest (ok a) e
    go (refused k) m e = let z : k ≡ InputEnds = cc in m (ap refused z)

pub each_ends : {R A : Type 0} (F : R → Format A) → ((r : R) → Lawful (F r)) → ((r : R) → Ends (F r)) → (rs : List R) → Ends (each F rs)
unfolding each_dec
each_ends F l f [] bs = record { more = []; done = got_not [] (bs ++ []) InputEnds }
each_ends {R} {A} F l f (r ∷ rs) bs = go (each_ends F l f rs)
  where
    pair : (a : A) (t : Got (List A)) → (t ≡ refused InputEnds → ⊥) → and_then t (λ xs rest'. got (a ∷ xs) rest') ≡ refused InputEnds → ⊥
    pair a (got xs rest') n e = got_not (a ∷ xs) rest' InputEnds e
    pair a (refused k) n e = let z : k ≡ InputEnds = cc in n (ap refused z)

    go : Ends (each F rs) → Enough (each F (r ∷ rs)) bs
    go g =
        let q = runs (F r) (l r) (f r) (λ a rest. and_then (each_dec F rs rest) (λ xs rest'. got (a ∷ xs) rest')) (λ a rest. (g rest).more) (λ a rest. pair a (each_dec F rs (rest ++ (g rest).more)) (g rest).done) bs in
        record { more = q.bits; done = q.ends }

-- ---- what holds of every format that is made of numbers
pub record Rule (P : (A : Type 0) → Format A → Type 0) : Type 1 where
  pub numbers : (n : ℕ) → P ℕ (number n)
  pub nothings : {A : Type 0} (a : A) → P A (only a)
  pub boths : {A B : Type 0} (F : Format A) (G : A → Format B) → Lawful F → P A F → ((a : A) → P B (G a)) → P (A × B) (both F G)
  pub showns : {A B : Type 0} (F : Format A) (to : A → B) (of : B → A) → P A F → P B (shown F to of)
  pub eachs : {R A : Type 0} (F : R → Format A) → ((r : R) → Lawful (F r)) → ((r : R) → P A (F r)) → (rs : List R) → P (List A) (each F rs)

pub eights_rule : Rule (λ A F. Eights F)
eights_rule = record {
  numbers = number_eights;
  nothings = λ a bs. tt;
  boths = λ F G l f g. both_eights F G f g;
  showns = λ F to of f. shown_eights F to of f;
  eachs = λ F l f rs. each_eights F f rs;
}

pub ends_rule : Rule (λ A F. Ends F)
ends_rule = record {
  numbers = number_ends;
  nothings = λ a. only_ends a;
  boths = λ F G l f g. both_ends F G l f g;
  showns = λ F to of f. shown_ends F to of f;
  eachs = λ F l f rs. each_ends F l f rs;
}
