-- Each format reads back what it writes, and reads nothing else.
use Prim.Native.Nat.{ℕ, ◌+◌, ◌-◌, ◌≤◌, ◌<◌, ◌^◌}
use mathlib.Core.Path.{◌≡◌, refl, sym, ap, ◌∙◌, subst}
use mathlib.Core.List.{List, [], ◌∷◌, ◌++◌, append_assoc, append-nil}
use mathlib.Core.Bool.{Bool, true, false, cond}
use mathlib.Core.Logic.{◌↔◌}
use native.Mathlib.Omega.{arith}
use native.Mathlib.Nat.{mod-eq_of_lt}
use lib.ListN.{length, take, drop, length-append, take-append-drop}
use lib.Seq.{take_at, drop_at, length-take-le}
use lib.Dec.{leb, T}
use borrow.Author.Tests.{le-leb, leb-true}
use Rattle.bits.specs.Bits.{bits_n, number_of, splice}
use Rattle.bits.proofs.Laws.{length_bits_n, number_bits, bits_number, number_of_lt}
use Rattle.answers.specs.declared.Refusal.{Refusal}
use Rattle.answers.specs.declared.Refusal.TheVariants.{InputEnds}
use Rattle.bits.specs.Format.{Got, got, refused, and_then, Format, number, only, both, tested, shown, each, each_Ok, each_enc, each_dec}
use Rattle.bits.specs.Work.{resume}

T_true : (b : Bool) → T b → b ≡ true
T_true true h = refl
T_true false h = absurd h

-- reading gives back what was written; and what is read is what is written of it
pub record Lawful {A : Type 0} (F : Format A) : Type 0 where
  pub back : (a : A) (rest : List Bool) → F.Ok a → F.dec (F.enc a ++ rest) ≡ got a rest
  pub sole : (bs rest : List Bool) (a : A) → F.dec bs ≡ got a rest → (bs ≡ F.enc a ++ rest) × F.Ok a

pub number_lawful : (n : ℕ) → Lawful (number n)
unfolding number
number_lawful n = record { back = b; sole = s }
  where
    b : (v : ℕ) (rest : List Bool) → v < 2 ^ n → (number n).dec (bits_n n v ++ rest) ≡ got v rest
    b v rest h =
        let fits : n ≤ length (bits_n n v ++ rest) = rw (length-append, length_bits_n) (omega arith) in
        rw (le-leb n _ fits, take_at (bits_n n v) rest n (length_bits_n n v), drop_at (bits_n n v) rest n (length_bits_n n v), number_bits n v, mod-eq_of_lt h)

    go : (bs rest : List Bool) (v : ℕ) (t : Bool) → leb n (length bs) ≡ t
        → cond t (got (number_of (take n bs)) (drop n bs)) (refused InputEnds) ≡ got v rest → (bs ≡ bits_n n v ++ rest) × (v < 2 ^ n)
    go bs rest v true h e =
        let k : length (take n bs) ≡ n = length-take-le n bs (leb-true _ _ h) in
        let ev : number_of (take n bs) ≡ v = cc in
        let er : drop n bs ≡ rest = cc in
        let eb : bits_n n (number_of (take n bs)) ≡ take n bs = rw k at (bits_number (take n bs)) in
        (rw (← ev, ← er, eb, take-append-drop), subst (λ (x : ℕ). x < 2 ^ n) ev (rw k at (number_of_lt (take n bs))))
    go bs rest v false h e = let z : ◌≡◌ {A = ℕ} 0 1 = cc in absurd (omega arith)

    s : (bs rest : List Bool) (v : ℕ) → (number n).dec bs ≡ got v rest → (bs ≡ bits_n n v ++ rest) × (v < 2 ^ n)
    s bs rest v e = go bs rest v (leb n (length bs)) refl e

pub only_lawful : {A : Type 0} (a : A) → Lawful (only a)
only_lawful {A} a = record { back = λ b rest h. cc; sole = λ bs rest b e. (cc, cc) }

module _ {A B : Type 0} (F : Format A) (G : A → Format B) (f : Lawful F) (g : (a : A) → Lawful (G a)) where
  both_back : (p : A × B) (rest : List Bool) → (both F G).Ok p → (both F G).dec ((both F G).enc p ++ rest) ≡ got p rest
  both_back p rest h = rw (append_assoc, f.back p.0 ((G p.0).enc p.1 ++ rest) h.0, (g p.0).back p.1 rest h.1)

  both_second : (bs mid rest : List Bool) (a : A) (p : A × B) → (bs ≡ F.enc a ++ mid) × F.Ok a → (t : Got B) → (G a).dec mid ≡ t
      → and_then t (λ b rest'. got (a, b) rest') ≡ got p rest → (bs ≡ (both F G).enc p ++ rest) × (both F G).Ok p
  both_second bs mid rest a p h (got b r) e q =
      let ep : ◌≡◌ {A = A × B} (a, b) p = cc in
      let er : r ≡ rest = cc in
      let s = (g a).sole mid r b e in
      subst (λ (x : A × B). (bs ≡ (both F G).enc x ++ rest) × (both F G).Ok x) ep (rw (append_assoc, ← er, ← s.0) h.0, (h.1, s.1))
  both_second bs mid rest a p h (refused n) e q = let z : ◌≡◌ {A = ℕ} 0 1 = cc in absurd (omega arith)

  both_first : (bs rest : List Bool) (p : A × B) (t : Got A) → F.dec bs ≡ t
      → and_then t (λ a mid. and_then ((G a).dec mid) (λ b rest'. got (a, b) rest')) ≡ got p rest → (bs ≡ (both F G).enc p ++ rest) × (both F G).Ok p
  both_first bs rest p (got a mid) e q = both_second bs mid rest a p (f.sole bs mid a e) ((G a).dec mid) refl q
  both_first bs rest p (refused n) e q = let z : ◌≡◌ {A = ℕ} 0 1 = cc in absurd (omega arith)

  pub both_lawful : Lawful (both F G)
  both_lawful = record { back = both_back; sole = λ bs rest p q. both_first bs rest p (F.dec bs) refl q }

module _ {A : Type 0} (F : Format A) (ok : A → Bool) (n : Refusal) (f : Lawful F) where
  tested_back : (a : A) (rest : List Bool) → (tested F ok n).Ok a → (tested F ok n).dec (F.enc a ++ rest) ≡ got a rest
  tested_back a rest h = rw (f.back a rest h.0, T_true (ok a) h.1)

  tested_test : (bs rest mid : List Bool) (a b : A) → (bs ≡ F.enc b ++ mid) × F.Ok b → (t : Bool) → ok b ≡ t
      → cond t (got b mid) (refused n) ≡ got a rest → (bs ≡ F.enc a ++ rest) × (tested F ok n).Ok a
  tested_test bs rest mid a b h true e q =
      let eb : b ≡ a = cc in
      let er : mid ≡ rest = cc in
      subst (λ (x : A). (bs ≡ F.enc x ++ rest) × (tested F ok n).Ok x) eb (rw (← er) h.0, (h.1, rw e tt))
  tested_test bs rest mid a b h false e q = let z : ◌≡◌ {A = ℕ} 0 1 = cc in absurd (omega arith)

  tested_first : (bs rest : List Bool) (a : A) (t : Got A) → F.dec bs ≡ t
      → and_then t (λ b mid. cond (ok b) (got b mid) (refused n)) ≡ got a rest → (bs ≡ F.enc a ++ rest) × (tested F ok n).Ok a
  tested_first bs rest a (got b mid) e q = tested_test bs rest mid a b (f.sole bs mid b e) (ok b) refl q
  tested_first bs rest a (refused m) e q = let z : ◌≡◌ {A = ℕ} 0 1 = cc in absurd (omega arith)

  pub tested_lawful : Lawful (tested F ok n)
  tested_lawful = record { back = tested_back; sole = λ bs rest a q. tested_first bs rest a (F.dec bs) refl q }

module _ {A B : Type 0} (F : Format A) (to : A → B) (of : B → A) (f : Lawful F) (kept : (a : A) → F.Ok a → of (to a) ≡ a) where
  shown_back : (b : B) (rest : List Bool) → (shown F to of).Ok b → (shown F to of).dec (F.enc (of b) ++ rest) ≡ got b rest
  shown_back b rest h = rw (f.back (of b) rest h.0, h.1)

  shown_first : (bs rest : List Bool) (b : B) (t : Got A) → F.dec bs ≡ t
      → and_then t (λ a mid. got (to a) mid) ≡ got b rest → (bs ≡ F.enc (of b) ++ rest) × (shown F to of).Ok b
  shown_first bs rest b (got a mid) e q =
      let eb : to a ≡ b = cc in
      let er : mid ≡ rest = cc in
      let s = f.sole bs mid a e in
      let k = kept a s.1 in
      subst (λ (x : B). (bs ≡ F.enc (of x) ++ rest) × (shown F to of).Ok x) eb (rw (k, ← er) s.0, (rw k s.1, ap to k))
  shown_first bs rest b (refused m) e q = let z : ◌≡◌ {A = ℕ} 0 1 = cc in absurd (omega arith)

  pub shown_lawful : Lawful (shown F to of)
  shown_lawful = record { back = shown_back; sole = λ bs rest b q. shown_first bs rest b (F.dec bs) refl q }

module _ {R A : Type 0} (F : R → Format A) (f : (r : R) → Lawful (F r)) where
  each_back : (rs : List R) (xs : List A) (rest : List Bool) → each_Ok F rs xs → each_dec F rs (each_enc F rs xs ++ rest) ≡ got xs rest
  unfolding each_Ok each_enc each_dec
  each_back [] [] rest h = refl
  each_back [] (x ∷ xs) rest h = absurd h
  each_back (r ∷ rs) [] rest h = absurd h
  each_back (r ∷ rs) (x ∷ xs) rest h = rw (append_assoc, (f r).back x (each_enc F rs xs ++ rest) h.0, each_back rs xs rest h.1)

  abbrev Sole : List R → Type 0
  Sole rs = (bs rest : List Bool) (xs : List A) → each_dec F rs bs ≡ got xs rest → (bs ≡ each_enc F rs xs ++ rest) × each_Ok F rs xs

  each_second : (r : R) (rs : List R) → Sole rs → (bs mid rest : List Bool) (a : A) (xs : List A) → (bs ≡ (F r).enc a ++ mid) × (F r).Ok a
      → (t : Got (List A)) → each_dec F rs mid ≡ t → and_then t (λ ys rest'. got (a ∷ ys) rest') ≡ got xs rest
      → (bs ≡ each_enc F (r ∷ rs) xs ++ rest) × each_Ok F (r ∷ rs) xs
  unfolding each_Ok each_enc
  each_second r rs ih bs mid rest a xs h (got ys rest') e q =
      let ex : ◌≡◌ {A = List A} (a ∷ ys) xs = cc in
      let er : rest' ≡ rest = cc in
      let s = ih mid rest' ys e in
      subst (λ (l : List A). (bs ≡ each_enc F (r ∷ rs) l ++ rest) × each_Ok F (r ∷ rs) l) ex (rw (append_assoc, ← er, ← s.0) h.0, (h.1, s.1))
  each_second r rs ih bs mid rest a xs h (refused n) e q = let z : ◌≡◌ {A = ℕ} 0 1 = cc in absurd (omega arith)

  each_first : (r : R) (rs : List R) → Sole rs → (bs rest : List Bool) (xs : List A) (t : Got A) → (F r).dec bs ≡ t
      → and_then t (λ a mid. and_then (each_dec F rs mid) (λ ys rest'. got (a ∷ ys) rest')) ≡ got xs rest
      → (bs ≡ each_enc F (r ∷ rs) xs ++ rest) × each_Ok F (r ∷ rs) xs
  each_first r rs ih bs rest xs (got a mid) e q = each_second r rs ih bs mid rest a xs ((f r).sole bs mid a e) (each_dec F rs mid) refl q
  each_first r rs ih bs rest xs (refused n) e q = let z : ◌≡◌ {A = ℕ} 0 1 = cc in absurd (omega arith)

  each_sole : (rs : List R) → Sole rs
  unfolding each_Ok each_enc each_dec
  each_sole [] bs rest xs e =
      let ex : ◌≡◌ {A = List A} [] xs = cc in
      let er : bs ≡ rest = cc in
      subst (λ (l : List A). (bs ≡ each_enc F [] l ++ rest) × each_Ok F [] l) ex (er, tt)
  each_sole (r ∷ rs) bs rest xs e = each_first r rs (each_sole rs) bs rest xs ((F r).dec bs) refl e

  pub each_lawful : (rs : List R) → Lawful (each F rs)
  each_lawful rs = record { back = each_back rs; sole = each_sole rs }

-- The bits that reading takes, of all bits and of those left.
abbrev pub taken : List Bool → List Bool → List Bool
taken bs rest = take (length bs - length rest) bs

module _ {A : Type 0} (F : Format A) (f : Lawful F) where
  pub taken_is : (bs rest : List Bool) (a : A) → F.dec bs ≡ got a rest → taken bs rest ≡ F.enc a
  taken_is bs rest a e =
      let s = f.sole bs rest a e in
      let k : length (F.enc a ++ rest) - length rest ≡ length (F.enc a) = rw length-append (omega arith) in
      rw s.0 (take_at (F.enc a) rest (length (F.enc a ++ rest) - length rest) (sym k))

  -- Two accepted fields are equal exactly when they show the same.
  pub same_shown : (bs bs' rest rest' : List Bool) (a a' : A) → F.dec bs ≡ got a rest → F.dec bs' ≡ got a' rest' → (taken bs rest ≡ taken bs' rest') ↔ (a ≡ a')
  same_shown bs bs' rest rest' a a' e e' = (
    λ h.
        let enc : F.enc a ≡ F.enc a' = sym (taken_is bs rest a e) ∙ h ∙ taken_is bs' rest' a' e' in
        let one : F.dec (F.enc a ++ []) ≡ got a [] = f.back a [] (f.sole bs rest a e).1 in
        let two : F.dec (F.enc a' ++ []) ≡ got a' [] = f.back a' [] (f.sole bs' rest' a' e').1 in
        cc,
    λ h. taken_is bs rest a e ∙ ap F.enc h ∙ sym (taken_is bs' rest' a' e'),
  )

-- The turns of a loop that reads one after the other.
pub resume_none : {A : Type 0} (g : Got (List A)) → resume [] g ≡ g
resume_none (got ys rest) = refl
resume_none (refused n) = refl

module _ {R A : Type 0} (F : R → Format A) where
  pub resume_next : (r : R) (rs : List R) (bs rest : List Bool) (xs : List A) (a : A) → (F r).dec bs ≡ got a rest
      → resume xs (each_dec F (r ∷ rs) bs) ≡ resume (xs ++ (a ∷ [])) (each_dec F rs rest)
  unfolding each_dec
  resume_next r rs bs rest xs a e = rw e (go (each_dec F rs rest))
    where
      go : (t : Got (List A)) → resume xs (and_then t (λ ys rest'. got (a ∷ ys) rest')) ≡ resume (xs ++ (a ∷ [])) t
      go (got ys rest') = rw append_assoc
      go (refused n) = refl

  pub resume_stop : (r : R) (rs : List R) (bs : List Bool) (xs : List A) (k : Refusal) → (F r).dec bs ≡ refused k → resume xs (each_dec F (r ∷ rs) bs) ≡ refused k
  unfolding each_dec
  resume_stop r rs bs xs k e = rw e

  pub resume_done : (bs : List Bool) (xs : List A) → resume xs (each_dec F [] bs) ≡ got xs bs
  unfolding each_dec
  resume_done bs xs = rw append-nil

-- What was put at a position is read back there, with as many bits used as were put.
pub read_back : {A : Type 0} (F : Format A) → Lawful F → (l : List Bool) (at : ℕ) (a : A) → at ≤ length l → F.Ok a
    → F.dec (drop at (splice l at (F.enc a))) ≡ got a (drop (at + length (F.enc a)) l)
unfolding splice
read_back F f l at a h o = rw (drop_at (take at l) (F.enc a ++ drop (at + length (F.enc a)) l) at (length-take-le at l h)) (f.back a (drop (at + length (F.enc a)) l) o)
