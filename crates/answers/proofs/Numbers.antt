-- The numbers of refusals: 1 to 13, each its own. Assumes nothing.
use Prim.Native.Nat.{ℕ, ◌≤◌}
use mathlib.Core.Path.{◌≡◌, refl, sym, ap, ◌∙◌}
use mathlib.Core.List.{[], ◌∷◌}
use mathlib.Core.Bool.{Bool, true, false, cond}
use lib.ListN.{get_or}
use native.Mathlib.Omega.{arith}
use Rattle.std.specs.Prelude.{Option, None, Some, Result, Ok, Err, IsErr, IsErrAnd}
use Rattle.std.proofs.lemmas.Result.{err_from_is_err_and}
use Rattle.answers.specs.declared.Refusal.{Refusal}
use Rattle.answers.specs.declared.Refusal.TheVariants.{StartAboveEnd, EndAbove256, TooShort, HebapAbove19, Component, PlanMisfit, OutputFull, InputEnds, GroupWord, UnusedCode, NoQuantiser, OutOfRange, Text}
use Rattle.answers.specs.Causes.{number, cause_number, first_of}
use Rattle.answers.specs.Answers.{answered, answer_number}

-- a refusal has a number
pub numbered : (k : Refusal) → 1 ≤ number k
numbered StartAboveEnd = omega arith
numbered EndAbove256 = omega arith
numbered TooShort = omega arith
numbered HebapAbove19 = omega arith
numbered Component = omega arith
numbered PlanMisfit = omega arith
numbered OutputFull = omega arith
numbered InputEnds = omega arith
numbered GroupWord = omega arith
numbered UnusedCode = omega arith
numbered NoQuantiser = omega arith
numbered OutOfRange = omega arith
numbered Text = omega arith

-- an answer without one has a value
pub record Answered {A : Type 0} (r : Result A Refusal) : Type 0 where
  pub value : A
  pub is : r ≡ Ok value

-- and the number tells which refusal it is
abbrev by_number : ℕ → Refusal
by_number n = get_or (Text ∷ StartAboveEnd ∷ EndAbove256 ∷ TooShort ∷ HebapAbove19 ∷ Component ∷ PlanMisfit ∷ OutputFull ∷ InputEnds ∷ GroupWord ∷ UnusedCode ∷ NoQuantiser ∷ OutOfRange ∷ Text ∷ []) n Text

at_number : (k : Refusal) → by_number (number k) ≡ k
at_number StartAboveEnd = refl
at_number EndAbove256 = refl
at_number TooShort = refl
at_number HebapAbove19 = refl
at_number Component = refl
at_number PlanMisfit = refl
at_number OutputFull = refl
at_number InputEnds = refl
at_number GroupWord = refl
at_number UnusedCode = refl
at_number NoQuantiser = refl
at_number OutOfRange = refl
at_number Text = refl

pub same_refusal : (j k : Refusal) → number j ≡ number k → j ≡ k
same_refusal j k e = sym (at_number j) ∙ ap by_number e ∙ at_number k

-- ---- what the exit of a `?` returns: the refusal that it met
pub passed_on : {A : Type 0} {r : Result A Refusal} {k : Refusal} → IsErr r × IsErrAnd r (λ j. j ≡ k) → r ≡ Err k
passed_on {r = r} e = let p = err_from_is_err_and r e.1 in p.1 ∙ ap Err p.2

-- ---- causes that do not hold
pub none_of : (t : Bool) (k : Refusal) (d : Option Refusal) → cond t (Some k) d ≡ None → (t ≡ false) × (d ≡ None)
none_of true k d e = absurd (let z : ◌≡◌ {A = ℕ} (number k) 0 = ap cause_number e in let n = numbered k in omega arith)
none_of false k d e = (refl, e)

pub no_number : (c : Option Refusal) → cause_number c ≡ 0 → c ≡ None
no_number None e = refl
no_number (Some k) e = let n = numbered k in absurd (omega arith)

pub first_none : (c d : Option Refusal) → first_of c d ≡ None → (c ≡ None) × (d ≡ None)
first_none None d e = (refl, e)
first_none (Some k) d e = absurd (let z : ◌≡◌ {A = ℕ} (number k) 0 = ap cause_number e in let n = numbered k in omega arith)

-- the number of an answer is that of the cause
pub answered_number : {A : Type 0} (c : Option Refusal) (a : A) → answer_number (answered c a) ≡ cause_number c
answered_number None a = refl
answered_number (Some k) a = refl

-- what an answer says of the cause
pub held : {A : Type 0} (c : Option Refusal) (a : A) {r : Result A Refusal} {k : Refusal} → r ≡ answered c a → r ≡ Err k → c ≡ Some k
held None a {k = k} e f = absurd (let z : ◌≡◌ {A = ℕ} 0 (number k) = ap answer_number (sym e ∙ f) in let n = numbered k in omega arith)
held (Some j) a {k = k} e f = let g : ◌≡◌ {A = Result _ Refusal} (Err j) (Err k) = sym e ∙ f in let h : j ≡ k = cc in ap Some h

pub none_held : {A : Type 0} (c : Option Refusal) (a : A) {r : Result A Refusal} {b : A} → r ≡ answered c a → r ≡ Ok b → c ≡ None
none_held None a e f = refl
none_held (Some j) a e f = absurd (let z : ◌≡◌ {A = ℕ} (number j) 0 = ap answer_number (sym e ∙ f) in let n = numbered j in omega arith)
