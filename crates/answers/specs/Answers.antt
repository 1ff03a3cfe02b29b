-- Answers: a value, or why the call refuses.
use Rattle.std.specs.Prelude.{ℕ, Option, None, Some, Result, Ok, Err}
use Rattle.answers.specs.declared.Refusal.{Refusal}
use Rattle.answers.specs.Causes.{number}

-- the value where no cause holds, or the cause
abbrev pub answered : {A : Type 0} → Option Refusal → A → Result A Refusal
answered None a = Ok a
answered (Some k) a = Err k

-- as C has it: the number, 0 for no refusal,
abbrev pub answer_number : {A : Type 0} → Result A Refusal → ℕ
answer_number (Ok a) = 0
answer_number (Err k) = number k

-- and what a place holds afterwards: what f makes of the value, or what stood there before
abbrev pub after_answer : {A B : Type 0} → (A → B) → B → Result A Refusal → B
after_answer f v (Ok a) = f a
after_answer f v (Err k) = v

-- the value itself
abbrev pub value_or : {A : Type 0} → A → Result A Refusal → A
value_or = after_answer (λ a. a)
