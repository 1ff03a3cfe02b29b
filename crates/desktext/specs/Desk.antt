-- What the desk prints for a text. docs/FORMAT.md, Desk text, Pages and cause 13.
use Rattle.std.specs.Prelude.{ℕ, ◌+◌, ◌/◌, Bool, List, map, Float, length, replicate, Result, Ok, Err}
use Rattle.answers.specs.Causes.{number}
use Rattle.answers.specs.declared.Refusal.{Refusal}
use Rattle.answers.specs.declared.Refusal.TheVariants.{Text}
use Rattle.bits.specs.Bits.{bytes_with}
use Rattle.planner.specs.Planning.{planned}
use Rattle.planner.specs.declared.Plan.{Plan}
use Rattle.writer.specs.Written.{field_of}
use Rattle.plantext.specs.PlanText.{plan_text, refused_text}
use Rattle.pages.specs.Pages.{pages_text}
use Rattle.desktext.specs.Printed.{component_of}
use Rattle.desktext.specs.Channel.{TextChannel, channel, none, channel_in}
use Rattle.desktext.specs.declared.View.{View}

-- the bytes of a field, unused last bits 0
abbrev pub field_bytes : List Bool → List ℕ
field_bytes bs = bytes_with (replicate ((length bs + 7) / 8) 0) 0 bs

-- a plan with the field written from it, or on pages
abbrev pub view_of : View → Plan → List ℕ → ℕ → ℕ → List Float → List ℕ
view_of View.WithField p row start end x = plan_text p (field_bytes (field_of p row start end x))
view_of View.OnPages p row start end x = pages_text p row start end x

-- what f shows of a plan, or a refusal
abbrev pub plan_or_refusal : (Plan → List ℕ) → Result Plan Refusal → List ℕ
plan_or_refusal f (Ok p) = f p
plan_or_refusal f (Err k) = refused_text (number k)

-- the view of the planner's plan of a row and its vectors, or the planner's refusal
unfoldable pub plan_answer : View → List ℕ → ℕ → ℕ → List Float → List ℕ
plan_answer v row start end x = plan_or_refusal (λ p. view_of v p row start end x) (planned row start end x)

-- 13 comes first
abbrev pub channel_answer : View → TextChannel → List ℕ
channel_answer v (channel start end row vs) = plan_answer v row start end (map component_of vs)
channel_answer v none = refused_text (number Text)

unfoldable pub desk_answer : View → List ℕ → List ℕ
desk_answer v text = channel_answer v (channel_in text)
