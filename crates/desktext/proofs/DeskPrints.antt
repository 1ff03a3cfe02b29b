-- What the desk prints, in the words of docs/FORMAT.md ('Desk text', 'Pages', 'Causes and refusals'): a text of the
-- grammar is answered with its channel's plan, with its field or on pages, and (refused 13) is printed exactly for texts
-- of no channel. Assumes nothing.
-- The theorems are about `desk_answer`; `desk` and `desk_from` put it at the front of the output and answer its length
-- (their contracts), and the last section says the same of these bytes.
use Prim.Native.Nat.{ℕ, ◌*◌, ◌≤◌}
use mathlib.Core.Path.{◌≡◌, refl, sym, ap, ◌∙◌}
use mathlib.Core.Bool.{false, not, and-false, true≢false}
use mathlib.Core.Logic.{◌↔◌}
use mathlib.Core.List.{List, [], ◌∷◌, map}
use native.Mathlib.Omega.{arith}
use lib.Ieee.{Float}
use lib.Dec.{eqb, lit≤}
use lib.ListN.{length, get_or, take}
use Rattle.std.specs.Prelude.{None, Some}
use Rattle.answers.specs.Causes.{number}
use Rattle.answers.specs.declared.Refusal.{Refusal}
use Rattle.answers.specs.declared.Refusal.TheVariants.{Component}
use Rattle.bits.specs.Bits.{splice}
use Rattle.bits.proofs.Laws.{splice_read}
use Rattle.levels.specs.Component.{largest_size, some_too_large}
use Rattle.levels.proofs.Wider.{all_wider, some_part}
use Rattle.channel.proofs.Over.{none_over}
use Rattle.planner.specs.Planning.{beyond_at, too_large_at, cause_of, plan_of}
use Rattle.planner.proofs.Answer.{cause_five, planned_good, planned_refused}
use Rattle.plantext.specs.PlanText.{refused_text}
use Rattle.plantext.proofs.Printing.{refused_text_fits, sample_text}
use Rattle.desktext.specs.Printed.{IsText, component_of}
use Rattle.desktext.specs.Channel.{TextChannel, channel, none, channel_in}
use Rattle.desktext.specs.Desk.{view_of, plan_answer, channel_answer, desk_answer}
use Rattle.desktext.specs.declared.View.{View}
use Rattle.desktext.specs.declared.View.TheVariants.{WithField, OnPages}
use Rattle.desktext.proofs.Component.{components_most}
use Rattle.desktext.proofs.Texts.{text_read}
use Rattle.desktext.proofs.Answers.{plan_never_13, plan_fits_lem}
use Rattle.desktext.proofs.Examples.{example_text, example_vectors, example_page, example, example_planned}

-- ---- texts and answers
-- a text of the grammar for bins, row and vectors is answered with that channel's plan
pub desk_plans : (v : View) (a b : ℕ) (row vs s : List ℕ) → IsText a b row vs s → desk_answer v s ≡ plan_answer v row a b (map component_of vs)
unfolding desk_answer
desk_plans v a b row vs s t = ap (channel_answer v) ((text_read s a b row vs).0 t)

-- that is the plan with its field, or its pages, where none of causes 1 to 5 holds, and the lowest cause where one does
module _ (v : View) (a b : ℕ) (row vs s : List ℕ) (t : IsText a b row vs s) where
  abbrev x : List Float
  x = map component_of vs

  pub desk_plan_lem : cause_of row a b x ≡ None → desk_answer v s ≡ view_of v (plan_of row x a b) row a b x
  unfolding plan_answer
  desk_plan_lem h = desk_plans v a b row vs s t ∙ rw (sym (planned_good row a b x (plan_of row x a b) refl h))

  pub desk_cause : (k : Refusal) → cause_of row a b x ≡ Some k → desk_answer v s ≡ refused_text (number k)
  unfolding plan_answer
  desk_cause k e = desk_plans v a b row vs s t ∙ rw (sym (planned_refused row a b x k e))

  -- and 5 is never met: no component of a text is above 512 in size
  pub desk_never_5 : cause_of row a b x ≡ Some Component → ⊥
  unfolding beyond_at
  desk_never_5 e =
      let fine : some_too_large x ≡ false = all_wider 512 largest_size (lit≤ tt) x (components_most vs t.allowed.numbers) in
      true≢false (sym (cause_five row a b x e) ∙ none_over (too_large_at row x) a b (λ k l u. rw (some_part largest_size (6 * k) 6 x fine) (and-false (not (eqb (get_or row k 0) 0)))))

-- (refused 13) is printed exactly for texts of no channel
pub desk_refuses : (v : View) (s : List ℕ) → (desk_answer v s ≡ refused_text 13) ↔ ((a b : ℕ) (row vs : List ℕ) → IsText a b row vs s → ⊥)
unfolding desk_answer
desk_refuses v s = (λ e a b row vs t. plan_never_13 row a b (map component_of vs) v (sym (desk_plans v a b row vs s t) ∙ e), λ n. unread (channel_in s) refl n)
  where
    unread : (c : TextChannel) → channel_in s ≡ c → ((a b : ℕ) (row vs : List ℕ) → IsText a b row vs s → ⊥) → channel_answer v (channel_in s) ≡ refused_text 13
    unread none e n = ap (channel_answer v) e
    unread (channel a b row vs) e n = absurd (n a b row vs ((text_read s a b row vs).1 e))

-- a text has one channel at most
pub one_channel : (s : List ℕ) (a b : ℕ) (row vs : List ℕ) (c d : ℕ) (hs ws : List ℕ) → IsText a b row vs s → IsText c d hs ws s
    → (a ≡ c) × (b ≡ d) × (row ≡ hs) × (vs ≡ ws)
one_channel s a b row vs c d hs ws t u =
    let e : channel a b row vs ≡ channel c d hs ws = sym ((text_read s a b row vs).0 t) ∙ (text_read s c d hs ws).0 u in
    (cc, cc, cc, cc)

-- the example of docs/FORMAT.md is a text of its channel, and what it shows is printed
pub example_is_text : IsText 0 2 (8 ∷ 0 ∷ []) example_vectors example_text
example_is_text = (text_read example_text 0 2 (8 ∷ 0 ∷ []) example_vectors).1 example

pub example_printed : desk_answer WithField example_text ≡ sample_text
example_printed = desk_plans WithField 0 2 (8 ∷ 0 ∷ []) example_vectors example_text example_is_text ∙ example_planned.0

pub example_on_pages : desk_answer OnPages example_text ≡ example_page
example_on_pages = desk_plans OnPages 0 2 (8 ∷ 0 ∷ []) example_vectors example_text example_is_text ∙ example_planned.1

-- every answer fits the output of `desk`
pub printed_fits : (v : View) (s : List ℕ) → length (desk_answer v s) ≤ 32768
unfolding desk_answer
printed_fits v s = go (channel_in s)
  where
    go : (c : TextChannel) → length (channel_answer v c) ≤ 32768
    go none = let h = refused_text_fits 13 in omega arith
    go (channel a b row vs) = plan_fits_lem row a b (map component_of vs) v

-- ---- the same of the call
-- r is what `desk` answers for a text, or `desk_from` for the first bytes of an input, and `after` the output that they
-- leave: the first r bytes are printed
module _ (v : View) (text out after : List ℕ) (r : ℕ) (answered : r ≡ length (desk_answer v text)) (put : after ≡ splice out 0 (desk_answer v text)) where
  pub printed : take r after ≡ desk_answer v text
  printed = rw (answered, put) (splice_read out (desk_answer v text) 0 (omega arith))

  pub prints_plan : (a b : ℕ) (row vs : List ℕ) → IsText a b row vs text → take r after ≡ plan_answer v row a b (map component_of vs)
  prints_plan a b row vs t = printed ∙ desk_plans v a b row vs text t

  pub prints_refusal : (take r after ≡ refused_text 13) ↔ ((a b : ℕ) (row vs : List ℕ) → IsText a b row vs text → ⊥)
  prints_refusal = (λ e. (desk_refuses v text).0 (sym printed ∙ e), λ n. printed ∙ (desk_refuses v text).1 n)
