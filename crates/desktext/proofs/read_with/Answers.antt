-- `desktext::read_with` meets its contract. Assumes nothing.
use mathlib.Core.Path.{◌≡◌, refl, ap, ◌∙◌}
use Rattle.std.specs.Prelude.{Err}
use Rattle.answers.specs.declared.Refusal.TheVariants.{Text}
use Rattle.answers.proofs.Numbers.{passed_on}
use Rattle.desktext.proofs.Longest.{channel_too_long}
use Rattle.desktext.proofs.Outputs.{channel_broken, channel_listed}
use Rattle.desktext.proofs.read_with.Goals as goal

pub returns-then-text-gt-LONGEST : goal.returns-then-text-gt-LONGEST
returns-then-text-gt-LONGEST c = rw (channel_too_long c.args.text.now c.if-text-gt-LONGEST.true) record { value = refl; row_after = refl; vectors_after = refl }

pub returns-in_err-n : goal.returns-in_err-n
returns-in_err-n c =
    let e = c.in_err-n.ensures in
    let v = rw e.ok_part at e.value in
    let k : c.in_err-n.field-0.0 ≡ Text = cc in
    let refused = passed_on c.from_residual.ensures ∙ ap Err k in
    rw (channel_broken c.args.text.now c.tokens_in.new.out c.if-text-gt-LONGEST.false (rw e.ok_part at c.tokens_in.ensures)) record { value = refused; row_after = refl; vectors_after = refl }

pub returns : goal.returns
returns c = rw (channel_listed c.args.text.now c.tokens_in.new.out c.in_ok-n.n c.if-text-gt-LONGEST.false (rw c.in_ok-n.ensures.ok_part at c.tokens_in.ensures)) c.read_tokens.ensures
