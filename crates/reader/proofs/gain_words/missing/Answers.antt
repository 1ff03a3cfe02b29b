-- `reader::gain_words::missing` meets its contract. Assumes nothing.
use mathlib.Core.Path.{◌≡◌, sym, ap, ◌∙◌}
use borrow.Author.Tests.{eq-eqb, ne_eqb}
use Rattle.gains.specs.Gains.{second_code}
use Rattle.gains.specs.declared.GroupCodes.{GroupCodes}
use Rattle.reader.specs.Work.{missing_code}
use Rattle.reader.proofs.gain_words.missing.Goals as goal

pub returns-then-c-ne0 : goal.returns-then-c-ne0
unfolding missing_code
returns-then-c-ne0 c = let second : (c.unpack-c.result.second ≡ second_code c.args.word) = (ap (λ (r : GroupCodes). r.second) c.unpack-c.ensures) in
    let a = c.args in
    sym (rw (eq-eqb a.left 1 c.if-left-eq1.true, ne_eqb (second_code a.word) 0 (λ z. c.if-c-ne0.true (second ∙ z))))

pub returns-then-left-eq1 : goal.returns-then-left-eq1
unfolding missing_code
returns-then-left-eq1 c = let second : (c.unpack-c.result.second ≡ second_code c.args.word) = (ap (λ (r : GroupCodes). r.second) c.unpack-c.ensures) in
    let a = c.args in
    rw (c.unpack-c.ensures, eq-eqb a.left 1 c.if-left-eq1.true, eq-eqb (second_code a.word) 0 (sym (second) ∙ c.if-c-ne0.false))

pub returns-then-left-eq2 : goal.returns-then-left-eq2
unfolding missing_code
returns-then-left-eq2 c = let a = c.args in
    rw (c.unpack-c.ensures, ne_eqb a.left 1 c.if-left-eq1.false, eq-eqb a.left 2 c.if-left-eq2.true)

pub returns : goal.returns
unfolding missing_code
returns c = let a = c.args in
    rw (ne_eqb a.left 1 c.if-left-eq1.false, ne_eqb a.left 2 c.if-left-eq2.false)
