-- `pages::put_blank` meets its contract. Assumes nothing.
use native.Mathlib.Omega.{arith}
use borrow.Author.Rules.{rules}
use Prim.Native.Nat.{◌+◌, ◌*◌}
use mathlib.Core.Path.{◌≡◌, refl, ◌∙◌}
use lib.ListN.{length, length-set}
use Rattle.pages.proofs.Cells.{part, spaces_put, blank_none, blank_turn}
use Rattle.pages.proofs.put_blank.Goals as goal

pub loop-line-init : goal.loop-line-init
loop-line-init c = (refl, blank_none c.args.out.now)

pub loop-line-preserved : goal.loop-line-preserved
loop-line-preserved c =
    let i = c.loop-line.line in
    let r = c.requires in
    let e : length c.loop-line.out ≡ length c.args.out.now = c.loop-line.invariant.0 in
    let p = spaces_put c.loop-line.out c.fill.new.self (65 * i) 64 (omega arith) (c.fill.ensures.after (λ y h. search rules)) in
    (length-set _ (65 * i + 64) 10 ∙ (part 64 refl (omega arith) refl p).long ∙ e, blank_turn c.args.out.now c.loop-line.out _ i (omega arith) c.loop-line.invariant.1 p)
