-- `gains::fill_gaqbin` meets its contract. Assumes nothing.
use mathlib.Core.Path.{◌≡◌, sym, ap, ◌∙◌}
use borrow.Author.Tests.{lt-leb}
use lib.ListN.{get_or}
use mir.Syntax.{w8}
use mir.Val.{to_z, of_z}
use mir.ValLaws.{to_z-of_z}
use Rattle.gains.specs.Gains.{gaqbin_of, fill_gaqbin, gaqbin_after}
use Rattle.gains.proofs.Laws.{marked_start, marked_next, marked_all}
use native.Mathlib.Omega.{arith}
use Rattle.gains.proofs.fill_gaqbin.Goals as goal
use Rattle.gains.proofs.fill_gaqbin.Goals.{then-m-eq1, else-m-eq1}

pub returns-then-gaqmod-gt3 : goal.returns-then-gaqmod-gt3
unfolding fill_gaqbin gaqbin_after
returns-then-gaqmod-gt3 c = record { value = simp (lt-leb _ _ c.if-gaqmod-gt3.true); gaqbin_after = simp (lt-leb _ _ c.if-gaqmod-gt3.true) }

pub loop-i-init : goal.loop-i-init
loop-i-init c = let a = c.args in marked_start a.gaqmod a.hebap.now a.gaqbin.now

pub loop-i-preserved : goal.loop-i-preserved
loop-i-preserved c = let a = c.args in
    let m = to_z w8 (of_z w8 c.mark-m.result) in
    let z : m ≡ c.mark-m.result = to_z-of_z w8 c.mark-m.result (record { sfits = c.mark-m.type_inv }) in
    let e : m ≡ gaqbin_of a.gaqmod (get_or a.hebap.now c.loop-i.i 0) = z ∙ c.mark-m.ensures in
    let next = marked_next a.gaqmod a.hebap.now a.gaqbin.now c.loop-i.gaqbin c.loop-i.i c.loop-i.active c.loop-i.invariant m (omega arith) (omega arith) e c.if-m-eq1.active in
    elim c.if-m-eq1.branch [ then-m-eq1 w ↦ next.0 w.active-is (ap (to_z w8) w.if-m-eq1.true) | else-m-eq1 w ↦ next.1 w.active-is (λ q. w.if-m-eq1.false (ap (of_z w8) (sym z ∙ q))) ]

pub returns : goal.returns
returns c = let a = c.args in let both = marked_all a.gaqmod a.hebap.now a.gaqbin.now c.loop-i.gaqbin c.loop-i.i c.loop-i.active c.loop-i.invariant (omega arith) (omega arith) in record { value = both.0; gaqbin_after = both.1 }
