-- `levels::remap_of` meets its contract. Assumes nothing.
use mathlib.Core.Path.{◌≡◌, ◌∙◌, ap}
use mir.Syntax.{w16}
use Rattle.levels.specs.Exact.{slope, offset, offset_below}
use Rattle.levels.specs.Value.{q15}
use Rattle.levels.specs.Work.{remap_of}
use Rattle.levels.proofs.Signed.{back}
use Rattle.levels.proofs.remap_of.Goals as goal

pub returns : goal.returns
unfolding remap_of
returns c = let x = c.args in
    let s = c.slope_at in
    let o = c.offset_by_sign in
    let p = c.offset_by_sign-2 in
    let a : c.q15.result ≡ q15 (slope x.hebap x.gk) =
    c.q15.ensures ∙ ap q15 (back w16 s.result s.type_inv s.ensures) in
    let u : c.q15-2.result ≡ q15 (offset x.hebap x.gk) = c.q15-2.ensures ∙ ap q15 (back w16 o.result o.type_inv o.ensures) in
    let b : c.q15-3.result ≡ q15 (offset_below x.hebap x.gk) = c.q15-3.ensures ∙ ap q15 (back w16 p.result p.type_inv p.ensures) in
    rw (a, u, b)
