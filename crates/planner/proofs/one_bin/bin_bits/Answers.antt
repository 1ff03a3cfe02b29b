-- `planner::one_bin::bin_bits` meets its contract. Assumes nothing.
use mathlib.Core.Path.{sym, ap, ◌∙◌}
use mathlib.Core.Bool.{Bool, cond}
use native.Mathlib.Omega.{arith}
use Rattle.gains.proofs.Cases.{active_range}
use Rattle.planner.specs.Cost.{bin_bits}
use Rattle.planner.proofs.Codes.{bin_scalar}
use Rattle.planner.proofs.Steps.{plain_is}
use Rattle.planner.proofs.one_bin.bin_bits.Goals as goal

pub gain_bits-requires : goal.gain_bits-requires
gain_bits-requires c = record { le_hebap = active_range c.args.mode c.args.hebap (sym c.is_active.ensures ∙ c.if-is_active.true); six = omega arith }

pub returns-then-is_active : goal.returns-then-is_active
returns-then-is_active c = let a = c.args in
    let q = sym c.is_active.ensures ∙ c.if-is_active.true in
    c.gain_bits.ensures ∙ sym (bin_scalar a.hebap a.gain a.x.now (active_range a.mode a.hebap q).0) ∙ ap (λ (t : Bool). bin_bits a.hebap (cond t a.gain 1) a.x.now) (sym q)

pub returns : goal.returns
returns c = let a = c.args in
    let q = sym c.is_active.ensures ∙ c.if-is_active.false in
    c.plain_bits.ensures ∙ plain_is a.hebap a.x.now (omega arith) ∙ ap (λ (t : Bool). bin_bits a.hebap (cond t a.gain 1) a.x.now) (sym q)
