-- `gains::put_code` meets its contract. Assumes nothing.
use mathlib.Core.Path.{sym}
use mathlib.Core.List.{◌∷◌, []}
use native.Mathlib.Omega.{arith}
use Rattle.gains.proofs.Laws.{placed_one, placed_full}
use Rattle.gains.proofs.put_code.Goals as goal

pub returns-then-k-out : goal.returns-then-k-out
returns-then-k-out c = record { value = omega arith; out_after = placed_one c.args.out.now c.args.k c.args.code c.if-k-out.true }

pub returns : goal.returns
returns c = record { value = omega arith; out_after = sym (placed_full c.args.out.now c.args.k (c.args.code ∷ []) c.if-k-out.false) }
