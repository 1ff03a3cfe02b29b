-- `bits::four_bytes` meets its contract. Assumes nothing.
use Prim.Native.Nat.{◌+◌}
use mathlib.Core.Path.{refl}
use native.Mathlib.Omega.{arith}
use Rattle.bits.proofs.Laws.{four_bytes}
use Rattle.bits.proofs.four_bytes.Goals as goal

pub returns : goal.returns
returns c =
    let s = c.args in
    let b = c.type_inv.src in
    record {
      upper_bound = c.from_be_bytes.type_inv;
      src_value = rw c.from_be_bytes.ensures (four_bytes s.src.now s.q _ _ _ _ (omega arith) refl refl refl refl (omega (arith, b s.q)) (omega (arith, b (s.q + 1))) (omega (arith, b (s.q + 2))) (omega (arith, b (s.q + 3))));
    }
