-- `reader::scratch::Scratch::put_index` meets its contract. Assumes nothing.
use Prim.Native.Nat.{◌^◌, ◌≤◌}
use lib.Pow.{pow_mono}
use borrow.Author.Rules.{rules}
use Rattle.tables.specs.Tables.{vq_bits}
use Rattle.tables.proofs.Rules.{vq_most}
use Rattle.reader.proofs.scratch.Scratch.put_index.Goals as goal

pub overflow_cast-self : goal.overflow_cast-self
overflow_cast-self c = let m : 2 ^ vq_bits c.args.hebap ≤ 2 ^ 9 = pow_mono (vq_most c.args.hebap) in
    let i = c.requires.le_hebap.2 in
    search rules
