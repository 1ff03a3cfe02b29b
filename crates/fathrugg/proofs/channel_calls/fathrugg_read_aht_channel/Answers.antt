-- `fathrugg::channel_calls::fathrugg_read_aht_channel` meets its contract. Assumes nothing.
use Prim.Native.Nat.{◌*◌, ◌^◌, ◌<◌}
use mathlib.Core.Path.{sym}
use native.Mathlib.Omega.{arith}
use lib.ListN.{length}
use Rattle.reader.proofs.Causes.{read_inside}
use Rattle.fathrugg.specs.Answers.{call_at}
use Rattle.fathrugg.proofs.channel_calls.fathrugg_read_aht_channel.Goals as goal

-- the position behind an accepted field lies in the bytes
pub advance-requires-clause-count_bound : goal.advance-requires-clause-count_bound
advance-requires-clause-count_bound c = let a = c.args in
    let inside = read_inside a.hebap.now a.start a.end (call_at a.src.now a.byte.now a.bit.now a.values.now a.exact.now a.indices.now) _ (sym c.in-Ok.ensures.value) in
    let room : length a.src.now * 1 < 2 ^ 63 = c.well_formed.0.1 in
    omega (arith, inside, room)
