-- `quantiser::Steps::search_large` meets its contract. Assumes nothing.
use Rattle.std.proofs.Common.{pow_pos, arith}
use Rattle.std.proofs.lemmas.Int.{ints}
use Rattle.levels.proofs.Signed.{pow2_cap}
use Rattle.quantiser.specs.Quantise.{best_large}
use Rattle.quantiser.proofs.Bounds.{est_large_small}
use Rattle.quantiser.proofs.Fixed.{n_few}
use Rattle.quantiser.proofs.Ints.{held_is, top_is, bottom_is, top_under, bottom_under}
use Rattle.quantiser.proofs.Steps.search_large.Goals as goal

pub power-full-requires : goal.power-full-requires
power-full-requires c = n_few c.args.self.now

pub search-requires : goal.search-requires
search-requires c =
    let s = c.args.self.now in
    let n = s.n in
    let full = c.power-full in
    let few = n_few s in
    let p = pow_pos n in
    let t = pow2_cap n few in
    let k = c.estimate_large-est in
    let l = est_large_small s.hebap s.gk n c.args.x in
    rw (bottom_is n full.result few full.ensures, top_is n full.result few full.ensures, held_is k.result k.type_inv k.ensures)
    (omega (arith, ints), omega (arith, bottom_under n), omega (arith, top_under n), omega arith, omega arith)

pub returns : goal.returns
unfolding best_large
returns c =
    let n = c.args.self.now.n in
    let full = c.power-full in
    let few = n_few c.args.self.now in
    let k = c.estimate_large-est in
    held_is c.search.result c.search.type_inv
    (rw (bottom_is n full.result few full.ensures, top_is n full.result few full.ensures, held_is k.result k.type_inv k.ensures) at c.search.ensures)
