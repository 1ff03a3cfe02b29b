-- `quantiser::Steps::pick` meets its contract. Assumes nothing.
use Rattle.std.proofs.Common.{◌≡◌, ◌-◌, ◌^◌, ap, ◌∙◌}
use Rattle.tables.specs.Tables.{mant_bits}
use Rattle.levels.specs.Value.{divided}
use Rattle.quantiser.specs.Quantise.{small_of, code_level}
use Rattle.quantiser.proofs.Bounds.{best_one_small, best_large_small}
use Rattle.quantiser.proofs.Facts.{picked_small}
use Rattle.quantiser.proofs.Fixed.{fixed}
use Rattle.quantiser.proofs.Found.{one_picked, large_picked, Small, found_small}
use Rattle.quantiser.proofs.Ints.{held_is, held_under, narrow_fits, narrowed}
use Rattle.quantiser.proofs.Steps.pick.Goals as goal
use Rattle.quantiser.proofs.Steps.pick.Goals.{After-is_small}

-- what holds of the small level that was found
level : (c : After-is_small) → Small c.args.self.now c.args.x c.small_level-s.result c.is_small.result
level c = let s = c.small_level-s in found_small c.args.self.now c.args.x s.result s.type_inv s.ensures c.is_small.result c.is_small.ensures

-- ---- Gk 1
pub large_code-requires : goal.large_code-requires
large_code-requires c = let k = c.search_one in held_under k.result (2 ^ c.args.self.now.n) k.type_inv k.ensures (best_one_small c.args.self.now.hebap c.args.self.now.n _)

pub returns-then-self-eq1 : goal.returns-then-self-eq1
returns-then-self-eq1 c =
    let k = c.search_one in
    c.large_code.ensures
    ∙ rw (held_is k.result k.type_inv k.ensures) (ap code_level (one_picked c.args.self.now c.args.x c.if-self-eq1.true))

-- ---- a small code
pub is_small-requires : goal.is_small-requires
is_small-requires c = (fixed c.args.self.now).small_range

pub to_bits-requires : goal.to_bits-requires
to_bits-requires c = record {
  n_bound = (fixed c.args.self.now).small_range.1;
  v_bound = (level (goal.at.to_bits-requires c).After-is_small).under c.if-is_small.true;
}

pub overflow_cast-s : goal.overflow_cast-s
overflow_cast-s c = narrow_fits c.small_level-s.result ((level (goal.at.overflow_cast-s c).After-is_small).under_24 c.if-is_small.true)

pub divided_code-requires-clause-k_bound : goal.divided_code-requires-clause-k_bound
divided_code-requires-clause-k_bound c =
    let u = (level (goal.at.divided_code-requires-clause-k_bound c).After-is_small).under_24 c.if-is_small.true in
    rw (narrowed c.small_level-s.result u) u

pub returns-then-is_small : goal.returns-then-is_small
returns-then-is_small c =
    let a = c.args in
    let s = c.small_level-s in
    let l = level (goal.at.returns-then-is_small c).After-is_small in
    let value_is : c.divided_code.result ≡ divided (mant_bits a.self.now.hebap - 1) (small_of (mant_bits a.self.now.hebap - 1) a.x) =
    rw (narrowed s.result (l.under_24 c.if-is_small.true), held_is s.result s.type_inv s.ensures, c.mant.ensures) at c.divided_code.ensures in
    rw (picked_small a.self.now.hebap a.self.now.gk a.x c.if-self-eq1.false (l.kind ∙ c.if-is_small.true), l.bits c.to_bits.result c.to_bits.ensures, value_is)

-- ---- a large code
pub large_code-requires-2 : goal.large_code-requires-2
large_code-requires-2 c =
    let st = c.args.self.now in
    let k = c.search_large in
    held_under k.result (2 ^ st.n) k.type_inv k.ensures (best_large_small st.hebap st.gk st.n c.args.x)

pub returns : goal.returns
returns c =
    let k = c.search_large in
    let l = level (goal.at.returns c).After-is_small in
    c.large_code-2.ensures
    ∙ rw (held_is k.result k.type_inv k.ensures)
    (ap code_level (large_picked c.args.self.now c.args.x c.if-self-eq1.false (l.kind ∙ c.if-is_small.false)))
