-- `quantiser::Steps::word` meets its contract. Assumes nothing.
use Rattle.std.proofs.Common.{◌*◌, ◌^◌, ◌≤◌, refl, ◌∙◌, arith}
use Rattle.levels.proofs.Signed.{pow2_cap}
use Rattle.quantiser.proofs.Bounds.{best_one_small, best_large_small}
use Rattle.quantiser.proofs.Fixed.{fixed}
use Rattle.quantiser.proofs.Found.{large_under, Small, found_small, word_one, word_small, word_large, word_fits}
use Rattle.quantiser.proofs.Ints.{held, held_is, bits_under}
use Rattle.quantiser.proofs.Steps.word.Goals as goal
use Rattle.quantiser.proofs.Steps.word.Goals.{After-is_small, After-pow2-2}

-- what holds of the small level that was found
level : (c : After-is_small) → Small c.args.self.now c.args.x c.small_level-s.result c.is_small.result
level c = let s = c.small_level-s in found_small c.args.self.now c.args.x s.result s.type_inv s.ensures c.is_small.result c.is_small.ensures

-- the tag leaves room for the bits behind it
tag_most : (c : After-pow2-2) → c.pow2.result * c.pow2-2.result ≤ 2 ^ 31
tag_most c =
    let f = fixed c.args.self.now in
    rw (c.pow2.ensures, c.pow2-2.ensures) (word_fits c.args.self.now.small c.args.self.now.large f.small_range.1 f.large_range.1)

-- ---- Gk 1
pub to_bits-requires : goal.to_bits-requires
to_bits-requires c =
    let st = c.args.self.now in
    let f = fixed st in
    let k = c.search_one-k in
    record { n_bound = f.large_range.1; v_bound = large_under st k.result k.type_inv k.ensures (best_one_small st.hebap st.n c.args.x) }

pub returns-then-self-eq1 : goal.returns-then-self-eq1
returns-then-self-eq1 c =
    let k = c.search_one-k in
    let is = word_one c.args.self.now c.args.x c.to_bits.result c.args.self.now.large c.if-self-eq1.true (rw (held_is k.result k.type_inv k.ensures) at c.to_bits.ensures) refl in
    record { bits_value = is.0; width_value = is.1 }

-- ---- a small code
pub is_small-requires : goal.is_small-requires
is_small-requires c = (fixed c.args.self.now).small_range

pub to_bits-requires-then-is_small : goal.to_bits-requires-then-is_small
to_bits-requires-then-is_small c = record {
  n_bound = (fixed c.args.self.now).small_range.1;
  v_bound = (level (goal.at.to_bits-requires-then-is_small c).After-is_small).under c.if-is_small.true;
}

pub returns-then-is_small : goal.returns-then-is_small
returns-then-is_small c =
    let l = level (goal.at.returns-then-is_small c).After-is_small in
    let t = c.to_bits-then-is_small in
    let is = word_small c.args.self.now c.args.x t.result c.args.self.now.small c.if-self-eq1.false (l.kind ∙ c.if-is_small.true) (l.bits t.result t.ensures) refl in
    record { bits_value = is.0; width_value = is.1 }

-- ---- a large code behind the tag
pub overflow_sub-self : goal.overflow_sub-self
overflow_sub-self c = (fixed c.args.self.now).small_range.0

pub pow2-requires : goal.pow2-requires
pow2-requires c = let r = (fixed c.args.self.now).small_range in omega arith

pub pow2-requires-2 : goal.pow2-requires-2
pow2-requires-2 c = let r = (fixed c.args.self.now).large_range in omega arith

pub overflow_mul-result : goal.overflow_mul-result
overflow_mul-result c = let m = tag_most (goal.at.overflow_mul-result c).After-pow2-2 in record { fits = omega arith }

pub to_bits-requires-2 : goal.to_bits-requires-2
to_bits-requires-2 c =
    let st = c.args.self.now in
    let f = fixed st in
    let k = c.search_large-k in
    record { n_bound = f.large_range.1; v_bound = large_under st k.result k.type_inv k.ensures (best_large_small st.hebap st.gk st.n c.args.x) }

pub overflow_add-result : goal.overflow_add-result
overflow_add-result c =
    let l = c.args.self.now.large in
    let m = tag_most (goal.at.overflow_add-result c).After-pow2-2 in
    let b = bits_under l (held c.search_large-k.result) in
    let t = pow2_cap l (fixed c.args.self.now).large_range.1 in
    let e = c.to_bits-2.ensures in
    record { fits = omega arith }

pub overflow_add-result-2 : goal.overflow_add-result-2
overflow_add-result-2 c = let f = fixed c.args.self.now in record { fits = omega arith }

pub returns : goal.returns
returns c =
    let k = c.search_large-k in
    let l = level (goal.at.returns c).After-is_small in
    let is = word_large c.args.self.now c.args.x _ _ c.if-self-eq1.false (l.kind ∙ c.if-is_small.false)
    (rw (c.pow2.ensures, c.pow2-2.ensures, c.to_bits-2.ensures, held_is k.result k.type_inv k.ensures) refl) refl in
    record { bits_value = is.0; width_value = is.1 }
