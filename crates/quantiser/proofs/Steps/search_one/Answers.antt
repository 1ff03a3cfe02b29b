-- `quantiser::Steps::search_one` meets its contract. Assumes nothing.
use Rattle.std.proofs.Common.{◌≡◌, ℕ, true, false, cond, ◌⊎◌, ℤ, pos, ap, ◌∙◌, inl, inr, lit<, pow_pos, arith, w64, to_z}
use lib.Ieee.{Float, binary32, div, lt}
use Rattle.levels.specs.Value.{f0}
use Rattle.quantiser.specs.Quantise.{unit_of, est_one, best_one}
use Rattle.quantiser.specs.Round.{round_away}
use Rattle.quantiser.proofs.Bounds.{est_one_small}
use Rattle.quantiser.proofs.Fixed.{fixed, n_few}
use Rattle.quantiser.proofs.Ints.{held_is, top_is, opposite_is, opposite_under, top_under}
use Rattle.std.proofs.lemmas.Int.{ints}
use Rattle.levels.proofs.Common.{chosen}
use Rattle.levels.proofs.Signed.{pow2_cap}
use Rattle.quantiser.proofs.Steps.search_one.Goals as goal
use Rattle.quantiser.proofs.Steps.search_one.Goals.{Joined-self, else-self, then-self}

est_one_lem : (h n : ℕ) (x unit : Float) (r : ℤ) → unit ≡ unit_of h n
    → ((lt f0 unit ≡ true) × (r ≡ round_away (div binary32 x unit))) ⊎ ((lt f0 unit ≡ false) × (r ≡ pos 0)) → r ≡ est_one h n x
unfolding est_one
est_one_lem h n x unit r e c = rw (← e) (chosen (λ t. cond t (round_away (div binary32 x unit)) (pos 0)) (lt f0 unit) r c)

-- the estimate, whichever way the test went
est_is : (c : Joined-self) → to_z w64 c.if-self.est-bits ≡ est_one c.args.self.now.hebap c.args.self.now.n c.args.x
est_is c =
    let st = c.args.self.now in
    est_one_lem st.hebap st.n c.args.x st.unit (to_z w64 c.if-self.est-bits) ((fixed st).unit_one c.requires)
    (elim c.if-self.branch [
      | then-self h ↦ inl (h.if-self.true, ap (to_z w64) h.est-is-bits ∙ held_is h.round_half_away-est.result h.round_half_away-est.type_inv h.round_half_away-est.ensures)
      | else-self h ↦ inr (h.if-self.false, ap (to_z w64) h.est-is-bits)
    ])

pub power-top-requires : goal.power-top-requires
power-top-requires c = n_few c.args.self.now

pub search-requires : goal.search-requires
search-requires c =
    let n = c.args.self.now.n in
    let full = c.power-top.result in
    let few = n_few c.args.self.now in
    let p = pow_pos n in
    let t = pow2_cap n few in
    rw (opposite_is n full few c.power-top.ensures, top_is n full few c.power-top.ensures, est_is (goal.at.search-requires c).Joined-self)
    (omega (arith, ints), omega (arith, opposite_under n), omega (arith, top_under n), lit< tt, est_one_small c.args.self.now.hebap n c.args.x)

pub returns : goal.returns
unfolding best_one
returns c =
    let n = c.args.self.now.n in
    let full = c.power-top.result in
    let few = n_few c.args.self.now in
    held_is c.search.result c.search.type_inv
    (simp c.requires at (rw (est_is (goal.at.returns c).Joined-self, opposite_is n full few c.power-top.ensures, top_is n full few c.power-top.ensures) at c.search.ensures))
