-- `levels::exact_value` meets its contract. Assumes nothing.
use Prim.Native.Nat.{ℕ, ◌-◌, ◌^◌, ◌<◌}
use mathlib.Core.Path.{◌≡◌, ap, ◌∙◌}
use mathlib.Core.Bool.{cond}
use mathlib.Core.Logic.{inl, inr}
use lib.Dec.{eqb}
use lib.IntN.{ℤ, pos, ◌+ℤ◌, ◌*ℤ◌}
use lib.Signed.{lt_z}
use mir.Syntax.{w32}
use mir.Val.{to_z, of_z}
use mir.ValLaws.{to_z-of_z}
use Rattle.tables.specs.Tables.{mant_bits}
use Rattle.levels.specs.declared.CodeScale.{CodeScale}
use Rattle.levels.specs.Codes.{signed, small_bits, large_bits}
use Rattle.levels.specs.Exact.{slope, offset_by_sign, is_negative, exact_of}
use Rattle.levels.proofs.Signed.{back, small_fits}
use Rattle.levels.proofs.Sizes.{Steps, small_size, large_steps, below_zero}
use Rattle.levels.proofs.Common.{chosen, times_assoc, small_is, large_is, small_asked, large_asked, small_unit_back, large_unit_back, up_back, below_back}
use Rattle.levels.proofs.exact_value.Goals as goal
use Rattle.levels.proofs.exact_value.Goals.{In-Small, In-Large, After-signed_code, Joined-k-lt0, After-times-in-Large, then-k-lt0, else-k-lt0}

-- a small code is within its width, and the number that it shows is read back as it was passed on
small_in_width : (c : In-Small) → c.in-Small.u < 2 ^ small_bits (mant_bits c.args.s.hebap) c.args.s.gk
small_in_width c = small_fits c.args.s.hebap c.args.s.gk _ _ c.requires.accepted c.in-Small.is

small_number : (c : After-signed_code) → to_z w32 (of_z w32 c.signed_code.result) ≡ signed (small_bits (mant_bits c.args.s.hebap) c.args.s.gk) c.in-Small.u
small_number c = back w32 c.signed_code.result c.signed_code.type_inv (c.signed_code.ensures ∙ rw (small_is c.args.s))

pub signed_code-requires : goal.signed_code-requires
signed_code-requires c = small_asked c.args.s c.in-Small.u (small_in_width c)

pub times-requires : goal.times-requires
times-requires c =
    let at = goal.at.times-requires c in
    rw (small_number at.After-signed_code, small_unit_back c.args.s)
    (small_size c.args.s.hebap c.args.s.gk c.args.s.known.0 c.args.s.known.1 c.in-Small.u (small_in_width at.In-Small))

pub returns-in-Small : goal.returns-in-Small
unfolding exact_of
returns-in-Small c =
    back w32 c.times.result c.times.type_inv
    (c.times.ensures ∙ rw (c.in-Small.is, small_number (goal.at.returns-in-Small c).After-signed_code, small_unit_back c.args.s))

-- a large code's number, the unit's two factors, and b
abbrev l : CodeScale → ℕ → ℤ
l s u = signed (large_bits (mant_bits s.hebap) s.gk) u

abbrev z : CodeScale → ℤ
z s = pos 32768 +ℤ slope s.hebap s.gk

abbrev p : CodeScale → ℕ
p s = 2 ^ (cond (eqb s.gk 2) 17 16 - mant_bits s.hebap)

abbrev b : CodeScale → ℕ → ℤ
b s u = offset_by_sign s.hebap s.gk (is_negative (l s u))

large_fits : (c : In-Large) → c.in-Large.u < 2 ^ large_bits (mant_bits c.args.s.hebap) c.args.s.gk
large_fits c = rw c.in-Large.is at c.requires.accepted

-- the product and the sum stay in range
steps : (c : In-Large) → Steps (l c.args.s c.in-Large.u) (z c.args.s) (p c.args.s) (b c.args.s c.in-Large.u)
steps c = large_steps c.args.s.hebap c.args.s.gk c.args.s.known.0 c.args.s.known.1 c.in-Large.u (large_fits c)

-- the number, b and the product are read back as they were passed on
large_number : (c : Joined-k-lt0) → to_z w32 (of_z w32 c.signed_code-k.result) ≡ l c.args.s c.in-Large.u
large_number c = back w32 c.signed_code-k.result c.signed_code-k.type_inv (c.signed_code-k.ensures ∙ rw (large_is c.args.s))

b_is : (c : Joined-k-lt0) → to_z w32 c.if-k-lt0.b-bits ≡ b c.args.s c.in-Large.u *ℤ pos (2 ^ 15)
b_is c =
    let k = to_z w32 (of_z w32 c.signed_code-k.result) in
    chosen (λ t. offset_by_sign c.args.s.hebap c.args.s.gk t *ℤ pos (2 ^ 15)) (lt_z k (pos 0)) (to_z w32 c.if-k-lt0.b-bits)
    (elim c.if-k-lt0.branch [
      | then-k-lt0 i ↦ inl (i.if-k-lt0.true, ap (to_z w32) i.b-is-bits ∙ below_back c.args.s)
      | else-k-lt0 i ↦ inr (i.if-k-lt0.false, ap (to_z w32) i.b-is-bits ∙ up_back c.args.s)
    ])
    ∙ rw (below_zero k, large_number c)

product : (c : After-times-in-Large) → to_z w32 (of_z w32 c.times-in-Large.result) ≡ l c.args.s c.in-Large.u *ℤ (z c.args.s *ℤ pos (p c.args.s))
product c =
    back w32 c.times-in-Large.result c.times-in-Large.type_inv
    (c.times-in-Large.ensures ∙ rw (large_number (goal.at.overflow_add-result c).Joined-k-lt0, large_unit_back c.args.s))

pub signed_code-k-requires : goal.signed_code-k-requires
signed_code-k-requires c = large_asked c.args.s c.in-Large.u (large_fits c)

pub times-requires-in-Large : goal.times-requires-in-Large
times-requires-in-Large c =
    let at = goal.at.times-requires-in-Large c in
    rw (large_number at.Joined-k-lt0, large_unit_back c.args.s) (steps at.In-Large).product

pub overflow_add-result : goal.overflow_add-result
overflow_add-result c =
    let at = goal.at.overflow_add-result c in
    rw (product c, b_is at.Joined-k-lt0) (record { sfits = (steps at.In-Large).whole })

pub returns-after-k-lt0 : goal.returns-after-k-lt0
unfolding exact_of
returns-after-k-lt0 c =
    to_z-of_z w32 _ (overflow_add-result c)
    ∙ rw (product c, b_is (goal.at.overflow_add-result c).Joined-k-lt0, c.in-Large.is)
    (ap (λ x. x +ℤ b c.args.s c.in-Large.u *ℤ pos (2 ^ 15)) (times_assoc (l c.args.s c.in-Large.u) (z c.args.s) (p c.args.s)))
