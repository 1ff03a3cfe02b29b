-- `scalars::read_six` meets its contract. Assumes nothing.
use Prim.Native.Nat.{ℕ, ◌+◌, ◌-◌, ◌≤◌}
use native.Mathlib.Omega.{arith}
use mathlib.Core.Path.{◌≡◌, sym, ap, ◌∙◌}
use mathlib.Core.List.{List}
use lib.ListN.{length, take, drop}
use borrow.Author.Rules.{rules}
use borrow.Rule.Slice.PartMut.{put_mid}
use Rattle.bits.specs.Takes.{ahead}
use Rattle.bits.proofs.Copying.{part_put, part_back}
use Rattle.scalars.proofs.Six.{values_placed, exacts_placed}
use Rattle.scalars.proofs.read_six.Goals as goal

-- six places from `at` on
six_long : (at : ℕ) → at + 6 - at ≡ 6
six_long at = omega arith

pub returns-clause-values_after : goal.returns-clause-values_after
returns-clause-values_after c = let a = c.args in
    part_put a.values.now _ a.at (a.at + 6 - a.at) (search rules)
    ∙ values_placed a.s.hebap a.s.gk (ahead a.reader.now) a.at a.values.now _ (a.at + 6 - a.at) (six_long a.at) c.requires.0 c.read_here.ensures.values_after

pub returns-clause-exact_after : goal.returns-clause-exact_after
returns-clause-exact_after c = let a = c.args in
    part_put a.exact.now _ a.at (a.at + 6 - a.at) (search rules)
    ∙ exacts_placed a.s.hebap a.s.gk (ahead a.reader.now) a.at a.exact.now _ (a.at + 6 - a.at) (six_long a.at) c.requires.1 c.read_here.ensures.exact_after

-- what stands in the six places
module _ {A : Type 0} (old part : List A) (at : ℕ) (long : length part ≡ at + 6 - at) (inside : at ≤ length old) where
  six_back : take 6 (drop at (put_mid at (at + 6 - at) old part)) ≡ part
  six_back = ap (λ (k : ℕ). take k (drop at (put_mid at (at + 6 - at) old part))) (sym (six_long at)) ∙ part_back old part at (at + 6 - at) long inside

pub returns-clause-reads : goal.returns-clause-reads
returns-clause-reads c = let a = c.args in let i = c.requires in
    let v = six_back a.values.now c.read_here.new.values a.at (search rules) (omega arith) in
    let x = six_back a.exact.now c.read_here.new.exact a.at (search rules) (omega arith) in
    rw (v, x) c.read_here.ensures.reads
