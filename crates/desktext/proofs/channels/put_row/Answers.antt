-- `desktext::channels::put_row` meets its contract. Assumes nothing.
use native.Mathlib.Omega.{arith}
use Prim.Native.Nat.{ℕ, ◌+◌, ◌-◌, ◌≤◌}
use mathlib.Core.Path.{◌≡◌, refl, sym, ap, ◌∙◌}
use mathlib.Core.List.{List}
use lib.ListN.{length, get_or, length-set}
use Rattle.bits.specs.Bits.{splice}
use Rattle.bits.proofs.Laws.{splice_none}
use Rattle.desktext.specs.Spelling.{largest}
use Rattle.desktext.specs.Work.{number_of}
use Rattle.desktext.proofs.Forms.{all_number}
use Rattle.desktext.proofs.Outputs.{row_numbers, put_turn, put_all}
use Rattle.desktext.specs.declared.Token.{Token}
use Rattle.desktext.specs.declared.Token.TheVariants as token
use Rattle.std.proofs.Common.{pos}
use Rattle.desktext.proofs.channels.put_row.Goals as goal

-- what a place behind the end is read as
abbrev none_there : Token
none_there = token.Number (pos 0)

pub loop-i-init : goal.loop-i-init
loop-i-init c = (refl, sym (splice_none _ 0))

pub size-requires : goal.size-requires
size-requires c =
    let h = all_number largest (largest + 255) c.args.numbers.now c.loop-i.i none_there c.requires.1 c.loop-i-test.true in
    let u = h.1 in
    (h.0, omega arith)

pub overflow_cast-row : goal.overflow_cast-row
overflow_cast-row c =
    let h = all_number largest (largest + 255) c.args.numbers.now c.loop-i.i none_there c.requires.1 c.loop-i-test.true in
    let u : number_of (get_or c.args.numbers.now c.loop-i.i none_there) ≤ largest + 255 = h.1 in
    let e : c.size.result ≡ number_of (get_or c.args.numbers.now c.loop-i.i none_there) - largest = c.size.ensures in
    record { fits = omega arith }

pub loop-i-preserved : goal.loop-i-preserved
loop-i-preserved c = let a = c.args in
    let e : length c.loop-i.row ≡ length a.row.now = c.loop-i.invariant.0 in
    let f : length a.row.now ≡ 256 = c.told-row in
    let h = c.requires.0 in
    (simp length-set e, rw c.size.ensures (put_turn (λ t. number_of t - largest) a.numbers.now _ a.row.now c.loop-i.row c.loop-i.i c.loop-i-test.true (omega arith) c.loop-i.invariant.1))

pub returns : goal.returns
returns c = let a = c.args in
    put_all (λ t. number_of t - largest) a.numbers.now a.row.now c.loop-i.row c.loop-i.i c.loop-i-test.false c.loop-i.invariant.1
    ∙ ap (λ (l : List ℕ). splice a.row.now 0 l) (sym (row_numbers a.numbers.now))
