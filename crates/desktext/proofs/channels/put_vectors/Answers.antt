-- `desktext::channels::put_vectors` meets its contract. Assumes nothing.
use native.Mathlib.Omega.{arith}
use Prim.Native.Nat.{ℕ, ◌+◌, ◌*◌, ◌/◌, ◌%◌, ◌≤◌, ◌<◌}
use mathlib.Core.Path.{◌≡◌, refl, sym, ◌∙◌}
use mathlib.Core.List.{List}
use lib.ListN.{length, get_or, length-map, length-set}
use Rattle.bits.proofs.Laws.{splice_none}
use Rattle.desktext.specs.Spelling.{last_number}
use Rattle.desktext.specs.Printed.{component_of}
use Rattle.desktext.specs.Work.{number_of, numbers_of, vector_numbers}
use Rattle.desktext.specs.declared.Token.{Token}
use Rattle.desktext.proofs.ChannelTokens.{all_at}
use Rattle.desktext.proofs.Outputs.{length_vector_numbers, vector_number_at, number_there, put_turn, put_all}
use Rattle.desktext.specs.declared.Token.TheVariants as token
use Rattle.std.proofs.Common.{pos}
use Rattle.desktext.proofs.channels.put_vectors.Goals as goal

-- what a place behind the end is read as
abbrev none_there : Token
none_there = token.Number (pos 0)

-- the token of the component i
there : (ts : List Token) (n i : ℕ) (d : Token) → 8 * n < length ts → i < 6 * n
    → (number_of (get_or ts (i / 6 * 8 + 1 + i % 6) d) ≡ get_or (vector_numbers n (numbers_of ts)) i 0) × (length (vector_numbers n (numbers_of ts)) ≡ 6 * n)
there ts n i d h k =
    let l = length-map ts number_of in
    let m : 8 * n ≤ length (numbers_of ts) = omega arith in
    (number_there ts (i / 6 * 8 + 1 + i % 6) d (omega arith) ∙ sym (vector_number_at n (numbers_of ts) i m k), length_vector_numbers n (numbers_of ts) m)

pub loop-i-init : goal.loop-i-init
loop-i-init c = (refl, sym (splice_none _ 0))

pub value-requires : goal.value-requires
value-requires c = let a = c.args in
    let t = there a.tokens.now a.n c.loop-i.i none_there c.requires.1.0 (omega arith) in
    let e = t.1 in
    rw t.0 (all_at 0 last_number (vector_numbers a.n (numbers_of a.tokens.now)) c.loop-i.i c.requires.1.1 (omega arith)).1

pub loop-i-preserved : goal.loop-i-preserved
loop-i-preserved c = let a = c.args in
    let i = c.loop-i.i in
    let e : length c.loop-i.vectors ≡ length a.vectors.now = c.loop-i.invariant.0 in
    let f : length a.vectors.now ≡ 1536 = c.told-vectors in
    let n = c.requires.0 in
    let t = there a.tokens.now a.n i none_there c.requires.1.0 (omega arith) in
    let k = t.1 in (
      simp length-set e,
      rw (c.value.ensures, t.0) (put_turn component_of (vector_numbers a.n (numbers_of a.tokens.now)) 0 a.vectors.now c.loop-i.vectors i (omega arith) (omega arith) c.loop-i.invariant.1),
    )

pub returns : goal.returns
returns c = let a = c.args in
    let l = length-map a.tokens.now number_of in
    let h = c.requires.1.0 in
    let k = length_vector_numbers a.n (numbers_of a.tokens.now) (omega arith) in
    put_all component_of (vector_numbers a.n (numbers_of a.tokens.now)) a.vectors.now c.loop-i.vectors c.loop-i.i (omega arith) c.loop-i.invariant.1
