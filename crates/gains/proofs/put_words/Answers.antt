-- `gains::put_words` meets its contract. Assumes nothing.
use Prim.Native.Nat.{◌+◌, ◌*◌, ◌≤◌}
use mathlib.Core.Path.{◌≡◌, ap, ◌∙◌}
use native.Mathlib.Nat.{zero-add}
use lib.ListN.{length, take, drop}
use lib.Seq.{drop-drop}
use Rattle.bits.specs.Bits.{bits_of, number_of, bit_at, pos_of}
use Rattle.gains.specs.Gains.{word_bits, word_codes, codes_from}
use Rattle.gains.proofs.Laws.{filled_start, filled_more, filled_as, filled_word, word_bits_le, word_there, word_small}
use native.Mathlib.Omega.{arith}
use Rattle.gains.proofs.put_words.Goals as goal
use Rattle.gains.proofs.put_words.Goals.{In-loop, After-peek}

pub loop-init : goal.loop-init
unfolding codes_from
loop-init c = (omega arith, filled_start c.args.out.now 0 (omega arith))

-- the word behind those before it stands whole in the field
there : (c : In-loop) → let a = c.args in bit_at a.pos + word_bits a.gaqmod * c.loop.counter + word_bits a.gaqmod ≤ 8 * length a.src.now
there c = let a = c.args in word_there (word_bits a.gaqmod) (bit_at a.pos) c.loop.counter a.n (8 * length a.src.now) c.loop-test.true c.requires

pub peek-requires : goal.peek-requires
peek-requires c =
    let e = c.word_bits-w.ensures in
    let h = word_bits_le c.args.gaqmod in
    let t = there (goal.at.peek-requires c).In-loop in
    let i = c.loop.invariant.0 in
    (omega arith, omega arith)

-- the number that was read is the next word of the field
word_is : (c : After-peek) → let a = c.args in
    c.peek.result ≡ number_of (take (word_bits a.gaqmod) (drop (word_bits a.gaqmod * c.loop.counter) (drop (bit_at a.pos) (bits_of a.src.now))))
word_is c = rw (drop-drop, ← c.loop.invariant.0, ← c.word_bits-w.ensures) c.peek.ensures

pub put_word-k-requires-clause-word_bound : goal.put_word-k-requires-clause-word_bound
put_word-k-requires-clause-word_bound c = rw (word_is (goal.at.put_word-k-requires-clause-word_bound c).After-peek) (word_small c.args.gaqmod _)

pub advance-p-requires-clause-width_bound : goal.advance-p-requires-clause-width_bound
advance-p-requires-clause-width_bound c = let e = c.word_bits-w.ensures in let h = word_bits_le c.args.gaqmod in omega arith

pub loop-preserved : goal.loop-preserved
loop-preserved c =
    let a = c.args in
    let m = a.gaqmod in
    let i = c.loop.invariant.0 in
    let w = c.word_bits-w.ensures in
    let x = bit_at c.loop.p + c.word_bits-w.result * 1 in
    let b : bit_at (pos_of x) ≡ x = omega arith in
    let f = filled_more (word_codes m c.peek.result) c.put_word-k.new.out c.put_word-k.result (omega arith) c.loop.invariant.1 c.put_word-k.ensures.value c.put_word-k.ensures.out_after in
    let e : x ≡ bit_at a.pos + word_bits m * (c.loop.counter + 1) = omega arith in
    (ap bit_at c.advance-p.ensures ∙ b ∙ e, filled_word m c.loop.counter c.peek.result (drop (bit_at a.pos) (bits_of a.src.now)) (word_is (goal.at.loop-preserved c).After-peek) f)

pub returns : goal.returns
returns c = let a = c.args in
    let e : a.n ≡ c.loop.counter = omega arith in
    let f = filled_as (codes_from a.gaqmod a.n (drop (bit_at a.pos) (bits_of a.src.now))) (rw e) c.loop.invariant.1 in
    record { value = rw zero-add at f.0; out_after = f.1 }
