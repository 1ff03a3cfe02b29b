-- `gains::read_gaq_gains` meets its contract: at each `return` the tests that led there say which case of the
-- definition holds. Assumes nothing.
use Prim.Native.Nat.{◌+◌, ◌*◌, ◌≤◌}
use mathlib.Core.Path.{sym, ◌∙◌}
use borrow.Author.Tests.{leb-true, leb-false}
use lib.ListN.{length}
use Rattle.bits.specs.Bits.{bit_at}
use Rattle.gains.proofs.Laws.{word_bits_le, gains_mode, gains_short, gains_good}
use native.Mathlib.Omega.{arith}
use borrow.Author.Rules.{rules}
use Rattle.gains.proofs.read_gaq_gains.Goals as goal
use Rattle.gains.proofs.read_gaq_gains.Goals.{Then-has_bits}

pub returns-then-gaqmod-gt3 : goal.returns-then-gaqmod-gt3
returns-then-gaqmod-gt3 c = let a = c.args in let both = gains_mode a.src.now a.out.now (bit_at a.pos) a.gaqmod a.nsections c.if-gaqmod-gt3.true in record { value = both.0; out_after = both.1 }

pub has_bits-requires : goal.has_bits-requires
has_bits-requires c = let e = c.word_bits-w.ensures in let h = word_bits_le c.args.gaqmod in record { width_bound = omega arith; len_bound = search rules }

-- the words stand whole in the field
fits : (c : Then-has_bits) → bit_at c.args.pos + c.word_bits-w.result * c.words_read-n.result ≤ 8 * length c.args.src.now
fits c = leb-true _ _ (sym c.has_bits.ensures ∙ c.if-has_bits.true)

pub put_words-k-requires : goal.put_words-k-requires
put_words-k-requires c = rw (← c.word_bits-w.ensures) (fits (goal.at.put_words-k-requires c).Then-has_bits)

pub advance-requires : goal.advance-requires
advance-requires c =
    let e = c.word_bits-w.ensures in
    let h = word_bits_le c.args.gaqmod in
    let f = fits (goal.at.advance-requires c).Then-has_bits in
    record { width_bound = omega arith; count_bound = search rules }

pub returns-then-has_bits : goal.returns-then-has_bits
returns-then-has_bits c =
    let a = c.args in let both = gains_good a.src.now a.out.now (bit_at a.pos) a.gaqmod a.nsections c.word_bits-w.result c.words_read-n.result c.if-gaqmod-gt3.false c.word_bits-w.ensures c.words_read-n.ensures
    c.put_words-k.result c.put_words-k.new.out c.advance.result (fits (goal.at.returns-then-has_bits c).Then-has_bits) c.put_words-k.ensures.value c.put_words-k.ensures.out_after c.advance.ensures in record { value = both.0; out_after = both.1 }

pub returns-else-has_bits : goal.returns-else-has_bits
returns-else-has_bits c = let a = c.args in let both = gains_short a.src.now a.out.now (bit_at a.pos) a.gaqmod a.nsections c.word_bits-w.result c.words_read-n.result c.if-gaqmod-gt3.false c.word_bits-w.ensures c.words_read-n.ensures
    (leb-false _ _ (sym c.has_bits.ensures ∙ c.if-has_bits.false)) in record { value = both.0; out_after = both.1 }
