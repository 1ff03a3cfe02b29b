-- `scalars::take_code` meets its contract. Assumes nothing.
use mathlib.Core.Path.{sym, ◌∙◌}
use native.Mathlib.Omega.{arith}
use Rattle.bits.proofs.Taking.{is_got}
use Rattle.scalars.proofs.Ahead.{small_takes, large_takes, tagged_of, both_widths}
use Rattle.scalars.proofs.take_code.Goals as goal

pub take_word-u-requires-clause-few : goal.take_word-u-requires-clause-few
take_word-u-requires-clause-few c = let b = both_widths c.args.s in (omega arith, omega arith)

pub overflow_sub-s : goal.overflow_sub-s
overflow_sub-s c = let b = both_widths c.args.s in omega arith

pub pow2-requires : goal.pow2-requires
pow2-requires c = let b = both_widths c.args.s in omega arith

pub take_word-requires-clause-few : goal.take_word-requires-clause-few
take_word-requires-clause-few c = let b = both_widths c.args.s in (omega arith, omega arith)

pub take_word-requires-clause-four : goal.take_word-requires-clause-four
take_word-requires-clause-four c =
    let b = both_widths c.args.s in
    let i = c.args.reader.now.inside in
    rw ((is_got _ _ _ _ _ c.take_word-u.ensures.reads).1, c.take_word-u.ensures.place) (omega arith)

pub returns-then-u-pow2 : goal.returns-then-u-pow2
returns-then-u-pow2 c =
    let s = c.args.s in
    let b = both_widths s in
    record {
      reads = rw (tagged_of s c.requires.other)
          (large_takes s.small s.large _ _ _ _ c.take_word-u.ensures.reads (c.if-u-pow2.true ∙ c.pow2.ensures) _ c.take_word.ensures.reads);
      near = rw (c.take_word.ensures.place, c.take_word-u.ensures.place) (omega arith);
    }

pub returns : goal.returns
returns c =
    let s = c.args.s in
    let b = both_widths s in
    record {
      reads = rw (tagged_of s c.requires.other) (small_takes s.small s.large _ _ _ c.take_word-u.ensures.reads (λ e. c.if-u-pow2.false (e ∙ sym c.pow2.ensures)));
      near = rw c.take_word-u.ensures.place (omega arith);
    }
