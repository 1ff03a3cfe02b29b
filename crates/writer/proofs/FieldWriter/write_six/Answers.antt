-- `writer::FieldWriter::write_six` meets its contract. Assumes nothing.
use Prim.Native.Nat.{◌+◌}
use mathlib.Core.Path.{◌≡◌, sym, ap, ◌∙◌}
use mathlib.Core.List.{List, ◌++◌}
use mathlib.Core.Bool.{Bool}
use lib.Ieee.{nan}
use lib.ListN.{drop, get_or}
use Rattle.bits.specs.Bits.{bits_n}
use Rattle.tables.specs.Tables.{mant_bits}
use Rattle.levels.specs.Codes.{code_bits}
use Rattle.levels.specs.Work.{word_of}
use Rattle.quantiser.specs.Quantise.{picked}
use Rattle.quantiser.proofs.Facts.{picked_accepted}
use Rattle.writer.proofs.Turns.{Next, left_all, left_room, left_next, left_none, word_bits_lem, word_width}
use Rattle.writer.proofs.Words.{codes_for, codes_next, codes_end}
use Rattle.writer.proofs.FieldWriter.write_six.Goals as goal
use Rattle.writer.proofs.FieldWriter.write_six.Goals.{After-word-w}

pub loop-component-init : goal.loop-component-init
loop-component-init c = left_all c.args.self.now _

-- the word that was made stands before the codes that are left
next_word : (c : After-word-w) → let a = c.args in
    Next (codes_for a.steps.hebap a.steps.gk (drop c.loop-component.component-index a.x.now)) (bits_n c.word-w.result.width c.word-w.result.bits)
    (codes_for a.steps.hebap a.steps.gk (drop (c.loop-component.component-index + 1) a.x.now))
next_word c =
    let x = c.args.x.now in
    let h = c.args.steps.hebap in
    let g = c.args.steps.gk in
    let r = c.args.steps.in_range in
    let y = get_or x c.loop-component.component-index nan in
    let code = (picked h g y).0 in
    let rest = codes_for h g (drop (c.loop-component.component-index + 1) x) in
    let w = c.word-w.ensures in
    let e : bits_n c.word-w.result.width c.word-w.result.bits ≡ bits_n (code_bits (mant_bits h) g code) (word_of (mant_bits h) g code) = rw (w.bits_value, w.width_value) in
    record {
      is =
          codes_next h g x c.loop-component.component-index (rw c.told-x c.loop-component-test.true)
          ∙ ap (λ (bs : List Bool). bs ++ rest) (word_bits_lem h g code (picked_accepted h g y r.0 r.1) ∙ sym e);
    }

pub put-requires : goal.put-requires
put-requires c =
    let s = c.args.steps in
    record {
      n_bound = rw c.word-w.ensures.width_value (word_width s.hebap s.gk (picked s.hebap s.gk (get_or c.args.x.now c.loop-component.component-index nan)).0 s.in_range.0 s.in_range.1);
      room = left_room c.loop-component.invariant (next_word (goal.at.put-requires c).After-word-w) (rw c.told-x c.requires);
    }

pub loop-component-preserved : goal.loop-component-preserved
loop-component-preserved c =
    left_next c.loop-component.invariant (next_word (goal.at.loop-component-preserved c).After-word-w) (rw c.told-x c.requires) _ c.put.ensures

pub returns : goal.returns
returns c = let s = c.args.steps in
    rw c.told-x at (left_none c.loop-component.invariant (codes_end s.hebap s.gk c.args.x.now c.loop-component.component-index (rw c.told-x c.loop-component-test.false)))
