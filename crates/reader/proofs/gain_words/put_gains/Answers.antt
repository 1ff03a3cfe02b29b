-- `reader::gain_words::put_gains` meets its contract. Assumes nothing.
use Prim.Native.Nat.{ℕ}
use mathlib.Core.Path.{◌≡◌, ap, ◌∙◌}
use Rattle.gains.specs.Gains.{gain_value, group_codes}
use Rattle.gains.specs.declared.GroupCodes.{GroupCodes}
use lib.ListN.{length-set}
use Rattle.reader.proofs.GainWords.{put_one, put_two, put_three}
use native.Mathlib.Omega.{arith}
use Rattle.reader.proofs.gain_words.put_gains.Goals as goal
use Rattle.reader.proofs.gain_words.put_gains.Goals.{After-unpack-c}

-- a gain is that of the code taken out
own : (c : After-unpack-c) (g : ℕ) (f : GroupCodes → ℕ) → g ≡ gain_value (f c.unpack-c.result) 3 → g ≡ gain_value (f (group_codes c.args.word)) 3
own c g f e = e ∙ ap (λ (r : GroupCodes). gain_value (f r) 3) c.unpack-c.ensures

pub returns-then-left-lt2 : goal.returns-then-left-lt2
returns-then-left-lt2 c = let a = c.args in
    put_one a.gains.now a.i a.left a.word c.requires.le_left.1 _ (own (goal.at.returns-then-left-lt2 c).After-unpack-c _ (λ r. r.first) c.gain_value.ensures) (omega arith)

pub returns-then-left-lt3 : goal.returns-then-left-lt3
returns-then-left-lt3 c = let a = c.args in
    put_two a.gains.now a.i a.left a.word c.requires.le_left.1 _ (own (goal.at.returns-then-left-lt3 c).After-unpack-c _ (λ r. r.first) c.gain_value.ensures) _
    (own (goal.at.returns-then-left-lt3 c).After-unpack-c _ (λ r. r.second) c.gain_value-2.ensures) (omega arith)

pub returns : goal.returns
returns c = let a = c.args in
    put_three a.gains.now a.i a.left a.word c.requires.le_left.1 _ (own (goal.at.returns c).After-unpack-c _ (λ r. r.first) c.gain_value.ensures) _
    (own (goal.at.returns c).After-unpack-c _ (λ r. r.second) c.gain_value-2.ensures) _ (own (goal.at.returns c).After-unpack-c _ (λ r. r.third) c.gain_value-3.ensures) (omega arith)

pub bounds-gains-i-2 : goal.bounds-gains-i-2
bounds-gains-i-2 c = rw length-set (omega arith)

pub bounds-gains-i-3 : goal.bounds-gains-i-3
bounds-gains-i-3 c = rw (length-set, length-set) (omega arith)
