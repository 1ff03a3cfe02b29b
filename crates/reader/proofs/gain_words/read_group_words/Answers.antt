-- `reader::gain_words::read_group_words` meets its contract. The invariant is GainWords.SoFar. Assumes nothing.
use Prim.Native.Nat.{ℕ, ◌+◌, ◌-◌}
use mathlib.Core.Path.{◌≡◌, refl, sym, ◌∙◌}
use mathlib.Core.List.{List}
use lib.ListN.{length, take}
use native.Mathlib.Omega.{arith}
use Rattle.answers.proofs.Numbers.{passed_on}
use Rattle.bits.specs.Bits.{splice}
use Rattle.bits.specs.Format.{number, got}
use Rattle.bits.specs.Takes.{ahead}
use Rattle.bits.proofs.Taking.{is_got, refused_by}
use Rattle.channel.specs.Field.{group_words}
use Rattle.reader.specs.Work.{three_gains}
use Rattle.reader.proofs.GainWords.{SoFar, none_yet, word_more, word_refused, words_done, groups_none, group_short, group_high, group_missing, group_next, three_long}
use Rattle.reader.proofs.gain_words.read_group_words.Goals as goal
use Rattle.reader.proofs.gain_words.read_group_words.Goals.{In_ok-word, Else-missing}

pub loop-i-init : goal.loop-i-init
loop-i-init c = let a = c.args in (none_yet group_words (length a.gains.now) (ahead a.reader.now) a.gains.now, refl)

pub returns-in_err-word : goal.returns-in_err-word
returns-in_err-word c = let a = c.args in
    rw (passed_on c.from_residual.ensures)
    (word_refused c.loop-i.invariant.0 _ _ _ _ (group_short (length a.gains.now - c.loop-i.i) (omega arith) _ _ (refused_by _ _ _ _ _ _ c.in_err-word.ensures.reads)))

-- the word that was read
word_is : (c : In_ok-word) → ((number 5).dec (ahead c.loop-i.reader) ≡ got c.in_ok-word.word (ahead c.read_u32.new.self)) × (c.read_u32.new.self.src.now ≡ c.loop-i.reader.src.now)
word_is c = is_got _ _ _ _ _ c.in_ok-word.ensures.reads

pub returns-then-word-gt26 : goal.returns-then-word-gt26
returns-then-word-gt26 c = word_refused c.loop-i.invariant.0 _ _ _ _
    (group_high (length c.args.gains.now - c.loop-i.i) (omega arith) _ _ _ (word_is (goal.at.returns-then-word-gt26 c).In_ok-word).0 (omega arith))

pub returns-then-missing : goal.returns-then-missing
returns-then-missing c = word_refused c.loop-i.invariant.0 _ _ _ _
    (group_missing (length c.args.gains.now - c.loop-i.i) (omega arith) _ _ _ (word_is (goal.at.returns-then-missing c).In_ok-word).0 (omega arith) (rw c.loop-i.invariant.0.long at (sym c.missing.ensures ∙ c.if-missing.true)))

-- a turn
turn : (c : Else-missing) (out : List ℕ) → out ≡ splice c.loop-i.gains c.loop-i.i (take (length c.loop-i.gains - c.loop-i.i) (three_gains c.in_ok-word.word))
    → SoFar group_words (length c.args.gains.now) (ahead c.args.reader.now) c.args.gains.now (ahead c.read_u32.new.self) (c.loop-i.i + 3) out × (c.read_u32.new.self.src.now ≡ c.args.reader.now.src.now)
turn c out put =
    let a = c.args in
    let k = is_got _ _ _ _ _ c.in_ok-word.ensures.reads in (
      word_more c.loop-i.invariant.0 c.read_u32.new.self 3 _ (take (length a.gains.now - c.loop-i.i) (three_gains c.in_ok-word.word)) (omega arith) (omega arith) (three_long (length a.gains.now - c.loop-i.i) c.in_ok-word.word)
          (group_next (length a.gains.now - c.loop-i.i) (omega arith) _ _ _ k.0 (omega arith) (rw c.loop-i.invariant.0.long at (sym c.missing.ensures ∙ c.if-missing.false))) (rw c.loop-i.invariant.0.long at put),
      k.1 ∙ c.loop-i.invariant.1,
    )

pub loop-i-preserved : goal.loop-i-preserved
loop-i-preserved c = turn (goal.at.loop-i-preserved c).Else-missing _ c.put_gains.ensures

-- the last word
pub returns-else-missing : goal.returns-else-missing
returns-else-missing c = let t = turn (goal.at.returns-else-missing c).Else-missing _ c.put_gains.ensures in words_done t.0 _ _ (omega arith) t.1 refl (groups_none _)

pub returns : goal.returns
returns c = words_done c.loop-i.invariant.0 _ _ (omega arith) c.loop-i.invariant.1 refl (groups_none _)
