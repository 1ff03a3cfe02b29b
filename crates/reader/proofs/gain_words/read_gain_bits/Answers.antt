-- `reader::gain_words::read_gain_bits` meets its contract. The invariant is GainWords.SoFar. Assumes nothing.
use Prim.Native.Nat.{◌-◌}
use mathlib.Core.Path.{◌≡◌, refl, sym, ◌∙◌}
use mathlib.Core.List.{◌∷◌, []}
use lib.ListN.{length}
use native.Mathlib.Omega.{arith}
use Rattle.answers.proofs.Numbers.{passed_on}
use Rattle.bits.specs.Format.{number, got}
use Rattle.bits.specs.Takes.{ahead}
use Rattle.bits.proofs.Laws.{splice_one}
use Rattle.bits.proofs.Taking.{is_got, refused_by}
use Rattle.channel.specs.Field.{gain_words}
use Rattle.reader.proofs.GainWords.{none_yet, word_more, word_refused, words_done, bits_none, bit_short, bit_next}
use Rattle.reader.proofs.gain_words.read_gain_bits.Goals as goal
use Rattle.reader.proofs.gain_words.read_gain_bits.Goals.{In_ok-code}

pub loop-gain-init : goal.loop-gain-init
loop-gain-init c = let a = c.args in (none_yet (gain_words a.mode) (length a.gains.now) (ahead a.reader.now) a.gains.now, refl)

pub returns-in_err-code : goal.returns-in_err-code
returns-in_err-code c = let a = c.args in
    rw (passed_on c.from_residual.ensures)
    (word_refused c.loop-gain.invariant.0 _ _ _ _ (bit_short a.mode c.requires (length a.gains.now - c.loop-gain.gain-index) (omega arith) _ _ (refused_by _ _ _ _ _ _ c.in_err-code.ensures.reads)))

-- the code that was read
code_is : (c : In_ok-code) → ((number 1).dec (ahead c.loop-gain.reader) ≡ got c.in_ok-code.code (ahead c.read_u32.new.self)) × (c.read_u32.new.self.src.now ≡ c.loop-gain.reader.src.now)
code_is c = is_got _ _ _ _ _ c.in_ok-code.ensures.reads

pub loop-gain-preserved : goal.loop-gain-preserved
loop-gain-preserved c =
    let a = c.args in
    let v = c.gain_value.result in
    let k = code_is (goal.at.loop-gain-preserved c).In_ok-code in (
      word_more c.loop-gain.invariant.0 c.read_u32.new.self 1 _ (v ∷ []) (omega arith) (omega arith) (omega arith)
          (bit_next a.mode c.requires (length a.gains.now - c.loop-gain.gain-index) (omega arith) _ _ _ _ k.0 c.gain_value.ensures) (sym (splice_one c.loop-gain.gain-items c.loop-gain.gain-index v (omega arith))),
      k.1 ∙ c.loop-gain.invariant.1,
    )

pub returns : goal.returns
returns c = let a = c.args in words_done c.loop-gain.invariant.0 _ _ (omega arith) c.loop-gain.invariant.1 refl (bits_none a.mode c.requires _)
