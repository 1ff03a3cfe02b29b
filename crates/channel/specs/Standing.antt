-- What may stand at the reading position, said of the bits alone: a field of the layout, or what causes 8, 9 and 10
-- name. docs/FORMAT.md, 'Causes and refusals' and Channel reader.
use Rattle.std.specs.Prelude.{ℕ, suc, ◌+◌, ◌*◌, ◌≤◌, ◌<◌, ◌≡◌, Bool, List, [], ◌∷◌, ◌++◌, ◌⊎◌, length, get_or}
use Rattle.bits.specs.Bits.{bits_n}
use Rattle.gains.specs.Gains.{sections, word_codes}
use Rattle.channel.specs.Row.{active_count}
use Rattle.channel.specs.Field.{Channel, field}

-- group words one after another, five bits each
unfoldable pub words_bits : List ℕ → List Bool
words_bits [] = []
words_bits (w ∷ ws) = bits_n 5 w ++ words_bits ws

-- each at most 26
abbrev pub Fine : List ℕ → Type 0
Fine [] = Unit {0}
Fine (w ∷ ws) = (w ≤ 26) × Fine ws

-- fine words, and one more
pub record Words (bs : List Bool) : Type 0 where
  pub before : List ℕ
  pub word : ℕ
  pub behind : List Bool
  pub fine : Fine before
  pub bits : bs ≡ words_bits before ++ (bits_n 5 word ++ behind)

-- 9: of the group words of n gains, one is above 26, and those before it are fine
pub record WordAbove26 (n : ℕ) (bs : List Bool) : Type 0 where
  pub words : Words bs
  pub due : length words.before < sections 3 n
  pub above : 26 < words.word
  pub five : words.word < 32

-- 10: all words are fine, and in the last one a code behind the n gains is not 0
pub record PaddingNotZero (n : ℕ) (bs : List Bool) : Type 0 where
  pub words : Words bs
  pub last : suc (length words.before) ≡ sections 3 n
  pub most : words.word ≤ 26
  pub code : ℕ
  pub third : code < 3
  pub missing : n ≤ 3 * length words.before + code
  pub not_zero : get_or (word_codes 3 words.word) code 0 ≡ 0 → ⊥

-- behind the bits of mode 3
pub record InMode3 (P : List Bool → Type 0) (bs : List Bool) : Type 0 where
  pub rest : List Bool
  pub bits : bs ≡ bits_n 2 3 ++ rest
  pub is : P rest

-- ---- for a row and the bins start to end - 1
module _ (row : List ℕ) (start end : ℕ) (bs : List Bool) where
  -- the bits are those of a channel of the layout, with something behind it
  pub record FieldThere : Type 0 where
    pub channel : Channel
    pub behind : List Bool
    pub ok : (field row start end).Ok channel
    pub bits : bs ≡ (field row start end).enc channel ++ behind

  abbrev pub WordThere : Type 0
  WordThere = InMode3 (WordAbove26 (active_count 3 row start end)) bs

  abbrev pub PaddingThere : Type 0
  PaddingThere = InMode3 (PaddingNotZero (active_count 3 row start end)) bs

  -- one of the three
  abbrev pub Decided : Type 0
  Decided = FieldThere ⊎ (WordThere ⊎ PaddingThere)

-- 8: the bits run out: none of the three stands there, and with more bits one would
pub record RunsOut (row : List ℕ) (start end : ℕ) (bs : List Bool) : Type 0 where
  pub not_yet : Decided row start end bs → ⊥
  pub more : List Bool
  pub then : Decided row start end (bs ++ more)
