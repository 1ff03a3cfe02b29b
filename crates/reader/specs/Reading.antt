-- What the channel reader answers: the layout backwards. docs/FORMAT.md, Channel reader, and 'Causes and refusals'
-- (1 to 4, then 8, 9, 10 as met).
use Rattle.std.specs.Prelude.{ℕ, ◌-◌, ◌*◌, cond, ◌||◌, List, ◌++◌, ltb, leb, ℤ, Float, length, drop, Option, Result, Ok, Err}
use Rattle.answers.specs.Answers.{value_or}
use Rattle.answers.specs.declared.Refusal.{Refusal}
use Rattle.answers.specs.declared.Refusal.TheVariants.{InputEnds}
use Rattle.bits.specs.Bits.{bits_of, splice}
use Rattle.bits.specs.Format.{Got, got, refused, unless}
use Rattle.channel.specs.Row.{no_gains, row_cause}
use Rattle.channel.specs.Field.{Channel, field}
use Rattle.channel.specs.Shown.{values_shown, exacts_shown, indices_shown}
use Rattle.reader.specs.declared.ChannelRead.{ChannelRead}

-- a call: the bytes, the bit of its position, and the outputs before it
pub record Call : Type 0 where
  pub src : List ℕ
  pub at : ℕ
  pub values : List Float
  pub exact : List ℤ
  pub indices : List ℕ

abbrev pub call : List ℕ → ℕ → List Float → List ℤ → List ℕ → Call
call src at values exact indices = record { src = src; at = at; values = values; exact = exact; indices = indices }

-- zeros stand beside a refusal
abbrev pub no_channel : ChannelRead
no_channel = record { mode = 0; gains = no_gains; count = 0; bits = 0 }

-- what is answered: the mode, the gains in bin order with unused places 0, and how many of n bits were used
abbrev pub read_answer : ℕ → Got Channel → Result ChannelRead Refusal
read_answer n (got c rest) =
    Ok (record { mode = c.mode; gains = c.gains ++ drop (length c.gains) no_gains; count = length c.gains; bits = n - length rest })
read_answer n (refused k) = Err k

-- an output afterwards: with what f shows of the channel from a place on, or as it was
abbrev pub with_shown : {A : Type 0} → (Channel → List A) → ℕ → List A → Got Channel → List A
with_shown f at old (got c rest) = splice old at (f c)
with_shown f at old (refused k) = old

-- for a row and the bins start to end - 1
module _ (row : List ℕ) (start end : ℕ) (c : Call) where
  -- causes 1 to 4: the lowest that holds, if one does
  unfoldable pub read_cause : Option Refusal
  read_cause = row_cause row start end (ltb (length c.values) (6 * end) || (ltb (length c.exact) (6 * end) || ltb (length c.indices) end))

  -- the channel that it finds; 8 for a position past the end
  unfoldable pub found : Got Channel
  found = unless read_cause (cond (leb c.at (8 * length c.src)) ((field row start end).dec (drop c.at (bits_of c.src))) (refused InputEnds))

  -- the answer, and the outputs after the call
  abbrev pub answer_to : Result ChannelRead Refusal
  answer_to = read_answer (8 * length c.src - c.at) found

  abbrev pub values_after : List Float
  values_after = with_shown (values_shown row start end) (6 * start) c.values found

  abbrev pub exact_after : List ℤ
  exact_after = with_shown (exacts_shown row start end) (6 * start) c.exact found

  abbrev pub indices_after : List ℕ
  indices_after = with_shown (indices_shown row start end) start c.indices found

  -- what is answered; zeros where the call refuses
  abbrev pub channel_answered : ChannelRead
  channel_answered = value_or no_channel answer_to
