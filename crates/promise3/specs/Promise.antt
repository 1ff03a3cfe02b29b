-- What the words of promise 3 mean, over the answers of the public calls. docs/FORMAT.md, Words.
use Rattle.std.specs.Prelude.{ℕ, ◌+◌, ◌*◌, ◌≤◌, ◌<◌, ◌≡◌, Bool, false, List, pos, length, get_or, drop, Float}
use Rattle.std.specs.Float.{nan}
use Rattle.answers.specs.Answers.{answer_number, value_or}
use Rattle.levels.specs.Component.{some_too_large}
use Rattle.levels.specs.Exact.{exact_of}
use Rattle.bits.specs.Bits.{bits_of}
use Rattle.channel.specs.Row.{gain_at, six_of, RowOk}
use Rattle.channel.specs.Shown.{field_at}
use Rattle.books.specs.Books.{vq_search}
use Rattle.quantiser.specs.Quantise.{picked, quantised, picked_value}
use Rattle.planner.specs.declared.Plan.{Plan}
use Rattle.reader.specs.Reading.{Call, values_after, exact_after, indices_after, channel_answered}

-- row, bins and vectors are allowed: none of causes 1 to 5 holds of them
pub record Allowed (row : List ℕ) (start end : ℕ) (x : List Float) : Type 0 where
  pub ordered : start ≤ end
  pub few : end ≤ 256
  pub rows : end ≤ length row
  pub vectors : 6 * end ≤ length x
  pub known : (k : ℕ) → start ≤ k → k < end → get_or row k 0 ≤ 19
  pub components : (k : ℕ) → start ≤ k → k < end → (get_or row k 0 ≡ 0 → ⊥) → some_too_large (six_of x k) ≡ false

-- ---- a call of the channel reader, for a row and bins
module _ (row : List ℕ) (start end : ℕ) (c : Call) where
  -- the outputs are long enough
  abbrev pub LongEnough : Type 0
  LongEnough = (6 * end ≤ length c.values) × (6 * end ≤ length c.exact) × (end ≤ length c.indices)

  -- none of causes 1 to 4 holds
  pub record Readable : Type 0 where
    pub row_is : RowOk row start end
    pub long : LongEnough

  -- the bits from its position on
  abbrev pub bits_there : List Bool
  bits_there = drop c.at (bits_of c.src)

  -- a field that it accepts: the bits from its position on, as many as it says
  abbrev pub accepted_field : List Bool
  accepted_field = field_at c.src c.at (channel_answered row start end c).bits

-- the same mode, the same gains, the same book index in every book bin and the same six exact values in every scalar
-- bin
pub record SameShown (row : List ℕ) (start end : ℕ) (c c' : Call) : Type 0 where
  pub mode : (channel_answered row start end c).mode ≡ (channel_answered row start end c').mode
  pub count : (channel_answered row start end c).count ≡ (channel_answered row start end c').count
  pub gains : (channel_answered row start end c).gains ≡ (channel_answered row start end c').gains
  pub index : (k : ℕ) → start ≤ k → k < end → 1 ≤ get_or row k 0 → get_or row k 0 ≤ 7
      → get_or (indices_after row start end c) k 0 ≡ get_or (indices_after row start end c') k 0
  pub exacts : (k : ℕ) → start ≤ k → k < end → 8 ≤ get_or row k 0 → get_or row k 0 ≤ 19 → (j : ℕ) → j < 6
      → get_or (exact_after row start end c) (6 * k + j) (pos 0) ≡ get_or (exact_after row start end c') (6 * k + j) (pos 0)

-- the plan's mode and gains, the search's index in every book bin and the quantiser's values, f32 and exact, in every
-- scalar bin
pub record ShowsPlan (p : Plan) (row : List ℕ) (start end : ℕ) (x : List Float) (c : Call) : Type 0 where
  pub mode : (channel_answered row start end c).mode ≡ p.mode
  pub count : (channel_answered row start end c).count ≡ p.count
  pub gains : (channel_answered row start end c).gains ≡ p.gains
  pub index : (k : ℕ) → start ≤ k → k < end → 1 ≤ get_or row k 0 → get_or row k 0 ≤ 7
      → let r = vq_search (get_or row k 0) (six_of x k) in (answer_number r ≡ 0) × (value_or 0 r ≡ get_or (indices_after row start end c) k 0)
  pub values : (k : ℕ) → start ≤ k → k < end → 8 ≤ get_or row k 0 → get_or row k 0 ≤ 19 → (j : ℕ) → j < 6
      → let h = get_or row k 0 in let g = gain_at p.mode p.gains row start k in let y = get_or x (6 * k + j) nan in
      (answer_number (quantised h g y) ≡ 0)
      × (picked_value nan (quantised h g y) ≡ get_or (values_after row start end c) (6 * k + j) nan)
      × (exact_of h g (picked h g y).0 ≡ get_or (exact_after row start end c) (6 * k + j) (pos 0))
