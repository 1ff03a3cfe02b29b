-- What a writer's methods do to it: no meaning of its own. What holds is said by Written.
use Rattle.std.specs.Prelude.{◌+◌, ◌*◌, ◌≤◌, ◌≡◌, List, Bool, length}
use Rattle.bits.specs.Bits.{bit_at, bits_of, splice}
use Rattle.writer.specs.declared.FieldWriter.{FieldWriter}

-- there is room for bits from a writer's position on
abbrev pub Room : List Bool → FieldWriter → Type 0
Room bits w = bit_at w.pos + length bits ≤ 8 * length w.out.now

-- they are put there: the position is behind them, every other bit is as it was, and the output is the same
pub record Puts (put : List Bool) (before now : FieldWriter) : Type 0 where
  pub place : bit_at now.pos ≡ bit_at before.pos + length put
  pub long : length now.out.now ≡ length before.out.now
  pub bits : bits_of now.out.now ≡ splice (bits_of before.out.now) (bit_at before.pos) put
  pub same_output : now.out.ghost_name ≡ before.out.ghost_name
