-- Steps of write_u32 and of loops that read: no meaning of their own. The laws that join them to Bits and Format are
-- `write_next` (proofs/Laws.antt) and `resume_next` (proofs/Lawful.antt).
use Rattle.std.specs.Prelude.{ℕ, ◌+◌, ◌-◌, ◌*◌, ◌/◌, ◌%◌, ◌^◌, List, ◌++◌}
use Rattle.bits.specs.Format.{Got, got, refused}

-- the byte x with the number w of c bits put at its bit r
unfoldable pub byte_with : ℕ → ℕ → ℕ → ℕ → ℕ
byte_with x r c w = (x / 2 ^ (c + (8 - r - c)) * 2 ^ c + w) * 2 ^ (8 - r - c) + x % 2 ^ (8 - r - c)

-- what is read after xs, with xs before it: how a loop that has read xs goes on
abbrev pub resume : {A : Type 0} → List A → Got (List A) → Got (List A)
resume xs (got ys rest) = got (xs ++ ys) rest
resume xs (refused n) = refused n
