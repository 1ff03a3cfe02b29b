-- A step of read_gaq_gains: no meaning of its own. The law that joins it to Gains is `placed_front` (proofs/Laws.antt).
use Rattle.std.specs.Prelude.{ℕ, ◌+◌, ◌-◌, List, ◌++◌, length, take, drop}

-- codes put from the place k on, as many as there are places for
unfoldable pub placed : List ℕ → ℕ → List ℕ → List ℕ
placed out k codes = take k out ++ (take (length out - k) codes ++ drop (k + length codes) out)
