-- How the printing goes about it: no meaning of its own. What holds is said by Pages and Printing.
use Rattle.std.specs.Prelude.{ℕ, zero, suc, ◌-◌, cond, List, [], ◌∷◌, ◌++◌, leb}
use Rattle.bits.specs.Bits.{splice}
use Rattle.channel.specs.Bins.{from}
use Rattle.channel.specs.Shown.{joined}
use Rattle.pages.specs.Pages.{spaces, place_at}

-- n lines without bins
unfoldable pub blank_lines : ℕ → List ℕ
blank_lines n = joined (from (λ l. spaces 64 ++ (10 ∷ [])) 0 n)

-- out with the bins start to end - 1, each put over what stands at its place
unfoldable pub with_cells : (ℕ → List ℕ) → ℕ → ℕ → List ℕ → List ℕ
with_cells cell start zero out = out
with_cells cell start (suc e) out = cond (leb start e) (splice (with_cells cell start e out) (place_at (e - start)) (cell e)) out
