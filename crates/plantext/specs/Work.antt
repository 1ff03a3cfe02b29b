-- How the printing goes about it: no meaning of its own. What holds is said by PlanText.
use Rattle.std.specs.Prelude.{ℕ, ◌+◌, ◌≤◌, ◌≡◌, List, length}
use Rattle.bits.specs.Bits.{splice}
use Rattle.plantext.specs.declared.Printer.{Printer}

-- w stands from a place on, within the list, and r is the place after it
pub record Put (out : List ℕ) (at : ℕ) (w after : List ℕ) (r : ℕ) : Type 0 where
  pub fits : at + length w ≤ length out
  pub next : r ≡ at + length w
  pub text : after ≡ splice out at w
  pub long : length after ≡ length out

-- the same of a printer before and after it, which keeps its output
pub record Puts (before now : Printer) (w : List ℕ) : Type 0 where
  pub put : Put before.out.now before.at w now.out.now now.at
  pub same_output : now.out.ghost_name ≡ before.out.ghost_name
