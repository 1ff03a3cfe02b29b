-- `gains::gaq_sections` meets its contract. Assumes nothing.
use mathlib.Core.Path.{ap}
use borrow.Author.Tests.{le-leb, lt-leb, ne_eqb}
use native.Mathlib.Omega.{arith}
use Rattle.std.specs.Prelude.{Ok}
use Rattle.gains.specs.Gains.{gaq_sections, sections}
use Rattle.gains.proofs.gaq_sections.Goals as goal

pub returns-in-0 : goal.returns-in-0
unfolding gaq_sections sections
returns-in-0 c = simp c.in-0.is

pub returns-in-3 : goal.returns-in-3
unfolding gaq_sections sections
returns-in-3 c = simp c.in-3.is (ap Ok (omega arith))

pub returns-in-1 : goal.returns-in-1
unfolding gaq_sections sections
returns-in-1 c = let m = c.args.gaqmod in simp (le-leb m 3 (omega arith), ne_eqb m 0 (omega arith), ne_eqb m 3 (omega arith))

pub returns-in_default : goal.returns-in_default
unfolding gaq_sections sections
returns-in_default c = let m = c.args.gaqmod in
    simp (lt-leb m 3 (omega arith))
