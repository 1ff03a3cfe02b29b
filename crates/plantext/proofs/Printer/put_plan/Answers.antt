-- `plantext::Printer.put_plan` meets its contract. Assumes nothing.
use native.Mathlib.Omega.{arith}
use Prim.Native.Nat.{◌+◌, ◌*◌, ◌≤◌}
use mathlib.Core.Path.{◌≡◌}
use lib.ListN.{length}
use lib.Seq.{length-take-le}
use borrow.Author.Rules.{rules}
use Rattle.planner.specs.Planning.{total_of, gains_of}
use Rattle.plantext.specs.PlanText.{plan_text, choice_lines, size_lines, line, field_name, hexes}
use Rattle.plantext.proofs.Printing.{puts_both, choice_fits_lem, sizes_fit, field_line_fits}
use Rattle.plantext.proofs.Printer.put_plan.Goals as goal
use Rattle.plantext.proofs.Printer.put_plan.Goals.{Start}

-- how long the choice's lines, the sizes' lines and the field's line can be
parts_fit : (c : Start) → let p = c.args.plan in
    (length (choice_lines p.mode (gains_of p)) ≤ 2842) × (length (size_lines p.payload (total_of p)) ≤ 40)
    × (length (line field_name (hexes c.args.field.now)) ≤ 8 + 3 * length c.args.field.now)
parts_fit c =
    let p = c.args.plan in
    let n : length p.gains ≡ 256 = search rules in
    (omega (arith, choice_fits_lem p.mode (gains_of p), length-take-le p.count p.gains (omega arith)), sizes_fit p.payload (total_of p), field_line_fits c.args.field.now)

pub put_sizes-requires : goal.put_sizes-requires
put_sizes-requires c = omega (arith, parts_fit (goal.at.put_sizes-requires c).Start)

pub put_field_line-requires : goal.put_field_line-requires
put_field_line-requires c = omega (arith, parts_fit (goal.at.put_field_line-requires c).Start)

pub put_text-requires-2 : goal.put_text-requires-2
put_text-requires-2 c = omega (arith, parts_fit (goal.at.put_text-requires-2 c).Start)

pub returns : goal.returns
unfolding plan_text
returns c = puts_both c.put_text.ensures (puts_both c.put_choice.ensures (puts_both c.put_sizes.ensures (puts_both c.put_field_line.ensures c.put_text-2.ensures)))
