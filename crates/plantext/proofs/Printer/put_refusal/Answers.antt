-- `plantext::Printer::put_refusal` meets its contract. Assumes nothing.
use Rattle.plantext.specs.PlanText.{refused_text}
use Rattle.plantext.proofs.Printer.put_refusal.Goals as goal

pub returns : goal.returns
unfolding refused_text
returns c = rw c.from.ensures at c.put_number_line.ensures
