-- `reader::read_known` meets its contract. Assumes nothing.
use mathlib.Core.Path.{refl}
use borrow.Author.Rules.{rules}
use Rattle.answers.proofs.Numbers.{passed_on}
use Rattle.reader.specs.Work.{outputs}
use Rattle.reader.proofs.Whole.{not_handed, handed_out}
use Rattle.reader.proofs.read_known.Goals as goal

pub returns-in_err-head : goal.returns-in_err-head
returns-in_err-head c =
    let b = c.args.bins in
    let both = not_handed b.row.now b.start b.end c.args.reader.now _ _ _ _ _ _ _ _ c.in_err-head.ensures refl in
    rw (passed_on c.from_residual.ensures) record { reads = both.0; found_put = both.1 }

pub returns : goal.returns
returns c =
    let a = c.args in
    let b = a.bins in
    let h = c.hand_out.ensures in
    let both = handed_out b.row.now b.start b.end a.reader.now _ _ _ a.scratch.now _ (outputs a.values.now a.exact.now a.indices.now) _ _ b.ordered b.few (search rules) c.in_ok-head.ensures
    h.values_after h.exact_after h.indices_after in
    record { reads = both.0; found_put = both.1 }
