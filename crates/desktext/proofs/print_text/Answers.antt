-- `desktext::print_text` meets its contract. Assumes nothing.
use mathlib.Core.Path.{refl, sym}
use Prim.Native.Nat.{◌≤◌}
use Rattle.answers.proofs.Numbers.{passed_on}
use Rattle.desktext.proofs.Answers.{text_none, few_numbers, text_channel}
use Rattle.desktext.proofs.print_text.Goals as goal
use Rattle.desktext.proofs.print_text.Goals.{In_ok-shape}

-- the row has so many numbers at most
few : (c : In_ok-shape) → c.in_ok-shape.shape.count ≤ 256
few c = few_numbers c.args.view c.args.text.now c.read_text.result c.read_text.ensures.value _ c.in_ok-shape.was

pub returns-in_err-shape : goal.returns-in_err-shape
returns-in_err-shape c = let a = c.args in
    rw (passed_on c.from_residual.ensures) (text_none a.view a.text.now c.read_text.result c.read_text.ensures.value _ c.in_err-shape.was, refl)

pub shared_ref_as_front-print_channel : goal.shared_ref_as_front-print_channel
shared_ref_as_front-print_channel c = few (goal.at.shared_ref_as_front-print_channel c).In_ok-shape

pub returns : goal.returns
returns c = let a = c.args in
    let v = c.read_text.ensures in
    let e = text_channel a.view a.text.now c.read_text.result v.value _ c.in_ok-shape.was a.row.now _ a.vectors.now _ v.row_after v.vectors_after in
    rw (sym e) c.print_channel.ensures
