-- `desktext::print_with_field` meets its contract. Assumes nothing.
use Prim.Native.Nat.{ℕ, ◌+◌, ◌/◌, ◌≤◌}
use Rattle.planner.specs.Planning.{total_of}
use native.Mathlib.Omega.{arith}
use native.Mathlib.Nat.{le_trans, le_of_eq}
use mathlib.Core.Path.{◌≡◌, refl, sym}
use lib.ListN.{length, take, replicate}
use lib.Seq.{length-take-le}
use Rattle.desktext.proofs.Answers.{few_gains, few_bits, never_refused, bytes_fit, field_given}
use Rattle.desktext.proofs.print_with_field.Goals as goal
use Rattle.desktext.proofs.print_with_field.Goals.{In_ok-write_aht_channel}

pub returns-in_err-write_aht_channel : goal.returns-in_err-write_aht_channel
returns-in_err-write_aht_channel c = let a = c.args in
    absurd (never_refused a.plan a.row.now a.start a.end a.x.now c.requires (replicate 8192 0) refl
    c.write_aht_channel.result _ c.write_aht_channel.ensures.value c.in_err-write_aht_channel.was)

pub slice_bounds-field-end : goal.slice_bounds-field-end
slice_bounds-field-end c = let a = c.args in let b = few_bits a.plan a.row.now a.start a.end a.x.now c.requires in omega arith

-- the first n of the field's bytes are n
bytes : (c : In_ok-write_aht_channel) → {n : ℕ} → n ≤ (total_of c.args.plan + 7) / 8 → length (take n c.write_aht_channel.new.out) ≡ n
bytes c h = let a = c.args in
    length-take-le _ _ (le_trans h (bytes_fit a.plan a.row.now a.start a.end a.x.now c.requires (replicate 8192 0) refl c.write_aht_channel.new.out c.write_aht_channel.ensures.out_after))

pub slice_bounds-print_plan-end-2 : goal.slice_bounds-print_plan-end-2
slice_bounds-print_plan-end-2 c = sym (bytes (goal.at.slice_bounds-print_plan-end-2 c).In_ok-write_aht_channel (omega arith))

pub print_plan-requires : goal.print_plan-requires
print_plan-requires c = let a = c.args in
    let b = few_bits a.plan a.row.now a.start a.end a.x.now c.requires in
    let at = (goal.at.print_plan-requires c).In_ok-write_aht_channel in
    (few_gains a.plan a.row.now a.start a.end a.x.now c.requires, omega arith, le_trans (le_of_eq (bytes at (omega arith))) (omega arith), le_of_eq (sym c.told-out))

pub returns : goal.returns
returns c = let a = c.args in
    let u = c.print_plan.ensures in
    field_given a.plan a.row.now a.start a.end a.x.now c.requires (replicate 8192 0) refl c.write_aht_channel.new.out c.write_aht_channel.ensures.out_after
    _ _ _ _ (omega arith) u.value u.out_after
