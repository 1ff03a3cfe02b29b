-- `reader::read_aht_channel` meets its contract. Assumes nothing.
use Prim.Native.Nat.{ℕ, ◌+◌, ◌-◌, ◌*◌, ◌≤◌, ◌<◌}
use mathlib.Core.List.{List}
use mathlib.Core.Bool.{Bool, ◌||◌}
use lib.Dec.{ltb}
use mathlib.Core.Path.{◌≡◌, refl, sym, ap, ◌∙◌, subst}
use native.Mathlib.Omega.{arith}
use borrow.Author.Tests.{leb-true, leb-false}
use lib.ListN.{length, drop}
use Rattle.std.specs.Prelude.{None, Ok, Result, ⊤}
use Rattle.reader.specs.declared.ChannelRead.{ChannelRead}
use Rattle.reader.specs.declared.FieldHead.{FieldHead}
use Rattle.answers.specs.declared.Refusal.{Refusal}
use Rattle.answers.specs.Answers.{answered}
use Rattle.answers.proofs.Numbers.{passed_on, held, none_held}
use Rattle.bits.specs.Bits.{bits_of, bit_at}
use Rattle.bits.specs.Takes.{ahead, Takes}
use Rattle.bits.proofs.Reading.{at_pos}
use Rattle.channel.specs.Row.{row_cause, no_gains}
use Rattle.reader.specs.Reading.{Call, call, read_cause, found}
use Rattle.reader.specs.Work.{outputs, FoundPut, GainsPut, head_of}
use Rattle.reader.proofs.Causes.{read_none, found_cause, found_past, found_field}
use Rattle.reader.proofs.Reach.{near, answer_is, answer_refused}
use Rattle.reader.proofs.read_aht_channel.Goals as goal
use Rattle.reader.proofs.read_aht_channel.Goals.{After-check_row, In_ok-check_row, After-read_known, In_ok-head}

-- ---- the causes
-- the row's cause is the cause against the whole call
same : (row : List ℕ) (start end : ℕ) (c : Call) (short : Bool) → short ≡ (ltb (length c.values) (6 * end) || (ltb (length c.exact) (6 * end) || ltb (length c.indices) end))
    → ◌≡◌ {A = Result ⊤ Refusal} (answered (row_cause row start end short) tt) (answered (read_cause row start end c) tt)
unfolding read_cause
same row start end c short e = ap (λ t. answered {A = ⊤} (row_cause row start end t) tt) e

cause : (c : After-check_row) → let a = c.args in
    c.check_row.result ≡ answered (read_cause a.hebap.now a.start a.end (call a.src.now (bit_at a.pos) a.values.now a.exact.now a.indices.now)) tt
cause c = c.check_row.ensures ∙ same _ _ _ _ _ c.too_short-short.ensures

-- and none stands where the call goes on
none : (c : In_ok-check_row) → let a = c.args in read_cause a.hebap.now a.start a.end (call a.src.now (bit_at a.pos) a.values.now a.exact.now a.indices.now) ≡ None
none c = none_held _ _ (c.check_row.ensures ∙ same _ _ _ _ _ c.too_short-short.ensures) c.in_ok-check_row.was

pub returns-in_err-check_row : goal.returns-in_err-check_row
returns-in_err-check_row c =
    rw (passed_on c.from_residual.ensures, found_cause _ _ _ _ _ (held _ _ (cause (goal.at.returns-in_err-check_row c).After-check_row) c.in_err-check_row.was))
    record { value = refl; values_after = refl; exact_after = refl; indices_after = refl }

pub returns-then-not-has_bits : goal.returns-then-not-has_bits
returns-then-not-has_bits c =
    let a = c.args in
    let h : 8 * length a.src.now < bit_at a.pos + 1 * 0 = leb-false _ _ (sym c.has_bits.ensures ∙ c.if-not-has_bits.true) in
    rw (found_past _ _ _ _ (none (goal.at.returns-then-not-has_bits c).In_ok-check_row) (omega arith)) record { value = refl; values_after = refl; exact_after = refl; indices_after = refl }

pub invariant_of-bins : goal.invariant_of-bins
invariant_of-bins c =
    let ok = (read_none _ _ _ _ (none (goal.at.invariant_of-bins c).In_ok-check_row)).0 in
    record { ordered = ok.ordered; few = ok.few; rows = ok.rows; known = ok.known }

pub read_known-requires : goal.read_known-requires
read_known-requires c = (read_none _ _ _ _ (none (goal.at.read_known-requires c).In_ok-check_row)).1

-- ---- the field, which is what the call finds
abbrev Left : After-read_known → Result FieldHead Refusal → Type 0
Left c r = let a = c.args in let t = call a.src.now (bit_at a.pos) a.values.now a.exact.now a.indices.now in let f = found a.hebap.now a.start a.end t in
    Takes head_of f r (λ d. GainsPut no_gains c.read_known.new.gains d.gains) c.new-reader.result c.read_known.new.reader
    × FoundPut a.hebap.now a.start a.end (outputs a.values.now a.exact.now a.indices.now) (outputs c.read_known.new.values c.read_known.new.exact c.read_known.new.indices) f

-- where the reader begins
first : (c : After-read_known) → bit_at c.new-reader.result.pos ≡ bit_at c.args.pos
first c = ap bit_at c.new-reader.ensures.place ∙ at_pos (bit_at c.args.pos)

seen : (c : After-read_known) → let a = c.args in read_cause a.hebap.now a.start a.end (call a.src.now (bit_at a.pos) a.values.now a.exact.now a.indices.now) ≡ None → Left c c.read_known.result
seen c none =
    let a = c.args in
    let h : bit_at a.pos + 1 * 0 ≤ 8 * length a.src.now = leb-true _ _ (sym c.has_bits.ensures ∙ c.if-not-has_bits.false) in
    let e : drop (bit_at a.pos) (bits_of a.src.now) ≡ ahead c.new-reader.result = rw (first c, c.new-reader.ensures.bytes) refl in
    rw (found_field _ _ _ _ none (omega arith), e, ← c.no_gains-gains.ensures) (c.read_known.ensures.reads, c.read_known.ensures.found_put)

got : (c : After-read_known) → let a = c.args in read_cause a.hebap.now a.start a.end (call a.src.now (bit_at a.pos) a.values.now a.exact.now a.indices.now) ≡ None
    → (r : Result FieldHead Refusal) → c.read_known.result ≡ r → Left c r
got c none r e = subst (Left c) e (seen c none)

pub returns-in_err-head : goal.returns-in_err-head
returns-in_err-head c =
    let a = c.args in
    let at = goal.at.returns-in_err-head c in
    let s = got at.After-read_known (none at.In_ok-check_row) _ c.in_err-head.was in
    rw (passed_on c.from_residual-in_err-head.ensures)
    record { value = answer_refused a.hebap.now a.start a.end _ _ _ c.new-reader.ensures.bytes (first at.After-read_known) _ _ s.0; values_after = s.1.0; exact_after = s.1.1; indices_after = s.1.2 }

pub bits_between-requires : goal.bits_between-requires
bits_between-requires c =
    let a = c.args in
    let at = goal.at.bits_between-requires c in
    let s = got at.After-read_known (none at.In_ok-check_row) _ c.in_ok-head.was in
    let f = first at.After-read_known in
    let n = near a.hebap.now a.start a.end _ _ _ c.new-reader.ensures.bytes f _ _ s.0 in
    (omega (arith, n.0), omega (arith, n.1), n.2)

pub returns : goal.returns
returns c =
    let a = c.args in
    let at = goal.at.returns c in
    let s = got at.After-read_known (none at.In_ok-check_row) _ c.in_ok-head.was in
    let f = first at.After-read_known in
    let r = answer_is a.hebap.now a.start a.end _ _ _ c.new-reader.ensures.bytes f _ _ s.0 in
    let b : c.bits_between.result ≡ bit_at c.read_known.new.reader.pos - bit_at c.new-reader.result.pos = omega (arith, f, c.bits_between.ensures) in
    record { value = ap {B = Result ChannelRead Refusal} (λ (k : ℕ). Ok (record { mode = c.in_ok-head.head.mode; gains = c.read_known.new.gains; count = c.in_ok-head.head.count; bits = k })) b ∙ r; values_after = s.1.0; exact_after = s.1.1; indices_after = s.1.2 }
