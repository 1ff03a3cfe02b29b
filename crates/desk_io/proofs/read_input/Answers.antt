-- What a read puts behind the bytes that are there is what it took from the reader.
use Rattle.std.proofs.Common.{◌≡◌, ℕ, ◌+◌, ◌-◌, ◌≤◌, List, ◌++◌, rules, arith, length, take, sym, ap, ◌∙◌, subst, le_refl, drop, drop_at, length-take-le}
use Rattle.std.proofs.lemmas.Slice.{take-put_mid_below}
use Rattle.std.specs.Io.KnownBytes.{Consumes}
use Rattle.std.specs.declared.option.Option.{Option}
use Rattle.std.proofs.KnownBytes.{Consumes-trans, Consumes-kept}
use borrow.Rule.Slice.PartMut.{put_mid, post_of}
use lib.Seq.{take-add, take-append-le}
use Rattle.desk_io.specs.Bytes.{ReadsFew}
use Rattle.desk_io.proofs.read_input.Goals as goal

-- the buffer with a part put in at `at`, up to the first n bytes of the part
front : (at n : ℕ) (buf part : List ℕ) → at ≤ length buf → n ≤ length part → take at buf ++ take n part ≡ take (at + n) (put_mid at (length buf - at) buf part)
front at n buf part inside fits =
    let after = post_of at (length buf - at) buf in
    let all = put_mid at (length buf - at) buf part in
    let first : take at all ≡ take at buf = take-put_mid_below _ _ _ _ _ (le_refl _) inside in
    let rest : take n (drop at all) ≡ take n part =
    ap (take n) (drop_at (take at buf) (part ++ after) at (length-take-le at buf inside)) ∙ take-append-le n part after fits in
    ap (λ l. l ++ take n part) (sym first) ∙ ap (λ l. take at all ++ l) (sym rest) ∙ sym (take-add at n all)

more : (a b c : Option (List ℕ)) (at n : ℕ) (buf part : List ℕ) → at ≤ length buf → n ≤ length part → Consumes a b (take at buf) → Consumes b c (take n part)
    → Consumes a c (take (at + n) (put_mid at (length buf - at) buf part))
more a b c at n buf part inside fits before read = subst (Consumes a c) (front at n buf part inside fits) (Consumes-trans a b c _ _ before read)

read_few : (old new : Option (List ℕ)) (buf : List ℕ) (n : ℕ) → n ≤ length buf → Consumes old new (take n buf) → ReadsFew old new (length buf)
read_few old new buf n inside given = (take n buf, rw (length-take-le n buf inside) inside, given)

pub returns-then-n-eq0-clause-front : goal.returns-then-n-eq0-clause-front
returns-then-n-eq0-clause-front g c =
    let read = c.in_ok-n.ensures in
    let before = c.loop-done.invariant in
    let same : c.loop-done.done + c.in_ok-n.n ≡ c.loop-done.done = omega (arith, c.if-n-eq0.true) in
    let gave = Consumes (g.R.Read.remaining c.args.reader.now) (g.R.Read.remaining c.read.new.self) in
    let put = put_mid c.loop-done.done (length c.loop-done.buf - c.loop-done.done) c.loop-done.buf c.read.new.buf in
    record {
      inside = search rules;
      given = subst (λ k. gave (take k put)) same (more _ _ _ _ _ _ _ before.0 read.bound.0 before.1 read.bytes.0);
      at_end = λ _. read.bytes.1 c.if-n-eq0.true (search rules);
    }

pub returns-then-n-eq0-clause-limit : goal.returns-then-n-eq0-clause-limit
returns-then-n-eq0-clause-limit g c =
    let read = c.in_ok-n.ensures in
    let before = c.loop-done.invariant in
    read_few _ _ _ _ (search rules) (more _ _ _ _ _ _ _ before.0 read.bound.0 before.1 read.bytes.0)

pub loop-done-preserved : goal.loop-done-preserved
loop-done-preserved g c =
    let read = c.in_ok-n.ensures in
    let before = c.loop-done.invariant in
    (search rules, more _ _ _ _ _ _ _ before.0 read.bound.0 before.1 read.bytes.0)

pub returns-in_err-n-clause-limit : goal.returns-in_err-n-clause-limit
returns-in_err-n-clause-limit g c =
    let before = c.loop-done.invariant in (
      take c.loop-done.done c.loop-done.buf,
      rw (length-take-le c.loop-done.done c.loop-done.buf before.0) (search rules),
      Consumes-kept _ _ _ _ before.1 c.in_err-n.ensures.bytes,
    )

pub returns-clause-front : goal.returns-clause-front
returns-clause-front g c =
    record {
      inside = c.loop-done.invariant.0;
      given = c.loop-done.invariant.1;
      at_end = λ h. absurd (omega (arith, h, c.loop-done-test.false));
    }

pub returns-clause-limit : goal.returns-clause-limit
returns-clause-limit g c = read_few _ _ _ _ c.loop-done.invariant.0 c.loop-done.invariant.1
