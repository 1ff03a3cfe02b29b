-- Planning is the loops of plan_aht_channel of the Rust. Assumes nothing.
use Prim.Native.Nat.{ℕ, zero, suc, ◌+◌, ◌*◌, ◌/◌, ◌≤◌, ◌<◌}
use mathlib.Core.Path.{◌≡◌, refl, sym, ap, ◌∙◌}
use mathlib.Core.List.{List, [], ◌∷◌, ◌++◌, map, map-append}
use mathlib.Core.Bool.{Bool, true, false, cond, not, ◌&&◌, ◌||◌}
use native.Mathlib.Omega.{arith}
use borrow.Author.Tests.{le-leb, lt-leb, leb-true, leb-false, lt-ltb, le-ltb, eqb-true, eqb-false, eq-eqb, ne_eqb}
use lib.Dec.{eqb, leb, ltb}
use lib.Ieee.{Float}
use lib.ListN.{length, length-map, get_or, drop}
use Rattle.gains.specs.Gains.{active, other_gains, word_bits, sections, gain_word_bits}
use Rattle.quantiser.specs.Quantise.{codes_bits}
use Rattle.quantiser.proofs.Facts.{picked_bits}
use Rattle.channel.specs.Bins.{sum_over}
use Rattle.channel.specs.Row.{active_count, six_of}
use Rattle.channel.proofs.Over.{sum_none, sum_next}
use Rattle.planner.specs.Cost.{bin_bits}
use Rattle.planner.specs.Choice.{cheapest, least_up_to, best_gain, least_at, least_of, plan_mode, gains_over, plan_gains, plan_payload}
use Rattle.planner.specs.Planning.{plan_of, plan_answered}
use Rattle.planner.proofs.Answer.{answer_plan}
use Rattle.planner.proofs.Codes.{bin_scalar, bin_most}
use Rattle.planner.proofs.Optimal.{cheapest_same, gains_step, gains_stay, gains_none, gains_length, first_least}
use Rattle.promise3.specs.Promise.{Allowed}
use Rattle.promise3.proofs.Plans.{given}
use Rattle.promise3.specs.Ahtenc.{gain_of_mapped, mode_allowed, has_gain, bits_of_bin, GainBits, gain_loop, no_gain_yet, AhtPlan, bin_step, bin_loop, gain_bits, mode_plan, mode_loop, aht_plan, plan_from}

-- ---- a bin
bits_are : (h g : ℕ) (v : List Float) → bits_of_bin h g v ≡ codes_bits h g v
unfolding bits_of_bin codes_bits
bits_are h g [] = refl
bits_are h g (x ∷ v) = rw (picked_bits h g x, bits_are h g v)

-- the loop over codes finds the cheapest gain, the first of equals
loop_is : (cost : ℕ → ℕ) (cs : List ℕ) (c : ℕ) → let b = gain_loop cost cs (record { gain = c; bits = cost (gain_of_mapped c) }) in
    (gain_of_mapped b.gain ≡ cheapest cost (gain_of_mapped c) (map gain_of_mapped cs)) × (b.bits ≡ cost (gain_of_mapped b.gain))
unfolding gain_loop cheapest
loop_is cost [] c = (refl, refl)
loop_is cost (d ∷ cs) c = go (ltb (cost (gain_of_mapped d)) (cost (gain_of_mapped c))) (loop_is cost cs d) (loop_is cost cs c)
  where
    from : ℕ → GainBits
    from c = record { gain = c; bits = cost (gain_of_mapped c) }

    Is : ℕ → GainBits → Type 0
    Is g b = (gain_of_mapped b.gain ≡ cheapest cost g (map gain_of_mapped cs)) × (b.bits ≡ cost (gain_of_mapped b.gain))

    go : (t : Bool) → Is (gain_of_mapped d) (gain_loop cost cs (from d)) → Is (gain_of_mapped c) (gain_loop cost cs (from c))
        → Is (cond t (gain_of_mapped d) (gain_of_mapped c)) (gain_loop cost cs (cond t (from d) (from c)))
    go true f g = f
    go false f g = g

-- code 0 comes first, the others are the mode's other gains
allowed_loop : (mode : ℕ) (cost : ℕ → ℕ) → cost 1 < 4294967295
    → let b = gain_loop cost (mode_allowed mode) no_gain_yet in (gain_of_mapped b.gain ≡ cheapest cost 1 (other_gains mode)) × (b.bits ≡ cost (gain_of_mapped b.gain))
unfolding other_gains gain_loop
allowed_loop mode cost l = go (eqb mode 1) (eqb mode 2) (eqb mode 3)
  where
    first : (cs : List ℕ) → let b = gain_loop cost (0 ∷ cs) no_gain_yet in
        (gain_of_mapped b.gain ≡ cheapest cost 1 (map gain_of_mapped cs)) × (b.bits ≡ cost (gain_of_mapped b.gain))
    first cs =
        let e : gain_loop cost (0 ∷ cs) no_gain_yet ≡ gain_loop cost cs (record { gain = 0; bits = cost 1 }) =
        ap (λ (t : Bool). gain_loop cost cs (cond t (record { gain = 0; bits = cost 1 }) no_gain_yet)) (lt-ltb (cost 1) 4294967295 l) in
        rw e (loop_is cost cs 0)

    go : (p q r : Bool) → let b = gain_loop cost (cond p (0 ∷ 1 ∷ []) (cond q (0 ∷ 2 ∷ []) (cond r (0 ∷ 1 ∷ 2 ∷ []) (0 ∷ [])))) no_gain_yet in
        (gain_of_mapped b.gain ≡ cheapest cost 1 (cond p (2 ∷ []) (cond q (4 ∷ []) (cond r (2 ∷ 4 ∷ []) [])))) × (b.bits ≡ cost (gain_of_mapped b.gain))
    go true q r = first (1 ∷ [])
    go false true r = first (2 ∷ [])
    go false false true = first (1 ∷ 2 ∷ [])
    go false false false = first []

-- ---- the bins
low_inactive : (mode h : ℕ) → h ≤ 7 → active mode h ≡ false
unfolding active
low_inactive mode h l = rw (le-ltb 7 h l) (go (eqb mode 0))
  where
    go : (t : Bool) → not t && false ≡ false
    go true = refl
    go false = refl

high_active : (mode h : ℕ) → 8 ≤ h → active mode h ≡ has_gain mode h
unfolding active
high_active mode h l = rw (lt-ltb 7 h l)

module _ (mode : ℕ) (row : List ℕ) (x : List Float) where
  abbrev hebap : ℕ → ℕ
  hebap e = get_or row e 0

  abbrev cost : ℕ → ℕ → ℕ
  cost e g = bits_of_bin (hebap e) g (six_of x e)

  cost_is : (e g : ℕ) → 8 ≤ hebap e → cost e g ≡ bin_bits (hebap e) g (six_of x e)
  cost_is e g l = bits_are (hebap e) g (six_of x e) ∙ sym (bin_scalar (hebap e) g (six_of x e) l)

  -- what a bin adds to a plan
  pub record Adds (e : ℕ) (p q : AhtPlan) : Type 0 where
    pub gains : map gain_of_mapped q.gains ≡ cond (active mode (hebap e)) (map gain_of_mapped p.gains ++ (best_gain mode row x e ∷ [])) (map gain_of_mapped p.gains)
    pub bits : q.bits ≡ p.bits + least_at mode row x e

  module _ (e : ℕ) (p : AhtPlan) where
    abbrev h : ℕ
    h = hebap e

    abbrev v : List Float
    v = six_of x e

    abbrev added : AhtPlan
    added = bin_step mode h v p

    gains_kept : active mode h ≡ false → added.gains ≡ p.gains → map gain_of_mapped added.gains ≡ cond (active mode h) (map gain_of_mapped p.gains ++ (best_gain mode row x e ∷ [])) (map gain_of_mapped p.gains)
    gains_kept n g = rw n (ap (map gain_of_mapped) g)

    none_adds : h ≡ 0 → Adds e p added
    unfolding bin_step least_at bin_bits
    none_adds z =
        let q = eq-eqb h 0 z in
        let g : added.gains ≡ p.gains = rw q in
        record { gains = gains_kept (low_inactive mode h (omega arith)) g; bits = rw q (omega arith) }

    book_adds : (h ≡ 0 → ⊥) → h ≤ 7 → Adds e p added
    unfolding bin_step least_at bin_bits
    book_adds n l =
        let q = ne_eqb h 0 n in
        let r = le-leb h 7 l in
        let g : added.gains ≡ p.gains = rw (q, r) in
        record { gains = gains_kept (low_inactive mode h l) g; bits = rw (q, r) }

    fixed_adds : 8 ≤ h → has_gain mode h ≡ false → Adds e p added
    unfolding bin_step least_at
    fixed_adds l f =
        let q = ne_eqb h 0 (λ z. omega arith) in
        let r = lt-leb h 7 l in
        let a = high_active mode h l ∙ f in
        let g : added.gains ≡ p.gains = rw (q, r, f) in
        let b : added.bits ≡ p.bits + bits_of_bin h 1 v = rw (q, r, f) in
        let c : least_at mode row x e ≡ bin_bits h 1 v = ap (λ (t : Bool). bin_bits h (cond t (best_gain mode row x e) 1) v) a in
        record { gains = gains_kept a g; bits = b ∙ ap (λ (k : ℕ). p.bits + k) (cost_is e 1 l ∙ sym c) }

    gain_adds : 8 ≤ h → has_gain mode h ≡ true → Adds e p added
    unfolding bin_step least_at best_gain
    gain_adds l f =
        let q = ne_eqb h 0 (λ z. omega arith) in
        let r = lt-leb h 7 l in
        let a = high_active mode h l ∙ f in
        let most = bin_most h 1 (drop (6 * e) x) in
        let one = cost_is e 1 l in
        let b = gain_loop (cost e) (mode_allowed mode) no_gain_yet in
        let s = allowed_loop mode (cost e) (omega arith) in
        let best : gain_of_mapped b.gain ≡ best_gain mode row x e =
        s.0 ∙ cheapest_same (cost e) (λ g. bin_bits h g v) 1 (other_gains mode) (λ g. cost_is e g l) in
        let g : added.gains ≡ p.gains ++ (b.gain ∷ []) = rw (q, r, f) in
        let n : added.bits ≡ p.bits + b.bits = rw (q, r, f) in
        let c : least_at mode row x e ≡ bin_bits h (best_gain mode row x e) v = ap (λ (t : Bool). bin_bits h (cond t (best_gain mode row x e) 1) v) a in
        record {
          gains = rw a (ap (map gain_of_mapped) g ∙ map-append gain_of_mapped p.gains (b.gain ∷ []) ∙ ap (λ (k : ℕ). map gain_of_mapped p.gains ++ (k ∷ [])) best);
          bits = n ∙ ap (λ (k : ℕ). p.bits + k) (s.1 ∙ ap (cost e) best ∙ cost_is e (best_gain mode row x e) l ∙ sym c);
        }

    adds : Adds e p added
    adds = go (leb h 7) refl (eqb h 0) refl (has_gain mode h) refl
      where
        go : (b : Bool) → leb h 7 ≡ b → (z : Bool) → eqb h 0 ≡ z → (g : Bool) → has_gain mode h ≡ g → Adds e p added
        go true r true q g f = none_adds (eqb-true h 0 q)
        go true r false q g f = book_adds (eqb-false h 0 q) (leb-true h 7 r)
        go false r z q true f = gain_adds (leb-false h 7 r) f
        go false r z q false f = fixed_adds (leb-false h 7 r) f

  -- the loop over the bins
  module _ (start : ℕ) where
    pub record Looped (end : ℕ) (p : AhtPlan) : Type 0 where
      pub gains : map gain_of_mapped p.gains ≡ gains_over mode row x start end
      pub bits : p.bits ≡ sum_over (least_at mode row x) start end

    looped_none : (end : ℕ) → end ≤ start → Looped end (record { gaqmod = mode; gains = []; bits = 0 })
    looped_none end l = record { gains = sym (gains_none mode row x start end l); bits = sym (sum_none (least_at mode row x) start end l) }

    looped_next : (e : ℕ) (p q : AhtPlan) → start ≤ e → Looped e p → Adds e p q → Looped (suc e) q
    looped_next e p q l f a = record {
      gains = a.gains ∙ ap (λ (g : List ℕ). cond (active mode (hebap e)) (g ++ (best_gain mode row x e ∷ [])) g) f.gains ∙ go (active mode (hebap e)) refl;
      bits = a.bits ∙ ap (λ (k : ℕ). k + least_at mode row x e) f.bits ∙ sym (sum_next (least_at mode row x) start e l);
    }
      where
        go : (t : Bool) → active mode (hebap e) ≡ t → cond t (gains_over mode row x start e ++ (best_gain mode row x e ∷ [])) (gains_over mode row x start e) ≡ gains_over mode row x start (suc e)
        go true h = sym (gains_step mode row x start e l h)
        go false h = sym (gains_stay mode row x start e l h)

    looped : (end : ℕ) → Looped end (bin_loop mode row x start end)
    unfolding bin_loop
    looped zero = looped_none 0 (omega arith)
    looped (suc e) = go (leb start e) refl (looped e)
      where
        go : (t : Bool) → leb start e ≡ t → Looped e (bin_loop mode row x start e)
            → Looped (suc e) (cond t (bin_step mode (hebap e) (six_of x e) (bin_loop mode row x start e)) (record { gaqmod = mode; gains = []; bits = 0 }))
        go true l f = looped_next e (bin_loop mode row x start e) _ (leb-true start e l) f (adds e (bin_loop mode row x start e))
        go false l f = looped_none (suc e) (leb-false start e l)

-- ---- the modes
words_are : (mode n : ℕ) → mode ≤ 3 → gain_bits mode n ≡ gain_word_bits mode n
unfolding gain_word_bits word_bits sections
words_are mode n few = go (eqb mode 1) refl (eqb mode 2) refl (eqb mode 3) refl
  where
    go : (a : Bool) → eqb mode 1 ≡ a → (b : Bool) → eqb mode 2 ≡ b → (c : Bool) → eqb mode 3 ≡ c
        → cond (a || b) n (cond c ((n + 2) / 3 * 5) 0) ≡ cond c 5 1 * cond (eqb mode 0) 0 (cond c ((n + 2) / 3) n)
    go true p b q c r = rw (sym r) (rw (eqb-true mode 1 p) (omega arith))
    go false p true q c r = rw (sym r) (rw (eqb-true mode 2 q) (omega arith))
    go false p false q true r = rw (eqb-true mode 3 r) (omega arith)
    go false p false q false r =
        let a = eqb-false mode 1 p in
        let b = eqb-false mode 2 q in
        let c = eqb-false mode 3 r in
        let z : mode ≡ 0 = omega arith in
        rw z

module _ (row : List ℕ) (x : List Float) (start end : ℕ) where
  mode_bits : (mode : ℕ) → mode ≤ 3 → (mode_plan row x start end mode).bits ≡ least_of row x start end mode
  unfolding mode_plan least_of
  mode_bits mode few =
      let l = looped mode row x start end in
      let n : length (bin_loop mode row x start end).gains ≡ active_count mode row start end =
      sym (length-map (bin_loop mode row x start end).gains gain_of_mapped) ∙ ap length l.gains ∙ gains_length mode row x start end in
      rw (l.bits, n, words_are mode (active_count mode row start end) few)

  abbrev plan : ℕ → AhtPlan
  plan = mode_plan row x start end

  abbrev cheapest_up_to : ℕ → ℕ
  cheapest_up_to = least_up_to (least_of row x start end)

  loop_modes : (n : ℕ) → n ≤ 3 → mode_loop plan n ≡ plan (cheapest_up_to n)
  unfolding mode_loop least_up_to
  loop_modes zero l = refl
  loop_modes (suc n) l =
      let m = cheapest_up_to n in
      let i = (first_least (least_of row x start end) n).inside in
      let b : (mode_loop plan n).bits ≡ least_of row x start end m = ap (λ (p : AhtPlan). p.bits) (loop_modes n (omega arith)) ∙ mode_bits m (omega arith) in
      let c : ltb (plan (suc n)).bits (mode_loop plan n).bits ≡ ltb (least_of row x start end (suc n)) (least_of row x start end m) =
      ap (λ (k : ℕ). ltb k (mode_loop plan n).bits) (mode_bits (suc n) l) ∙ ap (ltb (least_of row x start end (suc n))) b in
      ap (λ (t : Bool). cond t (plan (suc n)) (mode_loop plan n)) c
      ∙ ap (cond (ltb (least_of row x start end (suc n)) (least_of row x start end m)) (plan (suc n))) (loop_modes n (omega arith))
      ∙ go (ltb (least_of row x start end (suc n)) (least_of row x start end m))
    where
      go : (t : Bool) → cond t (plan (suc n)) (plan (cheapest_up_to n)) ≡ plan (cond t (suc n) (cheapest_up_to n))
      go true = refl
      go false = refl

  plan_is : plan_of row x start end ≡ plan_from (aht_plan row x start end)
  unfolding plan_of plan_mode plan_gains plan_payload aht_plan mode_plan
  plan_is =
      let m = cheapest_up_to 3 in
      let i = (first_least (least_of row x start end) 3).inside in
      let l = looped m row x start end in
      let p = bin_loop m row x start end in
      let n : length (gains_over m row x start end) ≡ length p.gains = sym (ap length l.gains) ∙ length-map p.gains gain_of_mapped in
      let a : plan_from (plan m) ≡ plan_of row x start end = rw (l.gains, mode_bits m i, n) in
      sym (ap plan_from (loop_modes 3 (omega arith)) ∙ a)

  -- For every row, bins and vectors that are allowed, the plan is the one that the loops of plan_aht_channel find.
  pub planning_is_ahtenc : Allowed row start end x → plan_answered row start end x ≡ plan_from (aht_plan row x start end)
  planning_is_ahtenc a = answer_plan row start end x (given row start end x a) ∙ plan_is
