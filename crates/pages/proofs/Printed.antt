-- What stands on the pages of a plan, and what the call leaves. docs/FORMAT.md, Pages. Assumes nothing.
use Prim.Native.Nat.{ℕ, zero, suc, ◌+◌, ◌-◌, ◌*◌, ◌%◌, ◌≤◌, ◌<◌}
use mathlib.Core.Path.{◌≡◌, refl, sym, ap, ◌∙◌}
use mathlib.Core.Bool.{Bool, true, false, cond}
use mathlib.Core.Logic.{◌↔◌}
use mathlib.Core.List.{List, []}
use native.Mathlib.Omega.{arith}
use borrow.Author.Tests.{le-leb, leb-true, ltb-true, ltb-false}
use lib.Dec.{eqb, leb, ltb}
use lib.ListN.{length, get_or, take, drop}
use lib.Seq.{length-take-le}
use lib.Ieee.{Float}
use Rattle.bits.specs.Bits.{splice}
use Rattle.bits.proofs.Laws.{splice_read, splice_after}
use Rattle.gains.specs.Gains.{active, gain_word_bits}
use Rattle.gains.proofs.Cases.{three_gains_lem}
use Rattle.channel.specs.Bins.{from, over, sum_over}
use Rattle.channel.specs.Row.{active_count, gain_at}
use Rattle.channel.specs.Shown.{joined}
use Rattle.channel.proofs.Over.{sum_same, over_next, over_end}
use Rattle.channel.proofs.Rows.{known_hebap}
use Rattle.planner.specs.declared.Plan.{Plan}
use Rattle.planner.specs.Cost.{bin_bits}
use Rattle.planner.specs.Choice.{chosen_at, payload_of}
use Rattle.planner.specs.Planning.{gains_of}
use Rattle.planner.specs.Fit.{plan_cause}
use Rattle.planner.specs.Work.{Within}
use Rattle.planner.proofs.Codes.{bin_most}
use Rattle.planner.proofs.Optimal.{rank_lt}
use Rattle.planner.proofs.Answer.{cause_none, fine, plan_cause_none, plan_cause_most, Fitting, plan_fitting}
use Rattle.pages.specs.declared.Cell.{Cell}
use Rattle.std.specs.Prelude.{Option, None, Some, Result, Ok, Err}
use Rattle.answers.specs.Answers.{answered, answer_number}
use Rattle.answers.specs.Causes.{number, cause_number, first_of, afterwards}
use Rattle.answers.specs.declared.Refusal.{Refusal}
use Rattle.answers.specs.declared.Refusal.TheVariants.{OutputFull}
use Rattle.answers.proofs.Numbers.{numbered, first_none, answered_number, held}
use Rattle.pages.specs.Pages.{spaces, cell_at, cell_text, place_text, lines_text, page_count, pages_length, pages_text, place_at}
use Rattle.pages.specs.Printing.{pages_cause, pages_print, pages_printed}
use Rattle.pages.specs.Reading.{at_place, cell_in, cells_in}
use Rattle.pages.proofs.Lines.{place_shown, place_cell, place_blank}
use Rattle.pages.proofs.Back.{cell_dash, cell_back, cell_seen, spaces_blank, cell_visible}
use Rattle.pages.proofs.Bytes.{outside_places, characters, line_end}
use Rattle.pages.proofs.Call.{cells, cells_long, pages_long, places_enough}

-- ---- how many pages
-- Each 200 bins begin a page: none has fewer places than bins, or a page more than it needs.
pub pages_begun : (start end : ℕ) → (end - start ≤ 200 * page_count start end) × (200 * page_count start end < end - start + 200)
unfolding page_count
pages_begun start end = (omega arith, omega arith)

module _ (p : Plan) (row : List ℕ) (start end : ℕ) (x : List Float) where
  abbrev text : List ℕ
  text = pages_text p row start end x

  abbrev shown : ℕ → Cell
  shown = cell_at p.mode (gains_of p) row x start

  -- ---- lines
  -- Behind each 64 characters stands byte 10,
  pub lines_end : (l : ℕ) → l < 50 * page_count start end → get_or text (65 * l + 64) 0 ≡ 10
  unfolding pages_text
  lines_end l u = line_end (cells p row start end x) (cells_long p row start end x) start end (50 * page_count start end) l u

  -- and nowhere else: every other byte is a character, from the space on.
  pub lines_hold : (j : ℕ) → j < length text → (j % 65 ≡ 64 → ⊥) → 32 ≤ get_or text j 0
  unfolding pages_text
  lines_hold j h n =
      let l = pages_long p row start end x in
      characters (cells p row start end x) (cells_long p row start end x) (λ k. cell_visible (shown k)) start end (50 * page_count start end) j (omega arith) n

  -- ---- bins
  -- The 12 bytes at a bin's place are its cell.
  pub bin_shown : (k : ℕ) → start ≤ k → k < end → at_place text (k - start) ≡ cell_text (shown k)
  unfolding pages_text
  bin_shown k l u =
      let m = places_enough start end in
      let e : start + (k - start) ≡ k = omega arith in
      place_shown (cells p row start end x) (cells_long p row start end x) start end (50 * page_count start end) (k - start) (omega arith)
      ∙ place_cell (cells p row start end x) (cells_long p row start end x) end (start + (k - start)) (omega arith) ∙ ap (λ (i : ℕ). cell_text (shown i)) e

  -- All bytes outside these are spaces, or line ends behind each 64 characters.
  pub others_blank : (j : ℕ) → j < length text → ((i : ℕ) → i < end - start → place_at i ≤ j → j < place_at i + 12 → ⊥) → get_or text j 0 ≡ cond (eqb (j % 65) 64) 10 32
  unfolding pages_text
  others_blank j h n =
      let l = pages_long p row start end x in
      outside_places (cells p row start end x) (cells_long p row start end x) start end (50 * page_count start end) j (omega arith) n

  -- ---- a plan that fits: what is shown is read back
  module _ (none : plan_cause p row start end x ≡ None) where
    within : Within row start end x
    within = (cause_none row start end x (plan_cause_none p row start end x none).0).0

    -- The pages have 6,500 bytes at most.
    pub pages_most : pages_length start end ≤ 6500
    unfolding page_count
    pages_most = let f = within.row_ok.few in omega arith

    module _ (places : length p.gains ≡ 256) where
      fit : Fitting p row start end x
      fit = plan_fitting p row start end x places none

      -- a gain is 1, 2 or 4
      gain_range : (k : ℕ) → start ≤ k → k < end → active p.mode (get_or row k 0) ≡ true → (1 ≤ (shown k).gk) × ((shown k).gk ≤ 4)
      unfolding cell_at gain_at
      gain_range k l u a =
          let i = active_count p.mode row start k in
          let o = fit.choice.one_each in
          let h = rank_lt p.mode row start k end l u a in
          rw a (three_gains_lem p.mode (get_or (gains_of p) i 0) (λ g. (1 ≤ g) × (g ≤ 4)) (fit.choice.allowed i (omega arith)) (omega arith, omega arith) (omega arith, omega arith) (omega arith, omega arith))

      no_gain : (k : ℕ) → start ≤ k → k < end → ((shown k).gk ≡ 0) ↔ (active p.mode (get_or row k 0) ≡ false)
      unfolding cell_at
      no_gain k l u = (λ e. go (active p.mode (get_or row k 0)) refl e, λ e. rw e)
        where
          go : (t : Bool) → active p.mode (get_or row k 0) ≡ t → (shown k).gk ≡ 0 → t ≡ false
          go true a e = let r = gain_range k l u a in absurd (omega arith)
          go false a e = refl

      gain_small : (k : ℕ) → start ≤ k → k < end → (shown k).gk < 10
      gain_small k l u = go (active p.mode (get_or row k 0)) refl
        where
          go : (t : Bool) → active p.mode (get_or row k 0) ≡ t → (shown k).gk < 10
          go true a = let r = gain_range k l u a in omega arith
          go false a = let z = (no_gain k l u).1 a in omega arith

      -- A bin that isn't active shows a dash for Gk, and no other bin does.
      pub dash_shown : (k : ℕ) → start ≤ k → k < end → (get_or (at_place text (k - start)) 7 0 ≡ 45) ↔ (active p.mode (get_or row k 0) ≡ false)
      dash_shown k l u =
          let d = cell_dash (shown k) (gain_small k l u) in
          let n = no_gain k l u in
          rw (bin_shown k l u) (λ e. n.0 (d.0 e), λ e. d.1 (n.1 e))

      -- The bin, its hebap, its Gk and its bits are read at its place.
      cell_read : (k : ℕ) → start ≤ k → k < end → cell_in (cell_text (shown k)) ≡ shown k
      unfolding cell_at chosen_at
      cell_read k l u =
          let f = within.row_ok.few in
          let h = known_hebap row start end k within.row_ok.known l u in
          let b = bin_most (get_or row k 0) (gain_at p.mode (gains_of p) row start k) (drop (6 * k) x) in
          cell_back (shown k) (omega arith) (omega arith) (gain_small k l u) (omega arith)

      pub bin_read_lem : (k : ℕ) → start ≤ k → k < end → cell_in (at_place text (k - start)) ≡ shown k
      bin_read_lem k l u = ap cell_in (bin_shown k l u) ∙ cell_read k l u

      -- A bin of hebap 0 shows 0 bits.
      pub no_bits : (k : ℕ) → start ≤ k → k < end → get_or row k 0 ≡ 0 → (cell_in (at_place text (k - start))).bits ≡ 0
      unfolding cell_at chosen_at bin_bits
      no_bits k l u e = ap (λ (c : Cell). c.bits) (bin_read_lem k l u) ∙ rw e

      -- Every bin appears once, in order: the cells that are read off all places are those of the bins.
      read_from : (n i : ℕ) → i + n ≡ 200 * page_count start end → cells_in text i n ≡ over shown (start + i) end
      unfolding cells_in pages_text
      read_from zero i e = let b = (pages_begun start end).0 in sym (over_end shown (start + i) end (omega arith))
      read_from (suc n) i e = go (ltb (start + i) end) refl (read_from n (suc i) (omega arith))
        where
          m : ℕ
          m = 50 * page_count start end

          at : at_place text i ≡ place_text (cells p row start end x) end (start + i)
          at = place_shown (cells p row start end x) (cells_long p row start end x) start end m i (omega arith)

          go : (t : Bool) → ltb (start + i) end ≡ t → cells_in text (suc i) n ≡ over shown (start + suc i) end → cells_in text i (suc n) ≡ over shown (start + i) end
          go true q r =
              let u = ltb-true (start + i) end q in
              let c : at_place text i ≡ cell_text (shown (start + i)) = at ∙ place_cell (cells p row start end x) (cells_long p row start end x) end (start + i) u in
              let z : start + suc i ≡ start + i + 1 = omega arith in
              rw (c, cell_seen (shown (start + i)), cell_read (start + i) (omega arith) u, r, z) (sym (over_next shown (start + i) end u))
          go false q r =
              let u = ltb-false (start + i) end q in
              let c : at_place text i ≡ spaces 12 = at ∙ place_blank (cells p row start end x) (cells_long p row start end x) end (start + i) u in
              rw (c, spaces_blank) (r ∙ over_end shown (start + suc i) end (omega arith) ∙ sym (over_end shown (start + i) end u))

      pub bins_read_lem : cells_in text 0 (200 * page_count start end) ≡ over shown start end
      bins_read_lem = let z : start + 0 ≡ start = omega arith in read_from (200 * page_count start end) 0 (omega arith) ∙ ap (λ (k : ℕ). over shown k end) z

      -- The bits shown, with the gain words, add up to the payload.
      pub bits_add_up : sum_over (λ k. (cell_in (at_place text (k - start))).bits) start end + gain_word_bits p.mode p.count ≡ p.payload
      unfolding payload_of cell_at
      bits_add_up =
          let l : length (gains_of p) ≡ p.count = length-take-le p.count p.gains fit.room in
          let n : p.count ≡ active_count p.mode row start end = sym l ∙ fit.choice.one_each in
          rw (sum_same (λ k. (cell_in (at_place text (k - start))).bits) (chosen_at p.mode (gains_of p) row x start) start end (λ k a b. ap (λ (c : Cell). c.bits) (bin_read_lem k a b)))
          (ap (λ (m : ℕ). sum_over (chosen_at p.mode (gains_of p) row x start) start end + gain_word_bits p.mode m) n ∙ sym fit.payload)

  -- ---- the call
  -- its number is that of the cause
  pub print_number : (out : List ℕ) → answer_number (pages_print p row start end x out) ≡ cause_number (pages_cause p row start end x (length out))
  unfolding pages_print
  print_number out = answered_number (pages_cause p row start end x (length out)) (pages_length start end)

  -- A plan without bins prints no page, and 7 is never answered, whatever the output.
  pub no_page : start ≡ end → (out : List ℕ) → (text ≡ []) × (answer_number (pages_print p row start end x out) ≡ cause_number (plan_cause p row start end x))
  unfolding pages_cause page_count pages_text lines_text from joined
  no_page e out =
      let z : page_count start end ≡ 0 = omega arith in
      let n : 50 * page_count start end ≡ 0 = omega arith in
      (ap (lines_text (cells p row start end x) start end) n, print_number out ∙ rw (le-leb (pages_length start end) (length out) (omega arith)) (go (plan_cause p row start end x)))
    where
      go : (k : Option Refusal) → cause_number (first_of k None) ≡ cause_number k
      go None = refl
      go (Some k) = refl

  pub never_7 : start ≡ end → (out : List ℕ) → pages_print p row start end x out ≡ Err OutputFull → ⊥
  never_7 e out q =
      let m = plan_cause_most p row start end x in
      let n = (no_page e out).1 in
      let z : answer_number (pages_print p row start end x out) ≡ 7 = ap answer_number q in
      omega arith

  -- r is what print_pages answers, and `after` the output that it leaves: the pages stand at its front and the rest is
  -- kept, or all of it
  module _ (out after : List ℕ) (r : Result ℕ Refusal) (is : r ≡ pages_print p row start end x out) (put : after ≡ pages_printed p row start end x out) where
    abbrev cause : Option Refusal
    cause = pages_cause p row start end x (length out)

    -- where the call answers a length, there is room
    room_there : cause ≡ None → pages_length start end ≤ length out
    unfolding pages_cause
    room_there h = leb-true _ _ (fine (leb (pages_length start end) (length out)) OutputFull (first_none (plan_cause p row start end x) _ h).1)

    pub printed : (n : ℕ) → r ≡ Ok n → (n ≡ pages_length start end) × (take n after ≡ text) × (drop n after ≡ drop n out)
    unfolding pages_print pages_printed
    printed n e = go cause refl (sym e ∙ is) put
      where
        go : (k : Option Refusal) → cause ≡ k → Ok n ≡ answered k (pages_length start end) → after ≡ afterwards k (splice out 0 text) out
            → (n ≡ pages_length start end) × (take n after ≡ text) × (drop n after ≡ drop n out)
        go None q f g =
            let i : n ≡ pages_length start end = cc in
            let l : n ≡ length text = i ∙ sym (pages_long p row start end x) in
            let z : 0 + length text ≡ n = omega arith in
            let h = room_there q in
            (i, rw (g, l) (splice_read out text 0 (omega arith)), rw (g, ← z) (splice_after out text 0 (omega arith)))
        go (Some k) q f g = absurd (let z : ◌≡◌ {A = ℕ} 0 (number k) = ap answer_number f in let m = numbered k in omega arith)

    pub refused_kept : (k : Refusal) → r ≡ Err k → (cause ≡ Some k) × (after ≡ out)
    unfolding pages_print pages_printed
    refused_kept k e = let h = held cause (pages_length start end) is e in (h, put ∙ rw h)
