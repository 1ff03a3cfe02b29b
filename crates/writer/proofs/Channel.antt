-- What is written of a choice is a field of the choice's bits, and is read back. Assumes nothing.
use Prim.Native.Nat.{ℕ, zero, suc, ◌+◌, ◌-◌, ◌*◌, ◌≤◌, ◌<◌}
use mathlib.Core.Path.{◌≡◌, refl, sym, ap, ◌∙◌}
use mathlib.Core.List.{List, [], ◌∷◌}
use mathlib.Core.Bool.{Bool, true, false, cond}
use native.Mathlib.Nat.{le_trans, le_of_eq}
use native.Mathlib.Omega.{arith}
use lib.ListN.{length, get_or, drop, replicate, length-append, length-drop}
use lib.Seq.{length-take-le}
use lib.Dec.{leb, eqb}
use lib.Ieee.{Float}
use borrow.Author.Tests.{le-leb, ne_eqb, leb-false}
use Rattle.bits.specs.Bits.{bits_of, splice}
use Rattle.bits.specs.Format.{got, number, each_Ok, each_enc}
use Rattle.bits.proofs.Laws.{length_bits_of, length_bits_n}
use Rattle.bits.proofs.Lawful.{read_back}
use Rattle.tables.specs.Tables.{mant_bits, vq_bits}
use Rattle.gains.specs.Gains.{active, coding_of}
use Rattle.gains.specs.declared.Coding.{Coding}
use Rattle.levels.specs.Component.{some_too_large}
use Rattle.levels.proofs.CodeLaws.{coded_sized, accepted_coded}
use Rattle.books.specs.Books.{search_of}
use Rattle.books.proofs.First.{search_first}
use Rattle.quantiser.specs.Quantise.{picked, codes_bits}
use Rattle.quantiser.proofs.Facts.{picked_accepted}
use Rattle.channel.specs.Bins.{from, sum_over, some_over}
use Rattle.channel.specs.Row.{gain_at, six_of}
use Rattle.channel.specs.Field.{lenient, item, coded_as, bin_of, bin_at, field}
use Rattle.channel.proofs.Over.{sum_same, none_there}
use Rattle.channel.proofs.Rows.{known_hebap, none_active}
use Rattle.channel.proofs.Laws.{lenient_laws, field_lawful}
use Rattle.channel.proofs.Parts.{Parts, parts_ok}
use Rattle.channel.proofs.Same.{by_bin}
use Rattle.channel.proofs.Most.{item_most, bins_long, field_bits}
use Rattle.planner.specs.Cost.{bin_bits}
use Rattle.planner.specs.Choice.{chosen_at, payload_of, choice_bits, Choice}
use Rattle.planner.specs.Planning.{too_large_at, beyond_at}
use Rattle.planner.specs.Work.{Within}
use Rattle.writer.specs.Written.{codes_of, item_of, written_at, written_of}
use Rattle.writer.specs.Work.{bin_enc}
use Rattle.writer.proofs.Allowed.{gains_ok}

-- ---- a bin's item is one of its format
codes_ok : (h g : ℕ) → 8 ≤ h → h ≤ 19 → (n : ℕ) (v : List Float) → length v ≡ n → each_Ok (λ (k : ℕ). lenient h g) (replicate n 0) (codes_of h g v)
unfolding each_Ok
codes_ok h g l u zero [] e = tt
codes_ok h g l u zero (y ∷ v) e = absurd (omega arith)
codes_ok h g l u (suc n) [] e = absurd (omega arith)
codes_ok h g l u (suc n) (y ∷ v) e = (accepted_coded h g l u (picked h g y).0 (picked_accepted h g y l u), codes_ok h g l u n v (omega arith))

item_ok : (mode h g : ℕ) (v : List Float) → length v ≡ 6 → (1 ≤ h → some_too_large v ≡ false) → (item lenient (bin_of mode h g)).Ok (item_of (bin_of mode h g) v)
unfolding number
item_ok mode h g v six fine =
    by_bin (λ b. (item lenient b).Ok (item_of b v)) mode h g refl (λ l u. ((search_first h v l u six (fine l)).there, refl)) (λ g a. (codes_ok h g a.0 a.1 6 v six, refl))

-- and has the bits that the planner counts
codes_bits_lem : (h g : ℕ) → 8 ≤ h → h ≤ 19 → (n : ℕ) (v : List Float) → length v ≡ n → length (each_enc (λ (k : ℕ). lenient h g) (replicate n 0) (codes_of h g v)) ≡ codes_bits h g v
unfolding each_enc codes_bits
codes_bits_lem h g l u zero [] e = refl
codes_bits_lem h g l u zero (y ∷ v) e = absurd (omega arith)
codes_bits_lem h g l u (suc n) [] e = absurd (omega arith)
codes_bits_lem h g l u (suc n) (y ∷ v) e =
    let s = coded_sized (mant_bits h) g (picked h g y).0 (accepted_coded h g l u (picked h g y).0 (picked_accepted h g y l u)) in
    rw (length-append, s, codes_bits_lem h g l u n v (omega arith))

bin_bits_lem : (mode h y : ℕ) (v : List Float) → h ≤ 19 → length v ≡ 6 → let g = cond (active mode h) y 1 in length (bin_enc (bin_of mode h g) v) ≡ bin_bits h g v
unfolding bin_of coding_of bin_bits number
bin_bits_lem mode h y v u six = rw (le-leb h 19 u) (go (eqb h 0) (leb h 7) refl (active mode h))
  where
    go : (z b : Bool) → leb h 7 ≡ b → (a : Bool) → let g = cond a y 1 in
        length (bin_enc (coded_as (cond z Coding.Nothing (cond b Coding.Book (cond a Coding.Adaptive Coding.Fixed))) h g) v) ≡ cond z 0 (cond b (vq_bits h) (codes_bits h g v))
    go true b e a = refl
    go false true e a = length_bits_n (vq_bits h) (search_of h v)
    go false false e true = codes_bits_lem h y (leb-false h 7 e) u 6 v six
    go false false e false = codes_bits_lem h 1 (leb-false h 7 e) u 6 v six

pub six_long : (x : List Float) (k : ℕ) → 6 * k + 6 ≤ length x → length (six_of x k) ≡ 6
six_long x k l = length-take-le 6 (drop (6 * k) x) (rw length-drop (omega arith))

pub six_fine : (row : List ℕ) (x : List Float) (k : ℕ) → too_large_at row x k ≡ false → 1 ≤ get_or row k 0 → some_too_large (six_of x k) ≡ false
unfolding beyond_at
six_fine row x k o p = rw (ne_eqb (get_or row k 0) 0 (λ e. omega arith)) at o

-- ---- the field of a choice, for bins within the row and its vectors and components that are accepted
module _ (mode : ℕ) (gains row : List ℕ) (x : List Float) (start end : ℕ) (within : Within row start end x)
    (inside : some_over (too_large_at row x) start end ≡ false) (choice : Choice mode gains row start end) where
  in_vectors : (k : ℕ) → k < end → length (six_of x k) ≡ 6
  in_vectors k u = let v = within.vectors in six_long x k (omega arith)

  items_ok : (n k : ℕ) → start ≤ k → k + n ≤ end → each_Ok (item lenient) (from (bin_at mode gains row start) k n) (from (written_at mode gains row x start) k n)
  unfolding from each_Ok bin_at
  items_ok zero k l u = tt
  items_ok (suc n) k l u = (
    item_ok mode (get_or row k 0) (gain_at mode gains row start k) (six_of x k) (in_vectors k (omega arith)) (six_fine row x k (none_there (too_large_at row x) start end inside k l (omega arith))),
    items_ok n (suc k) (omega arith) (omega arith),
  )

  -- What is written is a field of the row's bins.
  pub channel_parts : Parts lenient row start end (written_of mode gains row x start end)
  channel_parts =
      let o = within.row_ok.ordered in
      record {
        mode_is = choice.mode_is;
        gains_ok = gains_ok mode _ gains choice.mode_is (none_active mode row start end) choice.one_each choice.allowed;
        items_ok = items_ok (end - start) start (omega arith) (omega arith);
      }

  pub channel_ok : (field row start end).Ok (written_of mode gains row x start end)
  channel_ok = parts_ok lenient row start end (written_of mode gains row x start end) channel_parts

  -- It has the bits that the planner counts for the choice.
  bits_at : (k : ℕ) → start ≤ k → k < end → length ((item lenient (bin_at mode gains row start k)).enc (written_at mode gains row x start k)) ≡ chosen_at mode gains row x start k
  unfolding chosen_at bin_at gain_at
  bits_at k l u = bin_bits_lem mode (get_or row k 0) _ (six_of x k) (known_hebap row start end k within.row_ok.known l u) (in_vectors k u)

  -- A bin has 120 of them at most.
  pub bin_few : (k : ℕ) → start ≤ k → k < end → chosen_at mode gains row x start k ≤ 120
  unfolding bin_at
  bin_few k l u =
      le_trans (le_of_eq (sym (bits_at k l u))) (item_most lenient lenient_laws mode (get_or row k 0) (gain_at mode gains row start k) (written_at mode gains row x start k)
      (item_ok mode (get_or row k 0) (gain_at mode gains row start k) (six_of x k) (in_vectors k u) (six_fine row x k (none_there (too_large_at row x) start end inside k l u))))

  pub channel_long : length ((field row start end).enc (written_of mode gains row x start end)) ≡ choice_bits mode gains row x start end
  unfolding choice_bits payload_of
  channel_long =
      let b = bin_at mode gains row start in
      let i = written_at mode gains row x start in
      let o = within.row_ok.ordered in
      let e : start + (end - start) ≡ end = omega arith in
      let f = field_bits lenient lenient_laws row start end (written_of mode gains row x start end) channel_ok in
      let n = bins_long lenient b i start (end - start) ∙ ap (sum_over (λ j. length ((item lenient (b j)).enc (i j))) start) e
      ∙ sum_same (λ j. length ((item lenient (b j)).enc (i j))) (chosen_at mode gains row x start) start end bits_at in
      f ∙ rw n (omega arith)

  -- Put into a buffer at a position, it is read from there.
  pub channel_read : (s e : List ℕ) (at : ℕ) → at ≤ 8 * length s → bits_of e ≡ splice (bits_of s) at ((field row start end).enc (written_of mode gains row x start end))
      → (field row start end).dec (drop at (bits_of e)) ≡ got (written_of mode gains row x start end) (drop (at + choice_bits mode gains row x start end) (bits_of s))
  channel_read s e at l q =
      let c = written_of mode gains row x start end in
      let b = length_bits_of s in
      ap (λ (t : List Bool). (field row start end).dec (drop at t)) q
      ∙ read_back (field row start end) (field_lawful lenient lenient_laws row start end) (bits_of s) at c (omega arith) channel_ok
      ∙ ap (λ (n : ℕ). got c (drop (at + n) (bits_of s))) channel_long
