-- The bins of a channel as vq_lookup and read_scalar_aht_mantissas take them. Assumes nothing.
use Prim.Native.Nat.{ℕ, zero, suc, ◌+◌, ◌-◌, ◌*◌, ◌≤◌, ◌<◌}
use mathlib.Core.Path.{◌≡◌, refl, sym, ap, ◌∙◌}
use mathlib.Core.List.{List, [], ◌∷◌, ◌++◌, map}
use mathlib.Core.Bool.{Bool, true, false, cond, not, ◌&&◌}
use native.Mathlib.Omega.{arith}
use borrow.Author.Tests.{le-leb, lt-leb, leb-true, leb-false, eqb-true, eqb-false}
use lib.Dec.{eqb, leb}
use lib.IntN.{ℤ, pos, negsuc}
use lib.ListN.{length, length-append, length-drop, get_or, drop, replicate}
use lib.Seq.{get_or-drop, drop-drop, drop-nil}
use Rattle.bits.specs.Bits.{bits_of}
use Rattle.bits.specs.Format.{number, each, each_Ok, each_enc, shows}
use Rattle.planner.proofs.Optimal.{rank_lt}
use Rattle.bits.proofs.Laws.{length_bits_n, length_bits_of}
use Rattle.bits.proofs.Lawful.{each_lawful}
use Rattle.bits.proofs.Reading.{at_pos}
use Rattle.tables.specs.Tables.{mant_bits, vq_bits}
use Rattle.tables.proofs.Rules.{vq_most}
use Rattle.gains.specs.Gains.{endbap, marked, gaqbin_of, active, coding_of, gain_value}
use Rattle.gains.specs.declared.Coding.{Coding}
use Rattle.levels.specs.declared.Code.{Code}
use Rattle.levels.specs.Value.{f0, value_of}
use Rattle.levels.proofs.CodeLaws.{coded_lawful}
use Rattle.scalars.specs.Scalars.{gain_of, bin_read, scalars_read}
use Rattle.books.specs.Books.{vq_lookup}
use Rattle.channel.specs.Bins.{from}
use Rattle.channel.proofs.Over.{sum_next}
use Rattle.channel.proofs.Rows.{none_active}
use Rattle.channel.specs.Row.{active_at, active_count, gain_at}
use Rattle.channel.specs.Field.{Bin, Item, of_index, of_codes, lenient, item, coded_as, bin_of, bin_at}
use Rattle.channel.specs.Shown.{values_of, joined}
use Rattle.promise3.specs.Aht.{took, mantissas_read, behind_bin, bins_read}
use Rattle.promise3.proofs.Places.{empty, map_behind}
use Rattle.promise3.proofs.Taken.{Stand, room, stand_parts, number_taken_lem}

-- ---- gains
-- read_scalar_aht_mantissas has the gain of the code where the bin is active, and 1 elsewhere, in mode 0 too
mark_gain : (mode h code : ℕ) → gain_of (gaqbin_of mode h) code mode ≡ cond (active mode h) (gain_value code mode) 1
unfolding gaqbin_of active gain_value
mark_gain mode h code = go (marked mode h) (leb (endbap mode) h) (eqb mode 0) refl
  where
    in_mode_0 : mode ≡ 0 → gain_value code mode ≡ 1
    in_mode_0 e = rw e (either (eqb code 0))
      where
        either : (t : Bool) → cond {A = ℕ} t 1 1 ≡ 1
        either true = refl
        either false = refl

    go : (m e z : Bool) → eqb mode 0 ≡ z → gain_of (cond m (pos 1) (cond e (negsuc 0) (pos 0))) code mode ≡ cond (not z && m) (gain_value code mode) 1
    go true e true q = in_mode_0 (eqb-true mode 0 q)
    go true e false q = refl
    go false true true q = refl
    go false true false q = refl
    go false false true q = refl
    go false false false q = refl

module _ (s : List ℕ) (mode : ℕ) (few : mode ≤ 3) where
  -- ---- one bin
  -- hebap 0 takes nothing and gives zeros
  none_taken : (h : ℕ) → h ≡ 0 → (mark : ℤ) (code at : ℕ) → at ≤ 8 * length s → mantissas_read s mode h mark code at ≡ took (replicate 6 f0) (at + 0)
  unfolding mantissas_read scalars_read bin_read
  none_taken h q mark code at i =
      let e : 8 * length s - (8 * length s - at) ≡ at = omega arith in
      let z : at ≡ at + 0 = omega arith in
      rw (q, le-leb mode 3 few, le-leb at (8 * length s) i, length-drop, length_bits_of, e, at_pos) (ap (took (replicate 6 f0)) z)

  book_taken : (h : ℕ) → 1 ≤ h → h ≤ 7 → (mark : ℤ) (code at i : ℕ) (rest : List Bool) → (number (vq_bits h)).Ok i → Stand s at ((number (vq_bits h)).enc i) rest
      → mantissas_read s mode h mark code at ≡ took (vq_lookup h i) (at + length ((number (vq_bits h)).enc i))
  unfolding mantissas_read number
  book_taken h l u mark code at i rest o st =
      let v = vq_most h in
      rw (le-leb 1 h l, le-leb h 7 u, number_taken_lem s at (vq_bits h) i rest (omega arith) st o, length_bits_n)

  scalar_taken : (h g : ℕ) → 8 ≤ h → h ≤ 19 → (mark : ℤ) (code at : ℕ) (cs : List Code) (rest : List Bool) → gain_of mark code mode ≡ g
      → let F = each (λ (k : ℕ). lenient h g) (replicate 6 0) in F.Ok cs → Stand s at (F.enc cs) rest
      → mantissas_read s mode h mark code at ≡ took (map (value_of h g) cs) (at + length (F.enc cs))
  unfolding mantissas_read scalars_read bin_read
  scalar_taken h g l u mark code at cs rest e o st =
      let F = each (λ (k : ℕ). lenient h g) (replicate 6 0) in
      let b = (each_lawful (λ (k : ℕ). lenient h g) (λ k. coded_lawful (mant_bits h) g) (replicate 6 0)).back cs rest o in
      let r = room s at (F.enc cs) rest st in
      let n : length (drop at (bits_of s)) ≡ length (F.enc cs) + length rest = ap length st.bits ∙ length-append (F.enc cs) rest in
      let d : length (drop at (bits_of s)) ≡ 8 * length s - at = length-drop at (bits_of s) ∙ ap (λ (k : ℕ). k - at) (length_bits_of s) in
      let i = st.inside in
      let p : 8 * length s - length rest ≡ at + length (F.enc cs) = omega arith in
      rw (le-leb 1 h (omega arith), lt-leb h 7 (omega arith), le-leb mode 3 few, le-leb h 19 u, le-leb at (8 * length s) i, e, st.bits, b, p, at_pos)

  bin_taken : (h g code at : ℕ) (x : Item) (rest : List Bool) → h ≤ 19 → (active mode h ≡ true → gain_value code mode ≡ g)
      → (item lenient (bin_of mode h g)).Ok x → Stand s at ((item lenient (bin_of mode h g)).enc x) rest
      → mantissas_read s mode h (gaqbin_of mode h) code at ≡ took (values_of (bin_of mode h g) x) (at + length ((item lenient (bin_of mode h g)).enc x))
  unfolding bin_of coding_of
  bin_taken h g code at x rest u same = rw (le-leb h 19 u) (go (eqb h 0) refl (leb h 7) refl (active mode h) refl)
    where
      go : (z : Bool) → eqb h 0 ≡ z → (b : Bool) → leb h 7 ≡ b → (a : Bool) → active mode h ≡ a
          → let B = coded_as (cond z Coding.Nothing (cond b Coding.Book (cond a Coding.Adaptive Coding.Fixed))) h g in
          (item lenient B).Ok x → Stand s at ((item lenient B).enc x) rest → mantissas_read s mode h (gaqbin_of mode h) code at ≡ took (values_of B x) (at + length ((item lenient B).enc x))
      go true q b r a t o st = none_taken h (eqb-true h 0 q) (gaqbin_of mode h) code at st.inside
      go false q true r a t o st = let n = eqb-false h 0 q in book_taken h (omega arith) (leb-true h 7 r) (gaqbin_of mode h) code at (of_index x) rest o.0 st
      go false q false r true t o st =
          scalar_taken h g (leb-false h 7 r) u (gaqbin_of mode h) code at (of_codes x) rest (mark_gain mode h code ∙ ap (λ (e : Bool). cond e (gain_value code mode) 1) t ∙ same t) o.0 st
      go false q false r false t o st =
          scalar_taken h 1 (leb-false h 7 r) u (gaqbin_of mode h) code at (of_codes x) rest (mark_gain mode h code ∙ ap (λ (e : Bool). cond e (gain_value code mode) 1) t) o.0 st

-- ---- the codes that are left
behind_marked : (mode h : ℕ) (codes : List ℕ) → behind_bin (gaqbin_of mode h) codes ≡ cond (marked mode h) (drop 1 codes) codes
unfolding gaqbin_of
behind_marked mode h codes = go (marked mode h) (leb (endbap mode) h)
  where
    go : (m e : Bool) → behind_bin (cond m (pos 1) (cond e (negsuc 0) (pos 0))) codes ≡ cond m (drop 1 codes) codes
    go true e = refl
    go false true = refl
    go false false = refl

first_code_lem : (f : ℕ → ℕ) (codes gs : List ℕ) (r : ℕ) → map f codes ≡ drop r gs → r < length gs → f (get_or codes 0 0) ≡ get_or gs r 0
first_code_lem f [] gs r e l =
    let n : 0 ≡ length gs - r = ap length e ∙ length-drop r gs in
    absurd (omega arith)
first_code_lem f (c ∷ cs) gs r e l =
    let z : r + 0 ≡ r = omega arith in
    ap (λ (t : List ℕ). get_or t 0 0) e ∙ get_or-drop r gs 0 0 ∙ ap (λ (i : ℕ). get_or gs i 0) z

module _ (mode : ℕ) (row gs : List ℕ) (start end : ℕ) (count : length gs ≡ active_count mode row start end) where
  abbrev Left : ℕ → List ℕ → Type 0
  Left k codes = map (λ c. gain_value c mode) codes ≡ drop (active_count mode row start k) gs

  left_next : (k : ℕ) (codes : List ℕ) → start ≤ k → Left k codes → Left (suc k) (behind_bin (gaqbin_of mode (get_or row k 0)) codes)
  unfolding active active_count active_at
  left_next k codes l e =
      ap (map (λ c. gain_value c mode)) (behind_marked mode (get_or row k 0) codes)
      ∙ go (marked mode (get_or row k 0)) refl (eqb mode 0) refl
    where
      f : ℕ → ℕ
      f c = gain_value c mode

      r : ℕ
      r = active_count mode row start k

      more : (n : ℕ) → active_at mode row k ≡ n → r + n ≡ active_count mode row start (suc k)
      more n q = sym (sum_next (active_at mode row) start k l ∙ ap (λ (t : ℕ). r + t) q)

      plus : (n : ℕ) → n ≡ n + 0
      plus n = omega arith

      go : (m : Bool) → marked mode (get_or row k 0) ≡ m → (z : Bool) → eqb mode 0 ≡ z → map f (cond m (drop 1 codes) codes) ≡ drop (active_count mode row start (suc k)) gs
      go true p false q = map_behind f codes ∙ ap (drop 1) e ∙ drop-drop 1 r gs ∙ ap (λ (n : ℕ). drop n gs) (more 1 (rw (p, q)))
      go true p true q =
          let z : gs ≡ [] = empty gs (count ∙ none_active mode row start end (eqb-true mode 0 q)) in
          map_behind f codes ∙ ap (drop 1) e ∙ drop-drop 1 r gs ∙ ap (drop (r + 1)) z ∙ drop-nil (r + 1) ∙ sym (ap (drop (active_count mode row start (suc k))) z ∙ drop-nil (active_count mode row start (suc k)))
      go false p true q = e ∙ ap (λ (n : ℕ). drop n gs) (plus r ∙ more 0 (rw (p, q)))
      go false p false q = e ∙ ap (λ (n : ℕ). drop n gs) (plus r ∙ more 0 (rw (p, q)))

  -- ---- bins in rising order
  module _ (s : List ℕ) (few : mode ≤ 3) (known : (k : ℕ) → start ≤ k → k < end → get_or row k 0 ≤ 19) where
    abbrev hebap : ℕ → ℕ
    hebap k = get_or row k 0

    abbrev bin : ℕ → Bin
    bin = bin_at mode gs row start

    own : (k : ℕ) (codes : List ℕ) → start ≤ k → k < end → Left k codes → active mode (hebap k) ≡ true → gain_value (get_or codes 0 0) mode ≡ gain_at mode gs row start k
    unfolding gain_at
    own k codes l u e a =
        let r = rank_lt mode row start k end l u a in
        first_code_lem (λ c. gain_value c mode) codes gs (active_count mode row start k) e (omega arith)
        ∙ sym (ap (λ (t : Bool). cond t (get_or gs (active_count mode row start k) 0) 1) a)

    pub bins_taken : (n k at : ℕ) (codes : List ℕ) (xs : List Item) (rest : List Bool) → start ≤ k → k + n ≡ end → Left k codes
        → each_Ok (item lenient) (from bin k n) xs → let l = each_enc (item lenient) (from bin k n) xs in Stand s at l rest
        → bins_read s mode (from hebap k n) (map (gaqbin_of mode) (from hebap k n)) codes at ≡ took (joined (shows values_of (from bin k n) xs)) (at + length l)
    unfolding from each_Ok each_enc bins_read joined bin_at
    bins_taken zero k at codes xs rest l u e o st = ap (took []) (omega arith)
    bins_taken (suc n) k at codes [] rest l u e o st = absurd o
    bins_taken (suc n) k at codes (x ∷ xs) rest l u e o st =
        let a = (item lenient (bin k)).enc x in
        let b = each_enc (item lenient) (from bin (suc k) n) xs in
        let q = stand_parts s at a b rest st in
        let one = bin_taken s mode few (hebap k) (gain_at mode gs row start k) (get_or codes 0 0) at x (b ++ rest) (known k l (omega arith)) (own k codes l (omega arith) e) o.0 q.0 in
        let more =
        bins_taken n (suc k) (at + length a) (behind_bin (gaqbin_of mode (hebap k)) codes) xs rest (omega arith) (omega arith) (left_next k codes l e) o.1 q.1 in
        let t : at + length a + length b ≡ at + length (a ++ b) = rw length-append (omega arith) in
        rw (one, more, t)
