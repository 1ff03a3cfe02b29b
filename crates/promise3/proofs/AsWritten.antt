-- Writing is the calls of write_u32 that write_aht_channel of the Rust makes, in its order. Assumes nothing.
use Prim.Native.Nat.{ℕ, zero, suc, ◌+◌, ◌-◌, ◌*◌, ◌≤◌, ◌<◌}
use mathlib.Core.Path.{◌≡◌, refl, sym, ap, ◌∙◌}
use mathlib.Core.List.{List, [], ◌∷◌, ◌++◌, map, append-nil, append_assoc}
use mathlib.Core.Bool.{Bool, true, false, cond, not, ◌&&◌, ◌||◌}
use native.Mathlib.Omega.{arith}
use borrow.Author.Tests.{le-leb, leb-false, lt-ltb, eqb-true, eq-eqb, ne_eqb}
use lib.Dec.{eqb, leb, ltb}
use lib.Ieee.{Float}
use lib.ListN.{length, length-append, get_or, drop, replicate}
use lib.Seq.{drop-drop, drop-cons}
use Rattle.answers.specs.declared.Refusal.{Refusal}
use Rattle.std.specs.Prelude.{Some, None, Option}
use Rattle.answers.proofs.Numbers.{numbered}
use Rattle.answers.specs.Causes.{afterwards}
use Rattle.answers.specs.Answers.{answer_number, value_or, answered}
use Rattle.bits.specs.Bits.{bits_n, pos_of, bytes_with, written}
use Rattle.bits.specs.Format.{number, only, shown, each, each_enc}
use Rattle.bits.proofs.Laws.{length_bits_n, length_with, with_more}
use Rattle.tables.specs.Tables.{mant_bits, vq_bits}
use Rattle.tables.proofs.Rules.{mant_bits_lem, vq_most}
use Rattle.gains.specs.Gains.{endbap, active, coding_of, allowed_gain, group_of}
use Rattle.gains.specs.declared.Coding.{Coding}
use Rattle.gains.proofs.Cases.{three_gains_lem}
use Rattle.levels.specs.declared.Code.{Code}
use Rattle.levels.specs.Codes.{small_bits, large_bits, tag, tagged, coded, of_large, Accepted}
use Rattle.levels.proofs.Signed.{small_width, large_width}
use Rattle.books.specs.Books.{search_of}
use Rattle.quantiser.specs.Quantise.{picked}
use Rattle.quantiser.proofs.Facts.{picked_accepted}
use Rattle.channel.specs.Bins.{from}
use Rattle.channel.specs.Row.{active_at, active_count, gain_at, six_of}
use Rattle.channel.specs.Field.{gain_code, gain_bit, group_words, gain_words, lenient, item, coded_as, bin_of, bin_at, field}
use Rattle.channel.proofs.Over.{sum_next}
use Rattle.channel.proofs.Rows.{count_start, known_hebap}
use Rattle.writer.proofs.Channel.{six_long}
use Rattle.writer.specs.Written.{codes_of, item_of, written_at, written_of, field_of, write_cause, channel_write, channel_write_up_to, channel_written, channel_written_up_to}
use Rattle.writer.proofs.Planned.{fits_long, written_when}
use Rattle.planner.specs.Choice.{Choice}
use Rattle.planner.specs.Planning.{total_of, gains_of}
use Rattle.planner.specs.declared.Plan.{Plan}
use Rattle.planner.proofs.Answer.{fitting}
use Rattle.planner.proofs.Optimal.{rank_lt, active_one, active_none}
use Rattle.promise3.proofs.Places.{map_behind}
use Rattle.promise3.specs.Ahtenc.{gain_of_mapped, mapped_of, has_gain, Write, write, bits_put, after_writes, behind_writes, bit_write, word_writes, gain_writes, code_writes, mantissa_writes, bin_writes, codes_behind, bins_writes, aht_writes}

-- ---- calls one after another
put_append : (a b : List Write) → bits_put (a ++ b) ≡ bits_put a ++ bits_put b
unfolding bits_put
put_append [] b = refl
put_append (w ∷ a) b = rw (put_append a b) (sym (append_assoc (bits_n w.n w.v) (bits_put a) (bits_put b)))

-- each of at most 32 bits
abbrev pub AllFew : List Write → Type 0
AllFew [] = Unit {0}
AllFew (w ∷ ws) = (w.n ≤ 32) × AllFew ws

few_append : (a b : List Write) → AllFew a → AllFew b → AllFew (a ++ b)
few_append [] b f g = g
few_append (w ∷ a) b f g = (f.0, few_append a b f.1 g)

one_written : (s : List ℕ) (at : ℕ) (w : Write) → w.n ≤ 32 → at + w.n ≤ 8 * length s → written s at w.v w.n ≡ bytes_with s at (bits_n w.n w.v)
unfolding written
one_written s at w f r = rw (le-leb w.n 32 f, le-leb (at + w.n) (8 * length s) r)

-- they put their bits, one behind another
pub all_written : (w : Write) (ws : List Write) (s : List ℕ) (at : ℕ) → AllFew (w ∷ ws) → at + length (bits_put (w ∷ ws)) ≤ 8 * length s
    → after_writes s at (w ∷ ws) ≡ bytes_with s at (bits_put (w ∷ ws))
unfolding after_writes bits_put
all_written w [] s at f r =
    let l = length_bits_n w.n w.v in
    let e = length-append (bits_n w.n w.v) [] in
    one_written s at w f.0 (omega arith) ∙ ap (bytes_with s at) (sym (append-nil (bits_n w.n w.v)))
all_written w (u ∷ ws) s at f r =
    let a = bits_n w.n w.v in
    let b = bits_put (u ∷ ws) in
    let l = length_bits_n w.n w.v in
    let e = length-append a b in
    let one = one_written s at w f.0 (omega arith) in
    let n : length (bytes_with s at a) ≡ length s = length_with s at a in
    ap (λ (t : List ℕ). after_writes t (at + w.n) (u ∷ ws)) one
    ∙ all_written u ws (bytes_with s at a) (at + w.n) f.1 (omega arith)
    ∙ ap (λ (k : ℕ). bytes_with (bytes_with s at a) (at + k) b) (sym l)
    ∙ with_more s a b at (omega arith)

pub behind_put : (ws : List Write) (at : ℕ) → behind_writes at ws ≡ at + length (bits_put ws)
unfolding behind_writes bits_put
behind_put [] at = omega arith
behind_put (w ∷ ws) at =
    let a = bits_n w.n w.v in
    let l = length_bits_n w.n w.v in
    let e = length-append a (bits_put ws) in
    behind_put ws (at + w.n) ∙ omega arith

-- ---- gain words
bit_is : (mode g : ℕ) → eqb mode 3 ≡ false → gain_code g mode ≡ cond (eqb (mapped_of g) 0) 0 1
bit_is mode g e = rw e (go (eqb g 1) (eqb g 2))
  where
    go : (a b : Bool) → cond {A = ℕ} a 0 1 ≡ cond (eqb (cond a 0 (cond b 1 2)) 0) 0 1
    go true b = refl
    go false true = refl
    go false false = refl

bits_put_lem : (mode n : ℕ) (gs : List ℕ) → eqb mode 3 ≡ false → length gs ≡ n → each_enc (λ (k : ℕ). gain_bit mode) (replicate n 0) gs ≡ bits_put (map bit_write (map mapped_of gs))
unfolding each_enc bits_put number
bits_put_lem mode zero [] e l = refl
bits_put_lem mode zero (g ∷ gs) e l = absurd (omega arith)
bits_put_lem mode (suc n) [] e l = absurd (omega arith)
bits_put_lem mode (suc n) (g ∷ gs) e l =
    ap (λ (b : List Bool). bits_n 1 (gain_code g mode) ++ b) (bits_put_lem mode n gs e (omega arith))
    ∙ ap (λ (k : ℕ). bits_n 1 k ++ bits_put (map bit_write (map mapped_of gs))) (bit_is mode g e)

word_is : (a b c : ℕ) → group_of a b c ≡ a * 9 + b * 3 + c
word_is a b c = omega arith

words_put : (n : ℕ) (gs : List ℕ) → length gs ≡ n → (group_words n).enc gs ≡ bits_put (word_writes (map mapped_of gs))
unfolding group_words word_writes bits_put number
words_put zero [] l = refl
words_put zero (a ∷ gs) l = absurd (omega arith)
words_put (suc zero) [] l = absurd (omega arith)
words_put (suc zero) (a ∷ []) l = ap (bits_n 5) (word_is (mapped_of a) 0 0) ∙ sym (append-nil _)
words_put (suc zero) (a ∷ b ∷ gs) l = absurd (omega arith)
words_put (suc (suc zero)) [] l = absurd (omega arith)
words_put (suc (suc zero)) (a ∷ []) l = absurd (omega arith)
words_put (suc (suc zero)) (a ∷ b ∷ []) l = ap (bits_n 5) (word_is (mapped_of a) (mapped_of b) 0) ∙ sym (append-nil _)
words_put (suc (suc zero)) (a ∷ b ∷ c ∷ gs) l = absurd (omega arith)
words_put (suc (suc (suc n))) [] l = absurd (omega arith)
words_put (suc (suc (suc n))) (a ∷ []) l = absurd (omega arith)
words_put (suc (suc (suc n))) (a ∷ b ∷ []) l = absurd (omega arith)
words_put (suc (suc (suc n))) (a ∷ b ∷ c ∷ gs) l =
    ap (λ (t : List Bool). bits_n 5 (group_of (mapped_of a) (mapped_of b) (mapped_of c)) ++ t) (words_put n gs (omega arith))
    ∙ ap (λ (k : ℕ). bits_n 5 k ++ bits_put (word_writes (map mapped_of gs))) (word_is (mapped_of a) (mapped_of b) (mapped_of c))

pub gains_put : (mode n : ℕ) (gs : List ℕ) → length gs ≡ n → (gain_words mode n).enc gs ≡ bits_put (gain_writes mode (map mapped_of gs))
unfolding gain_words gain_writes bits_put
gains_put mode n gs l = go (eqb mode 1) refl (eqb mode 2) refl (eqb mode 3) refl
  where
    go : (a : Bool) → eqb mode 1 ≡ a → (b : Bool) → eqb mode 2 ≡ b → (c : Bool) → eqb mode 3 ≡ c
        → (cond (a || b) (each (λ (k : ℕ). gain_bit mode) (replicate n 0)) (cond c (group_words n) (only []))).enc gs
        ≡ bits_put (cond (a || b) (map bit_write (map mapped_of gs)) (cond c (word_writes (map mapped_of gs)) []))
    go true p b q c r = bits_put_lem mode n gs (rw (eqb-true mode 1 p)) l
    go false p true q c r = bits_put_lem mode n gs (rw (eqb-true mode 2 q)) l
    go false p false q true r = words_put n gs l
    go false p false q false r = refl

-- ---- a bin
code_put : (h g : ℕ) (c : Code) → Accepted h g c → (coded (mant_bits h) g).enc c ≡ bits_put (code_writes (mant_bits h) g c)
unfolding coded tagged bits_put number
code_put h g (Code.Small s) a = rw (ne_eqb g 1 a.0, ne_eqb s (tag (small_bits (mant_bits h) g)) a.2)
code_put h g (Code.Large l) a = go (eqb g 1)
  where
    go : (t : Bool) → (cond t (shown (number (mant_bits h)) Code.Large of_large) (tagged (small_bits (mant_bits h) g) (large_bits (mant_bits h) g))).enc (Code.Large l)
        ≡ bits_put (cond t (write l (mant_bits h) ∷ []) (write (tag (small_bits (mant_bits h) g)) (small_bits (mant_bits h) g) ∷ write l (large_bits (mant_bits h) g) ∷ []))
    go true = sym (append-nil _)
    go false = rw (eq-eqb (tag (small_bits (mant_bits h) g)) (tag (small_bits (mant_bits h) g)) refl, append-nil)

codes_put : (h g : ℕ) → 8 ≤ h → h ≤ 19 → (n : ℕ) (v : List Float) → length v ≡ n → each_enc (λ (k : ℕ). lenient h g) (replicate n 0) (codes_of h g v) ≡ bits_put (mantissa_writes h g v)
unfolding each_enc mantissa_writes bits_put
codes_put h g l u zero [] e = refl
codes_put h g l u zero (y ∷ v) e = absurd (omega arith)
codes_put h g l u (suc n) [] e = absurd (omega arith)
codes_put h g l u (suc n) (y ∷ v) e =
    rw (put_append (code_writes (mant_bits h) g (picked h g y).0) (mantissa_writes h g v), code_put h g (picked h g y).0 (picked_accepted h g y l u), codes_put h g l u n v (omega arith))

bin_put : (mode h g code : ℕ) (v : List Float) → h ≤ 19 → length v ≡ 6 → (active mode h ≡ true → gain_of_mapped code ≡ g)
    → (item lenient (bin_of mode h g)).enc (item_of (bin_of mode h g) v) ≡ bits_put (bin_writes mode h code v)
unfolding bin_of coding_of bin_writes bits_put number active
bin_put mode h g code v u six same = rw (le-leb h 19 u) (go (eqb h 0) refl (leb h 7) refl (active mode h) refl)
  where
    gain : Bool → ℕ
    gain t = cond t (gain_of_mapped code) 1

    has : 8 ≤ h → has_gain mode h ≡ active mode h
    has l = rw (lt-ltb 7 h l)

    go : (z : Bool) → eqb h 0 ≡ z → (b : Bool) → leb h 7 ≡ b → (a : Bool) → active mode h ≡ a
        → let B = coded_as (cond z Coding.Nothing (cond b Coding.Book (cond a Coding.Adaptive Coding.Fixed))) h g in
        (item lenient B).enc (item_of B v) ≡ bits_put (cond z [] (cond b (write (search_of h v) (vq_bits h) ∷ []) (mantissa_writes h (cond (has_gain mode h) (gain_of_mapped code) 1) v)))
    go true q b r a t = refl
    go false q true r a t = sym (append-nil _)
    go false q false r true t =
        let l = leb-false h 7 r in
        codes_put h g l u 6 v six ∙ ap (λ (k : ℕ). bits_put (mantissa_writes h k v)) (sym (ap gain (has l ∙ t) ∙ same t))
    go false q false r false t =
        let l = leb-false h 7 r in
        codes_put h 1 l u 6 v six ∙ ap (λ (k : ℕ). bits_put (mantissa_writes h k v)) (sym (ap gain (has l ∙ t)))

-- ---- the bins, with the codes that are left
behind_active : (mode h : ℕ) (codes : List ℕ) → codes_behind mode h codes ≡ cond (active mode h) (drop 1 codes) codes
unfolding active
behind_active mode h codes = ap (λ (t : Bool). cond t (drop 1 codes) codes) (go (ltb 7 h) (eqb mode 0) (ltb h (endbap mode)))
  where
    go : (l z u : Bool) → l && (not z && u) ≡ not z && (l && u)
    go true z u = refl
    go false true u = refl
    go false false u = refl

mapped_back : (mode g : ℕ) → allowed_gain mode g ≡ true → gain_of_mapped (mapped_of g) ≡ g
mapped_back mode g a = three_gains_lem mode g (λ k. gain_of_mapped (mapped_of k) ≡ k) a refl refl refl

module _ (mode : ℕ) (gains row : List ℕ) (x : List Float) (start end : ℕ) (choice : Choice mode gains row start end) (vectors : 6 * end ≤ length x)
    (known : (k : ℕ) → start ≤ k → k < end → get_or row k 0 ≤ 19) where
  abbrev codes_at : ℕ → List ℕ
  codes_at k = map mapped_of (drop (active_count mode row start k) gains)

  codes_next : (k : ℕ) → start ≤ k → codes_behind mode (get_or row k 0) (codes_at k) ≡ codes_at (suc k)
  unfolding active_count
  codes_next k l = behind_active mode (get_or row k 0) (codes_at k) ∙ go (active mode (get_or row k 0)) refl
    where
      r : ℕ
      r = active_count mode row start k

      same : (n : ℕ) → active_at mode row k ≡ n → r + n ≡ active_count mode row start (suc k)
      same n q = sym (sum_next (active_at mode row) start k l ∙ ap (λ (t : ℕ). r + t) q)

      plus : (n : ℕ) → n ≡ n + 0
      plus n = omega arith

      go : (t : Bool) → active mode (get_or row k 0) ≡ t → cond t (drop 1 (codes_at k)) (codes_at k) ≡ codes_at (suc k)
      go true a =
          sym (map_behind mapped_of (drop r gains)) ∙ ap (map mapped_of) (drop-drop 1 r gains) ∙ ap (λ (n : ℕ). map mapped_of (drop n gains)) (same 1 (active_one mode row k a))
      go false a = ap (λ (n : ℕ). map mapped_of (drop n gains)) (plus r ∙ same 0 (active_none mode row k a))

  own_gain : (k : ℕ) → start ≤ k → k < end → active mode (get_or row k 0) ≡ true → gain_of_mapped (get_or (codes_at k) 0 0) ≡ gain_at mode gains row start k
  unfolding gain_at
  own_gain k l u a =
      let r = active_count mode row start k in
      let i = rank_lt mode row start k end l u a in
      let o = choice.one_each in
      ap (λ (t : List ℕ). gain_of_mapped (get_or (map mapped_of t) 0 0)) (drop-cons gains r 0 (omega arith))
      ∙ mapped_back mode (get_or gains r 0) (choice.allowed r (omega arith))
      ∙ sym (ap (λ (t : Bool). cond t (get_or gains r 0) 1) a)

  bins_put : (n k : ℕ) → start ≤ k → k + n ≡ end
      → each_enc (item lenient) (from (bin_at mode gains row start) k n) (from (written_at mode gains row x start) k n) ≡ bits_put (bins_writes mode row x (codes_at k) k n)
  unfolding from each_enc bins_writes bits_put bin_at
  bins_put zero k l e = refl
  bins_put (suc n) k l e =
      let h = get_or row k 0 in
      let one = bin_put mode h (gain_at mode gains row start k) (get_or (codes_at k) 0 0) (six_of x k) (known k l (omega arith)) (six_long x k (omega arith)) (own_gain k l (omega arith)) in
      let more = bins_put n (suc k) (omega arith) (omega arith) in
      rw (put_append (bin_writes mode h (get_or (codes_at k) 0 0) (six_of x k)) (bins_writes mode row x (codes_behind mode h (codes_at k)) (suc k) n), codes_next k l, one, more)

  abbrev all : List Write
  all = aht_writes mode (map mapped_of gains) row x start (end - start)

  -- what is written of a choice are the bits of these calls
  pub field_put : start ≤ end → (field row start end).enc (written_of mode gains row x start end) ≡ bits_put all
  unfolding number aht_writes bits_put
  field_put o =
      let z = count_start mode row start in
      let b : bits_put (bins_writes mode row x (map mapped_of gains) start (end - start)) ≡ each_enc (item lenient) (from (bin_at mode gains row start) start (end - start)) (from (written_at mode gains row x start) start (end - start)) =
      sym (bins_put (end - start) start (omega arith) (omega arith) ∙ ap (λ (n : ℕ). bits_put (bins_writes mode row x (map mapped_of (drop n gains)) start (end - start))) z) in
      let g = gains_put mode (active_count mode row start end) gains choice.one_each in
      rw (put_append (gain_writes mode (map mapped_of gains)) (bins_writes mode row x (map mapped_of gains) start (end - start)), g, b)

-- ---- each call has at most 32 bits
code_few : (h g : ℕ) → 8 ≤ h → h ≤ 19 → (c : Code) → AllFew (code_writes (mant_bits h) g c)
code_few h g l u (Code.Small s) =
    let m = mant_bits_lem h l u in
    let w = (small_width (mant_bits h) g m.0 m.1).1 in
    (omega arith, tt)
code_few h g l u (Code.Large k) = go (eqb g 1)
  where
    m : (3 ≤ mant_bits h) × (mant_bits h ≤ 16)
    m = mant_bits_lem h l u

    go : (t : Bool) → AllFew (cond t (write k (mant_bits h) ∷ []) (write (tag (small_bits (mant_bits h) g)) (small_bits (mant_bits h) g) ∷ write k (large_bits (mant_bits h) g) ∷ []))
    go true = let a = m.1 in (omega arith, tt)
    go false =
        let a = (small_width (mant_bits h) g m.0 m.1).1 in
        let b = (large_width (mant_bits h) g m.0 m.1).1 in
        (omega arith, (omega arith, tt))

codes_few : (h g : ℕ) → 8 ≤ h → h ≤ 19 → (v : List Float) → AllFew (mantissa_writes h g v)
unfolding mantissa_writes
codes_few h g l u [] = tt
codes_few h g l u (y ∷ v) = few_append (code_writes (mant_bits h) g (picked h g y).0) (mantissa_writes h g v) (code_few h g l u (picked h g y).0) (codes_few h g l u v)

bin_few : (mode h code : ℕ) (v : List Float) → h ≤ 19 → AllFew (bin_writes mode h code v)
unfolding bin_writes
bin_few mode h code v u = go (eqb h 0) (leb h 7) refl
  where
    go : (z b : Bool) → leb h 7 ≡ b → AllFew (cond z [] (cond b (write (search_of h v) (vq_bits h) ∷ []) (mantissa_writes h (cond (has_gain mode h) (gain_of_mapped code) 1) v)))
    go true b r = tt
    go false true r = let q = vq_most h in (omega arith, tt)
    go false false r = codes_few h _ (leb-false h 7 r) u v

bins_few : (mode : ℕ) (row : List ℕ) (x : List Float) (n k end : ℕ) (codes : List ℕ) → ((j : ℕ) → k ≤ j → j < end → get_or row j 0 ≤ 19) → k + n ≡ end → AllFew (bins_writes mode row x codes k n)
unfolding bins_writes
bins_few mode row x zero k end codes known e = tt
bins_few mode row x (suc n) k end codes known e =
    few_append (bin_writes mode (get_or row k 0) (get_or codes 0 0) (six_of x k)) _ (bin_few mode (get_or row k 0) (get_or codes 0 0) (six_of x k) (known k (omega arith) (omega arith)))
    (bins_few mode row x n (suc k) end (codes_behind mode (get_or row k 0) codes) (λ j l u. known j (omega arith) u) (omega arith))

bits_few : (codes : List ℕ) → AllFew (map bit_write codes)
bits_few [] = tt
bits_few (c ∷ codes) = (omega arith, bits_few codes)

words_few : (codes : List ℕ) → AllFew (word_writes codes)
unfolding word_writes
words_few [] = tt
words_few (a ∷ []) = (omega arith, tt)
words_few (a ∷ b ∷ []) = (omega arith, tt)
words_few (a ∷ b ∷ c ∷ codes) = (omega arith, words_few codes)

gains_few : (mode : ℕ) (codes : List ℕ) → AllFew (gain_writes mode codes)
unfolding gain_writes
gains_few mode codes = go (eqb mode 1 || eqb mode 2) (eqb mode 3)
  where
    go : (a c : Bool) → AllFew (cond a (map bit_write codes) (cond c (word_writes codes) []))
    go true c = bits_few codes
    go false true = words_few codes
    go false false = tt

-- ---- a plan
-- the calls for a plan
abbrev pub plan_writes : Plan → List ℕ → ℕ → ℕ → List Float → List Write
plan_writes p row start end x = aht_writes p.mode (map mapped_of (gains_of p)) row x start (end - start)

module _ (p : Plan) (row : List ℕ) (start end : ℕ) (x : List Float) (places : length p.gains ≡ 256) where
  abbrev calls : List Write
  calls = plan_writes p row start end x

  abbrev cause : List ℕ → ℕ → Option Refusal
  cause out at = write_cause p row start end x (8 * length out) at

  -- the calls put the field
  calls_put : (out : List ℕ) (at : ℕ) → cause out at ≡ None → (bytes_with out at (field_of p row start end x) ≡ after_writes out at calls) × (at + total_of p ≡ behind_writes at calls)
  unfolding aht_writes
  calls_put out at z =
      let w = written_when p row start end x places (8 * length out) at z in
      let g = fitting p row start end x places w.0 w.1 in
      let r = g.within.row_ok in
      let known : (j : ℕ) → start ≤ j → j < end → get_or row j 0 ≤ 19 = λ j l u. known_hebap row start end j r.known l u in
      let o = r.ordered in
      let codes = map mapped_of (gains_of p) in
      let words = gain_writes p.mode codes in
      let bins = bins_writes p.mode row x codes start (end - start) in
      let f = field_put p.mode (gains_of p) row x start end g.choice g.within.vectors known o in
      let l : length (bits_put calls) ≡ total_of p = sym (ap length f) ∙ fits_long p row start end x places w.0 w.1 in
      let room = w.2 in
      let few = few_append words bins (gains_few p.mode codes) (bins_few p.mode row x (end - start) start end codes known (omega arith)) in (
        ap (bytes_with out at) f ∙ sym (all_written (write p.mode 2) (words ++ bins) out at (omega arith, few) (omega arith)),
        sym (behind_put calls at ∙ ap (λ (m : ℕ). at + m) l),
      )

  -- Where the writer writes, the output and the position afterwards are those after the calls of write_u32 that
  -- write_aht_channel of the Rust makes, one after another from the same position.
  pub writing_is_ahtenc : (out : List ℕ) (at : ℕ) → answer_number (channel_write p row start end x out at) ≡ 0
      → (channel_written p row start end x out at ≡ after_writes out at calls)
      × (value_or (pos_of at) (channel_write p row start end x out at) ≡ pos_of (behind_writes at calls))
  unfolding channel_write_up_to channel_written_up_to
  writing_is_ahtenc out at = go (cause out at) refl
    where
      go : (k : Option Refusal) → cause out at ≡ k → let r = answered k (pos_of (at + total_of p)) in
          answer_number r ≡ 0
          → (afterwards k (bytes_with out at (field_of p row start end x)) out ≡ after_writes out at calls) × (value_or (pos_of at) r ≡ pos_of (behind_writes at calls))
      go None e h = let c = calls_put out at e in (c.0, ap pos_of c.1)
      go (Some k) e h = absurd (let n = numbered k in omega arith)
