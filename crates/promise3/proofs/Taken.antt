-- What the functions of aht.rs take where a channel of the layout stands. Assumes nothing.
use Prim.Native.Nat.{ℕ, zero, suc, ◌+◌, ◌-◌, ◌*◌, ◌/◌, ◌≤◌, ◌<◌, ◌^◌, min}
use mathlib.Core.Path.{◌≡◌, refl, sym, ap, ◌∙◌, subst}
use mathlib.Core.List.{List, [], ◌∷◌, ◌++◌, append_assoc, append-nil, map, map-append}
use mathlib.Core.Bool.{Bool, true, false, cond}
use mathlib.Core.Logic.{◌⊎◌, inl, inr, ⊎_elim}
use native.Mathlib.Nat.{mod-eq_of_lt}
use native.Mathlib.Omega.{arith}
use borrow.Author.Tests.{le-leb, ne_eqb}
use lib.Dec.{eqb}
use lib.ListN.{length, length-append, length-drop, length-replicate, take, drop, replicate}
use lib.Seq.{take_at, take-append_seam, drop-append_seam, drop-drop, take_all}
use Rattle.bits.specs.Bits.{bits_n, bits_of, number_of, read_u32}
use Rattle.bits.specs.Format.{number, each, each_Ok, each_enc}
use Rattle.bits.proofs.Laws.{length_bits_n, length_bits_of, number_bits, read_good}
use Rattle.bits.proofs.Reading.{at_pos}
use Rattle.gains.specs.Gains.{word_bits, sections, first_code, second_code, third_code, word_codes, codes_from, words_read, words_end, gain_codes, read_gaq_gains, gains_after, gain_value}
use Rattle.gains.proofs.Laws.{group_codes_lem, single_code}
use Rattle.channel.proofs.Laws.{by_mode}
use Rattle.channel.specs.Field.{gain_code, gain_bit, packed, group_words, gain_words}
use Rattle.promise3.specs.Aht.{took, number_taken, codes_taken, sections_read}

module _ (s : List ℕ) where
  -- ---- the bits l stand at a position
  pub record Stand (at : ℕ) (l : List Bool) (rest : List Bool) : Type 0 where
    pub inside : at ≤ 8 * length s
    pub bits : drop at (bits_of s) ≡ l ++ rest

  module _ (at : ℕ) (l rest : List Bool) (h : Stand at l rest) where
    pub room : at + length l ≤ 8 * length s
    room =
        let n : length (drop at (bits_of s)) ≡ length l + length rest = ap length h.bits ∙ length-append l rest in
        let d : length (drop at (bits_of s)) ≡ 8 * length s - at = length-drop at (bits_of s) ∙ ap (λ (k : ℕ). k - at) (length_bits_of s) in
        let i = h.inside in
        omega arith

    -- and others behind them
    pub behind : (at' : ℕ) → at' ≡ at + length l → (m rest' : List Bool) → rest ≡ m ++ rest' → Stand at' m rest'
    behind at' e m rest' q =
        let r : drop (length l) (drop at (bits_of s)) ≡ rest = ap (drop (length l)) h.bits ∙ drop-append_seam l rest in
        let i = room in
        record {
          inside = omega arith;
          bits = ap (λ (k : ℕ). drop k (bits_of s)) e ∙ sym (drop-drop (length l) at (bits_of s)) ∙ r ∙ q;
        }

  pub stand_parts : (at : ℕ) (a b rest : List Bool) → Stand at (a ++ b) rest → Stand at a (b ++ rest) × Stand (at + length a) b rest
  stand_parts at a b rest h =
      let f : Stand at a (b ++ rest) = record { inside = h.inside; bits = h.bits ∙ append_assoc a b rest } in
      (f, behind at a (b ++ rest) f (at + length a) refl b rest refl)

  -- ---- a number
  number_there : (at n v : ℕ) (rest : List Bool) → Stand at (bits_n n v) rest → v < 2 ^ n → number_of (take n (drop at (bits_of s))) ≡ v
  number_there at n v rest h u = rw (h.bits, take_at (bits_n n v) rest n (length_bits_n n v), number_bits n v) (mod-eq_of_lt u)

  pub number_taken_lem : (at n v : ℕ) (rest : List Bool) → n ≤ 32 → Stand at (bits_n n v) rest → v < 2 ^ n → number_taken (read_u32 s at n) ≡ took v (at + n)
  number_taken_lem at n v rest few h u =
      let r = room at (bits_n n v) rest h in
      let l = length_bits_n n v in
      rw (read_good s at n few (omega arith), at_pos) (ap (λ (x : ℕ). took x (at + n)) (number_there at n v rest h u))

  -- ---- a section
  one_word : (mode places : ℕ) → mode ≤ 3 → (mode ≡ 0 → ⊥) → 1 ≤ places → words_read mode 1 places ≡ 1
  unfolding words_read
  one_word mode places few nz h = rw (ne_eqb mode 0 nz) (go (eqb mode 3))
    where
      go : (t : Bool) → cond t 1 (min 1 places) ≡ 1
      go true = refl
      go false = omega arith

  pub section_taken : (at mode places w : ℕ) (rest : List Bool) → mode ≤ 3 → (mode ≡ 0 → ⊥) → 1 ≤ places → Stand at (bits_n (word_bits mode) w) rest → w < 2 ^ word_bits mode
      → codes_taken (gains_after s at mode 1 (replicate places 0)) (read_gaq_gains s at mode 1 places) ≡ took (take places (word_codes mode w)) (at + word_bits mode)
  unfolding read_gaq_gains gains_after gain_codes words_end codes_from
  section_taken at mode places w rest few nz p h u =
      let r = room at (bits_n (word_bits mode) w) rest h in
      let l = length_bits_n (word_bits mode) w in
      let e : at + word_bits mode * 1 ≡ at + word_bits mode = omega arith in
      let f = le-leb (at + word_bits mode) (8 * length s) (omega arith) in
      rw (length-replicate, one_word mode places few nz p, le-leb mode 3 few, e, f, number_there at (word_bits mode) w rest h u, append-nil, take-append_seam, at_pos)

  -- modes 1 and 2: a bit
  bit_section : (at mode places w : ℕ) (rest : List Bool) → (mode ≡ 1) ⊎ (mode ≡ 2) → 1 ≤ places → Stand at (bits_n 1 w) rest → w < 2 ^ 1
      → codes_taken (gains_after s at mode 1 (replicate places 0)) (read_gaq_gains s at mode 1 places) ≡ took (w ∷ []) (at + 1)
  unfolding word_bits
  bit_section at mode places w rest m p h u =
      let few : (mode ≤ 3) × (1 ≤ mode) × (mode ≤ 2) = small m in
      let b : word_bits mode ≡ 1 = one_bit m in
      let i = section_taken at mode places w rest few.0 (λ z. omega arith) p (rw b h) (rw b u) in
      i ∙ rw (b, single_code mode w (λ z. omega arith), take_all places (w ∷ []) (omega arith))
    where
      small : (mode ≡ 1) ⊎ (mode ≡ 2) → (mode ≤ 3) × (1 ≤ mode) × (mode ≤ 2)
      small (inl e) = (omega arith, omega arith, omega arith)
      small (inr e) = (omega arith, omega arith, omega arith)

      one_bit : (mode ≡ 1) ⊎ (mode ≡ 2) → word_bits mode ≡ 1
      one_bit (inl e) = rw e
      one_bit (inr e) = rw e

  -- mode 3: a word of five bits
  word_section : (at places w : ℕ) (rest : List Bool) → 1 ≤ places → Stand at (bits_n 5 w) rest → w < 2 ^ 5
      → codes_taken (gains_after s at 3 1 (replicate places 0)) (read_gaq_gains s at 3 1 places) ≡ took (take places (first_code w ∷ second_code w ∷ third_code w ∷ [])) (at + 5)
  unfolding word_bits
  word_section at places w rest p h u =
      section_taken at 3 places w rest (omega arith) (λ z. omega arith) p h u ∙ ap (λ (l : List ℕ). took (take places l) (at + 5)) (group_codes_lem 3 w refl)

  -- ---- the sections of n gains: their codes, and the gains of these
  pub record Sections (mode count places at behind : ℕ) (gs : List ℕ) : Type 0 where
    pub codes : List ℕ
    pub is : sections_read s mode count places at ≡ took codes behind
    pub gains : map (λ c. gain_value c mode) codes ≡ gs

  no_section : (mode places at : ℕ) → Sections mode 0 places at (at + 0) []
  unfolding sections_read
  no_section mode places at = record { codes = []; is = ap (took []) (omega arith); gains = refl }

  next_section : (mode count places left at behind more : ℕ) (cs gs : List ℕ) → left ≡ places - length cs
      → codes_taken (gains_after s at mode 1 (replicate places 0)) (read_gaq_gains s at mode 1 places) ≡ took cs behind
      → Sections mode count left behind more gs → Sections mode (suc count) places at more (map (λ c. gain_value c mode) cs ++ gs)
  unfolding sections_read
  next_section mode count places left at behind more cs gs c e r = record {
    codes = cs ++ r.codes;
    is = rw (e, ← c, r.is);
    gains = map-append (λ (c : ℕ). gain_value c mode) cs r.codes ∙ ap (λ (l : List ℕ). map (λ c. gain_value c mode) cs ++ l) r.gains;
  }

  pub bits_taken : (mode : ℕ) → (mode ≡ 1) ⊎ (mode ≡ 2) → (n at : ℕ) (gs : List ℕ) (rest : List Bool) → (each (λ (k : ℕ). gain_bit mode) (replicate n 0)).Ok gs
      → let l = each_enc (λ (k : ℕ). gain_bit mode) (replicate n 0) gs in Stand at l rest → Sections mode n n at (at + length l) gs
  unfolding each_Ok each_enc number
  bits_taken mode m zero at [] rest o h = no_section mode 0 at
  bits_taken mode m zero at (g ∷ gs) rest o h = absurd o
  bits_taken mode m (suc n) at [] rest o h = absurd o
  bits_taken mode m (suc n) at (g ∷ gs) rest o h =
      let w = gain_code g mode in
      let more = each_enc (λ (k : ℕ). gain_bit mode) (replicate n 0) gs in
      let q = stand_parts at (bits_n 1 w) more rest h in
      let e = bit_section at mode (suc n) w (more ++ rest) m (omega arith) q.0 o.0.0 in
      let l = length_bits_n 1 w in
      let r = bits_taken mode m n (at + 1) gs rest o.1 (rw l at q.1) in
      let t : at + 1 + length more ≡ at + length (bits_n 1 w ++ more) = rw (length-append, l) (omega arith) in
      rw (o.0.1, t) at (next_section mode n (suc n) n at (at + 1) (at + 1 + length more) (w ∷ []) gs (omega arith) e r)

  abbrev Groups : ℕ → ℕ → List ℕ → Type 0
  Groups n at gs = Sections 3 ((n + 2) / 3) n at (at + length ((group_words n).enc gs)) gs

  -- a last word of one gain or two
  last_word_lem : (at places w : ℕ) (rest : List Bool) (cs : List ℕ) → 1 ≤ places → w < 2 ^ 5 → Stand at (bits_n 5 w) rest → places ≡ length cs
      → take places (first_code w ∷ second_code w ∷ third_code w ∷ []) ≡ cs → Sections 3 1 places at (at + length (bits_n 5 w)) (map (λ c. gain_value c 3) cs)
  last_word_lem at places w rest cs p u h n c =
      let e = word_section at places w rest p h u ∙ ap (λ (l : List ℕ). took l (at + 5)) c in
      let l : at + 5 + 0 ≡ at + length (bits_n 5 w) = rw length_bits_n (omega arith) in
      rw (append-nil, l) at (next_section 3 0 places 0 at (at + 5) (at + 5 + 0) cs [] (omega arith) e (no_section 3 0 (at + 5)))

  one_taken : (at : ℕ) (gs : List ℕ) (rest : List Bool) → (group_words 1).Ok gs → Stand at ((group_words 1).enc gs) rest → Groups 1 at gs
  unfolding group_words number
  one_taken at gs rest o h = subst (λ (l : List ℕ). Sections 3 1 1 at (at + length (bits_n 5 (packed gs))) l) o.1 (last_word_lem at 1 (packed gs) rest (first_code (packed gs) ∷ []) (omega arith) o.0.0.0 h (omega arith) refl)

  two_taken : (at : ℕ) (gs : List ℕ) (rest : List Bool) → (group_words 2).Ok gs → Stand at ((group_words 2).enc gs) rest → Groups 2 at gs
  unfolding group_words number
  two_taken at gs rest o h =
      subst (λ (l : List ℕ). Sections 3 1 2 at (at + length (bits_n 5 (packed gs))) l) o.1
      (last_word_lem at 2 (packed gs) rest (first_code (packed gs) ∷ second_code (packed gs) ∷ []) (omega arith) o.0.0.0 h (omega arith) refl)

  -- a full word, and the words behind it
  full_word_lem : (n at w : ℕ) (tail : List ℕ) (rest more : List Bool) → w < 2 ^ 5 → Stand at (bits_n 5 w ++ more) rest → more ≡ (group_words n).enc tail
      → (Stand (at + 5) more rest → Groups n (at + 5) tail)
      → Sections 3 ((suc (suc (suc n)) + 2) / 3) (suc (suc (suc n))) at (at + length (bits_n 5 w ++ more)) (gain_value (first_code w) 3 ∷ gain_value (second_code w) 3 ∷ gain_value (third_code w) 3 ∷ tail)
  full_word_lem n at w tail rest more u h m f =
      let q = stand_parts at (bits_n 5 w) more rest h in
      let codes = first_code w ∷ second_code w ∷ third_code w ∷ [] in
      let e = word_section at (suc (suc (suc n))) w (more ++ rest) (omega arith) q.0 u ∙ ap (λ (l : List ℕ). took l (at + 5)) (take_all (suc (suc (suc n))) codes (omega arith)) in
      let l = length_bits_n 5 w in
      let r : Sections 3 ((n + 2) / 3) n (at + 5) (at + 5 + length more) tail = rw (sym m) at (f (rw l at q.1)) in
      let t : at + 5 + length more ≡ at + length (bits_n 5 w ++ more) = rw (length-append, l) (omega arith) in
      let c : suc ((n + 2) / 3) ≡ (suc (suc (suc n)) + 2) / 3 = omega arith in
      rw (t, c) at (next_section 3 ((n + 2) / 3) (suc (suc (suc n))) n at (at + 5) (at + 5 + length more) codes tail (omega arith) e r)

  three_taken : (n at : ℕ) (gs : List ℕ) (rest : List Bool) → (group_words (suc (suc (suc n)))).Ok gs → Stand at ((group_words (suc (suc (suc n)))).enc gs) rest
      → ((group_words n).Ok (drop 3 gs) → Stand (at + 5) ((group_words n).enc (drop 3 gs)) rest → Groups n (at + 5) (drop 3 gs)) → Groups (suc (suc (suc n))) at gs
  unfolding group_words number
  three_taken n at gs rest o h f =
      subst (λ (l : List ℕ). Sections 3 ((suc (suc (suc n)) + 2) / 3) (suc (suc (suc n))) at (at + length (bits_n 5 (packed gs) ++ (group_words n).enc (drop 3 gs))) l) o.1
      (full_word_lem n at (packed gs) (drop 3 gs) rest ((group_words n).enc (drop 3 gs)) o.0.0.0 h refl (f o.0.1))

  none_taken : (at : ℕ) (gs : List ℕ) → (group_words 0).Ok gs → Groups 0 at gs
  unfolding group_words
  none_taken at gs o = rw o (no_section 3 0 at)

  pub words_taken : (n at : ℕ) (gs : List ℕ) (rest : List Bool) → (group_words n).Ok gs → Stand at ((group_words n).enc gs) rest → Groups n at gs
  words_taken zero at gs rest o h = none_taken at gs o
  words_taken (suc zero) at gs rest o h = one_taken at gs rest o h
  words_taken (suc (suc zero)) at gs rest o h = two_taken at gs rest o h
  words_taken (suc (suc (suc n))) at gs rest o h = three_taken n at gs rest o h (words_taken n (at + 5) (drop 3 gs) rest)

  -- the gain words of n active bins, by as many places; mode 0 has none, whatever fill_gaqbin counts
  pub gains_taken : (mode n places at : ℕ) (gs : List ℕ) (rest : List Bool) → mode ≤ 3 → ((mode ≡ 0 → ⊥) → places ≡ n) → (gain_words mode n).Ok gs
      → let l = (gain_words mode n).enc gs in Stand at l rest → Sections mode (sections mode places) places at (at + length l) gs
  unfolding sections
  gains_taken mode n places at gs rest few same = by_mode (λ F. F.Ok gs → Stand at (F.enc gs) rest → Sections mode (sections mode places) places at (at + length (F.enc gs)) gs) mode n bits words neither
    where
      at_count : (count to : ℕ) → sections mode places ≡ count → places ≡ n → Sections mode count n at to gs → Sections mode (sections mode places) places at to gs
      at_count count to c p r = subst (λ (k : ℕ). Sections mode k places at to gs) (sym c) (subst (λ (k : ℕ). Sections mode count k at to gs) (sym p) r)

      bits : (mode ≡ 1) ⊎ (mode ≡ 2) → let F = each (λ (k : ℕ). gain_bit mode) (replicate n 0) in
          F.Ok gs → Stand at (F.enc gs) rest → Sections mode (sections mode places) places at (at + length (F.enc gs)) gs
      bits m o h =
          let one : (1 ≤ mode) × (mode ≤ 2) = ⊎_elim (λ (e : mode ≡ 1). (omega arith, omega arith)) (λ (e : mode ≡ 2). (omega arith, omega arith)) m in
          let p : places ≡ n = same (λ z. omega arith) in
          at_count n _ (rw (ne_eqb mode 0 (λ z. omega arith), ne_eqb mode 3 (λ z. omega arith)) p) p (bits_taken mode m n at gs rest o h)

      words : mode ≡ 3 → (group_words n).Ok gs → Stand at ((group_words n).enc gs) rest → Sections mode (sections mode places) places at (at + length ((group_words n).enc gs)) gs
      words e o h =
          let p : places ≡ n = same (λ z. omega arith) in
          at_count ((n + 2) / 3) _ (rw (e, p)) p (rw e (words_taken n at gs rest o h))

      neither : (mode ≡ 1 → ⊥) → (mode ≡ 2 → ⊥) → (mode ≡ 3 → ⊥) → gs ≡ [] → Stand at [] rest → Sections mode (sections mode places) places at (at + 0) gs
      neither a b c o h =
          let z : mode ≡ 0 = omega arith in
          rw (o, z) (no_section 0 places at)
