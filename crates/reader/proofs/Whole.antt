-- A field read part by part: its mode, its gain words, its bins. Assumes nothing.
use Prim.Native.Nat.{ℕ, suc, ◌-◌, ◌*◌, ◌^◌, ◌≤◌, ◌<◌}
use mathlib.Core.Path.{◌≡◌, refl, sym, ap, ◌∙◌, subst}
use mathlib.Core.Bool.{Bool}
use mathlib.Core.List.{List, [], ◌∷◌, ◌++◌, append-nil}
use native.Mathlib.Omega.{arith}
use lib.ListN.{length, take, drop, drop_of_length-le}
use lib.Seq.{take-append_seam}
use Rattle.bits.specs.Bits.{splice}
use Rattle.bits.specs.Format.{Got, got, refused, and_then, Format, number, both, each, shows}
use Rattle.bits.specs.Takes.{ahead, Takes}
use Rattle.bits.specs.declared.field_reader.FieldReader.{FieldReader}
use Rattle.bits.proofs.Laws.{splice_read}
use Rattle.bits.proofs.Taking.{GotTo, takes_got, takes_refused, got_to, refused_by}
use Rattle.std.specs.Prelude.{Result, Ok, Err, ⊤}
use Rattle.answers.specs.declared.Refusal.{Refusal}
use Rattle.channel.specs.Row.{active_count}
use Rattle.channel.specs.Field.{gain_words, Item, lenient, item, bins_of, Channel, from_parts, behind_mode, field}
use Rattle.channel.specs.Shown.{values_of, exacts_of, index_of, bins_in, joined, indices_shown}
use Rattle.channel.proofs.Rows.{none_active}
use Rattle.channel.proofs.Laws.{lenient_laws, gain_words_lawful, field_lawful}
use Rattle.channel.proofs.Parts.{gain_words_count, parts}
use Rattle.channel.proofs.Shown.{indices_long}
use Rattle.reader.specs.declared.FieldHead.{FieldHead}
use Rattle.reader.specs.declared.scratch.Scratch.{Scratch}
use Rattle.reader.specs.Work.{Outputs, BinsPut, FoundPut, GainsPut, head_behind, head_of}
use Rattle.reader.proofs.Bins.{Sized}

-- ---- one format after another
module _ {A B : Type 0} (F : Format A) (G : A → Format B) (bs : List Bool) where
  both_stop : (k : Refusal) → F.dec bs ≡ refused k → (both F G).dec bs ≡ refused k
  both_stop k e = rw e

  both_cut : (a : A) (rest : List Bool) (k : Refusal) → F.dec bs ≡ got a rest → (G a).dec rest ≡ refused k → (both F G).dec bs ≡ refused k
  both_cut a rest k e f = rw (e, f)

  both_read : (a : A) (b : B) (rest rest' : List Bool) → F.dec bs ≡ got a rest → (G a).dec rest ≡ got b rest' → (both F G).dec bs ≡ got (a, b) rest'
  both_read a b rest rest' e f = rw (e, f)

-- ---- gain words and bins, behind the mode
module _ (mode : ℕ) (row : List ℕ) (start end : ℕ) (first : FieldReader) where
  abbrev words : Format (List ℕ)
  words = gain_words mode (active_count mode row start end)

  abbrev bins : List ℕ → Format (List Item)
  bins gs = each (item lenient) (bins_of mode gs row start end)

  abbrev behind : Got (List ℕ × List Item)
  behind = (behind_mode lenient row start end mode).dec (ahead first)

  -- what is left where all is read: the gains and the bins
  abbrev pub Left : List ℕ → List ℕ → Scratch → Scratch → List ℕ × List Item → Type 0
  Left out out' o o' c = GainsPut out out' c.0 × BinsPut start (bins_of mode c.0 row start end) o o' c.1

  -- the gains that were read, n of them, and the output they went to
  pub record GainsRead (n : ℕ) (next : FieldReader) (out out' : List ℕ) : Type 0 where
    pub gs : List ℕ
    pub is : words.dec (ahead first) ≡ got gs (ahead next)
    pub same : next.src.now ≡ first.src.now
    pub count : length gs ≡ n
    pub put : out' ≡ gs ++ drop (length gs) out
    pub front : take n out' ≡ gs

  -- read into a part of n places at the front of an output
  module _ (n : ℕ) (active : n ≡ active_count mode row start end) (next : FieldReader) (part part' : List ℕ) (long : length part ≡ n) where
    -- what reading them answers
    abbrev WordsRead : ℕ → Result ⊤ Refusal → Type 0
    WordsRead k r = Takes (λ gs. tt {0}) ((gain_words mode k).dec (ahead first)) r (GainsPut part part') first next

    pub gains_stop : (k : Refusal) (out out' : List ℕ) (o o' : Scratch) → WordsRead (length part) (Err k) → Takes (head_behind mode) behind (Err k) (Left out out' o o') first next
    gains_stop k out out' o o' t =
        takes_refused (head_behind mode) behind (Left out out' o o') first next k
        (both_stop words bins (ahead first) k (refused_by (λ gs. tt {0}) (words.dec (ahead first)) (GainsPut part part') first next k (subst (λ m. WordsRead m (Err k)) (long ∙ active) t)))

    pub gains_read : mode ≤ 3 → (out : List ℕ) → WordsRead (length part) (Ok (tt {0})) → GainsRead n next out (part' ++ drop n out)
    gains_read few out e =
        let t = got_to (λ gs. tt {0}) (words.dec (ahead first)) (GainsPut part part') first next tt (subst (λ m. WordsRead m (Ok (tt {0}))) (long ∙ active) e) in
        let gs = t.value in
        let o = ((gain_words_lawful mode (active_count mode row start end)).sole (ahead first) (ahead next) gs t.is).1 in
        let c : length gs ≡ n = gain_words_count mode (active_count mode row start end) few (none_active mode row start end) gs o ∙ sym active in
        let few' : length part ≤ length gs = omega (arith, c, long) in
        let whole : part' ≡ gs = t.left ∙ rw (drop_of_length-le part few', append-nil) in
        record {
          gs = gs;
          is = t.is;
          same = t.same;
          count = c;
          put = ap (λ l. l ++ drop n out) whole ∙ ap (λ (k : ℕ). gs ++ drop k out) (sym c);
          front = ap (λ l. take n (l ++ drop n out)) whole ∙ ap (λ (k : ℕ). take k (gs ++ drop n out)) (sym c) ∙ take-append_seam gs (drop n out);
        }

-- the bins behind them
module _ {mode : ℕ} {row : List ℕ} {start end : ℕ} {first : FieldReader} {n : ℕ} {next : FieldReader} {out out' : List ℕ}
    (g : GainsRead mode row start end first n next out out') (last : FieldReader) (o o' : Scratch) where
  abbrev bins_of_lem : List ℕ → Format (List Item)
  bins_of_lem = bins mode row start end first

  abbrev words_of : Format (List ℕ)
  words_of = words mode row start end first

  -- what reading the bins answers
  abbrev BinsRead : List ℕ → Result ⊤ Refusal → Type 0
  BinsRead gs r = Takes (λ xs. tt {0}) ((bins_of_lem gs).dec (ahead next)) r (BinsPut start (bins_of mode gs row start end) o o') next last

  pub bins_stop : (k : Refusal) → BinsRead (take n out') (Err k) → Takes (head_behind mode) (behind mode row start end first) (Err k) (Left mode row start end first out out' o o') first last
  bins_stop k e =
      let c = refused_by (λ xs. tt {0}) ((bins_of_lem g.gs).dec (ahead next)) (BinsPut start (bins_of mode g.gs row start end) o o') next last k (subst (λ gs. BinsRead gs (Err k)) g.front e) in
      takes_refused (head_behind mode) (behind mode row start end first) (Left mode row start end first out out' o o') first last k
      (both_cut words_of bins_of_lem (ahead first) g.gs (ahead next) k g.is c)

  pub bins_read_lem : BinsRead (take n out') (Ok (tt {0}))
      → Takes (head_behind mode) (behind mode row start end first) (Ok (record { mode = mode; count = n })) (Left mode row start end first out out' o o') first last
  bins_read_lem e =
      let t = got_to (λ xs. tt {0}) ((bins_of_lem g.gs).dec (ahead next)) (BinsPut start (bins_of mode g.gs row start end) o o') next last tt (subst (λ gs. BinsRead gs (Ok (tt {0}))) g.front e) in
      rw (← g.count)
      (takes_got (head_behind mode) (behind mode row start end first) (Left mode row start end first out out' o o') first last (g.gs, t.value)
      (both_read words_of bins_of_lem (ahead first) g.gs t.value (ahead next) (ahead last) g.is t.is) (t.same ∙ g.same) (g.put, t.left))

-- ---- the mode before them
module _ (row : List ℕ) (start end : ℕ) (first : FieldReader) where
  -- what is left of a whole field
  abbrev pub Worked : List ℕ → List ℕ → Scratch → Scratch → Channel → Type 0
  Worked out out' o o' c = GainsPut out out' c.gains × BinsPut start (bins_in row start end c) o o' c.items

  abbrev pub field_found : Got Channel
  field_found = (field row start end).dec (ahead first)

  abbrev mode_word : Got ℕ
  mode_word = (number 2).dec (ahead first)

  module _ (next : FieldReader) where
    pub mode_stop : (k : Refusal) (out out' : List ℕ) (o o' : Scratch) → Takes (λ v. v) mode_word (Err k) (λ v. v < 2 ^ 2) first next
        → Takes head_of field_found (Err k) (Worked out out' o o') first next
    mode_stop k out out' o o' t =
        let d = refused_by (λ v. v) mode_word (λ v. v < 2 ^ 2) first next k t in
        takes_refused head_of field_found (Worked out out' o o') first next k (rw d)

    -- what is behind the mode, with the mode before it
    module _ (mode : ℕ) (t : Takes (λ v. v) mode_word (Ok mode) (λ v. v < 2 ^ 2) first next) where
      abbrev there : GotTo (λ v. v) mode_word (λ v. v < 2 ^ 2) first next mode
      there = got_to (λ v. v) mode_word (λ v. v < 2 ^ 2) first next mode t

      pub mode_few : mode ≤ 3
      mode_few = let few = there.left in omega (arith, few, there.shows)

      abbrev rest_of : Got (List ℕ × List Item)
      rest_of = (behind_mode lenient row start end mode).dec (ahead next)

      abbrev all_of : Got (List ℕ × List Item) → Got Channel
      all_of G = and_then G (λ c rest. got (from_parts (mode, c)) rest)

      whole : field_found ≡ all_of rest_of
      whole = rw (there.is, ← there.shows) (go rest_of)
        where
          go : (G : Got (List ℕ × List Item)) → and_then (and_then G (λ b rest'. got (mode, b) rest')) (λ (a : ℕ × (List ℕ × List Item)) rest. got (from_parts a) rest) ≡ all_of G
          go (got c rest) = refl
          go (refused k) = refl

      pub field_read : (last : FieldReader) (r : Result FieldHead Refusal) (out out' : List ℕ) (o o' : Scratch) → Takes (head_behind mode) rest_of r (Left mode row start end next out out' o o') next last
          → Takes head_of field_found r (Worked out out' o o') first last
      field_read last r out out' o o' h = rw whole (go rest_of h)
        where
          go : (G : Got (List ℕ × List Item)) → Takes (head_behind mode) G r (Left mode row start end next out out' o o') next last → Takes head_of (all_of G) r (Worked out out' o o') first last
          go (got c rest) q = record { is = q.is; took = (q.took.0 ∙ there.same, q.took.1, q.took.2) }
          go (refused k) q = record { is = q.is; took = tt }

-- ---- handing out
-- two lists that the same items show are as long as one another
shows_same : {R A B B' : Type 0} (f : R → A → B) (g : R → A → B') (rs : List R) (xs : List A) → length (shows f rs xs) ≡ length (shows g rs xs)
shows_same f g [] xs = refl
shows_same f g (r ∷ rs) [] = refl
shows_same f g (r ∷ rs) (x ∷ xs) = ap suc (shows_same f g rs xs)

-- what stands at a place of a list in which it was put
taken_out : {A : Type 0} (l new l' : List A) (at n : ℕ) → l' ≡ splice l at new → length new ≡ n → at ≤ length l → take n (drop at l') ≡ new
taken_out l new l' at n e f h = rw (e, ← f) (splice_read l new at h)

module _ (row : List ℕ) (start end : ℕ) (first last : FieldReader) (out out' : List ℕ) (w w' : Scratch) (o o' : Outputs) where
  abbrev here : Got Channel
  here = field_found row start end first

  -- where nothing is read the outputs are kept,
  pub not_handed : (k : Refusal) → Takes head_of here (Err k) (Worked row start end first out out' w w') first last → o' ≡ o
      → Takes head_of here (Err k) (λ c. GainsPut out out' c.gains) first last × FoundPut row start end o o' here
  not_handed k t same =
      let d = refused_by head_of here (Worked row start end first out out' w w') first last k t in
      (takes_refused head_of here (λ c. GainsPut out out' c.gains) first last k d, rw (d, same) (refl, refl, refl))

  -- and else get what was read to the scratch buffers
  pub handed_out : (h : FieldHead) → start ≤ end → end ≤ 256 → Sized w → Takes head_of here (Ok h) (Worked row start end first out out' w w') first last
      → o'.values ≡ splice o.values (6 * start) (joined (take (end - start) (drop start w'.values)))
      → o'.exact ≡ splice o.exact (6 * start) (joined (take (end - start) (drop start w'.exact)))
      → o'.indices ≡ splice o.indices start (take (end - start) (drop start w'.indices))
      → Takes head_of here (Ok h) (λ c. GainsPut out out' c.gains) first last × FoundPut row start end o o' here
  handed_out h ordered few sized t ev ex ei =
      let d = got_to head_of here (Worked row start end first out out' w w') first last h t in
      let c = d.value in
      let k = d.left in
      let pt = parts lenient row start end c ((field_lawful lenient lenient_laws row start end).sole (ahead first) (ahead last) c d.is).1 in
      let n : length (indices_shown row start end c) ≡ end - start = indices_long lenient row start end c pt in
      let bs = bins_in row start end c in (
        rw d.shows (takes_got head_of here (λ c. GainsPut out out' c.gains) first last c d.is d.same k.0),
        rw d.is (
          ev ∙ ap (λ l. splice o.values (6 * start) (joined l)) (taken_out w.values _ w'.values start (end - start) k.1.0 (shows_same values_of index_of bs c.items ∙ n) (omega arith)),
          ex ∙ ap (λ l. splice o.exact (6 * start) (joined l)) (taken_out w.exact _ w'.exact start (end - start) k.1.1 (shows_same exacts_of index_of bs c.items ∙ n) (omega arith)),
          ei ∙ ap (splice o.indices start) (taken_out w.indices (indices_shown row start end c) w'.indices start (end - start) k.1.2 n (omega arith)),
        ),
      )
