-- The loop over the bins of a row: what is known before each turn, and what a turn does. Assumes nothing.
use Prim.Native.Nat.{ℕ, ◌+◌, ◌≤◌, ◌<◌}
use mathlib.Core.Path.{◌≡◌, refl, sym, ap, ◌∙◌}
use mathlib.Core.Bool.{Bool}
use mathlib.Core.List.{List, [], ◌∷◌, ◌++◌, append_assoc, append-nil}
use native.Mathlib.Omega.{arith}
use lib.ListN.{length, get_or, set, length-append}
use Rattle.bits.specs.Bits.{splice}
use Rattle.bits.specs.Format.{got, shows, each_dec}
use Rattle.bits.specs.Takes.{ahead, Takes}
use Rattle.bits.specs.Work.{resume}
use Rattle.bits.specs.declared.field_reader.FieldReader.{FieldReader}
use Rattle.bits.proofs.Laws.{splice_none, splice_one, splice_more, length_splice}
use Rattle.bits.proofs.Lawful.{resume_none, resume_next, resume_stop, resume_done}
use Rattle.bits.proofs.Taking.{takes_got, takes_refused, got_to, refused_by}
use Rattle.std.specs.Prelude.{Ok, Err}
use Rattle.answers.specs.declared.Refusal.{Refusal}
use Rattle.channel.specs.Bins.{over}
use Rattle.channel.specs.Row.{active_count}
use Rattle.channel.specs.Field.{Bin, Item, lenient, item, bin_of, bin_at, bins_of}
use Rattle.channel.specs.Shown.{values_of, exacts_of, index_of}
use Rattle.channel.proofs.Over.{over_next, over_end}
use Rattle.channel.proofs.Rows.{bin_is}
use Rattle.channel.proofs.Shown.{shows_end}
use Rattle.reader.specs.Work.{BinPut, BinsPut}
use Rattle.reader.specs.declared.scratch.Scratch.{Scratch}

-- ---- a buffer in which a list stands from a place on, up to another
pub record Filled {A : Type 0} (v v' : List A) (at up : ℕ) (l : List A) : Type 0 where
  pub is : v' ≡ splice v at l
  pub ends : up ≡ at + length l

filled_none : {A : Type 0} (v : List A) (at : ℕ) → Filled v v at at []
filled_none v at = record { is = sym (splice_none v at); ends = omega arith }

-- with one more
filled_more : {A : Type 0} (v v' v'' l l' : List A) (new : A) (at up : ℕ) → Filled v v' at up l → l' ≡ l ++ (new ∷ []) → up < length v → v'' ≡ set v' up new → Filled v v'' at (up + 1) l'
filled_more v v' v'' l l' new at up f e h g =
    let k = f.ends in
    let n : length v' ≡ length v = ap length f.is ∙ length_splice v l at (omega arith) in
    let one = splice_one v' up new (omega arith) in
    record {
      is = g ∙ sym one ∙ rw (f.is, k, e) (splice_more v l (new ∷ []) at (omega arith));
      ends = rw (e, length-append) (omega arith);
    }

-- buffers of as many places as their type says
abbrev pub Sized : Scratch → Type 0
Sized s = (length s.values ≡ 256) × (length s.exact ≡ 256) × (length s.indices ≡ 256)

-- ---- the loop
module _ (mode : ℕ) (row gains : List ℕ) (start end : ℕ) (first : List Bool) (o : Scratch) where
  abbrev pub bin : ℕ → Bin
  bin = bin_at mode gains row start

  -- the bins before k with their items, and the bits that are left
  pub record SoFar (left : List Bool) (k : ℕ) (o' : Scratch) : Type 0 where
    pub bs : List Bin
    pub xs : List Item
    pub paired : length bs ≡ length xs
    pub parts : over bin start end ≡ bs ++ over bin k end
    pub rest : each_dec (item lenient) (over bin start end) first ≡ resume xs (each_dec (item lenient) (over bin k end) left)
    pub values : Filled o.values o'.values start k (shows values_of bs xs)
    pub exacts : Filled o.exact o'.exact start k (shows exacts_of bs xs)
    pub indices : Filled o.indices o'.indices start k (shows index_of bs xs)

  pub none_yet : SoFar first start o
  none_yet =
      record {
        bs = [];
        xs = [];
        paired = refl;
        parts = refl;
        rest = sym (resume_none _);
        values = filled_none o.values start;
        exacts = filled_none o.exact start;
        indices = filled_none o.indices start;
      }

module _ {mode : ℕ} {row gains : List ℕ} {start end : ℕ} {first : List Bool} {o : Scratch} {left : List Bool} {k : ℕ} {o' : Scratch}
    (f : SoFar mode row gains start end first o left k o') where
  abbrev whole : List Bin
  whole = bins_of mode gains row start end

  abbrev later : List Bin
  later = over (bin mode row gains start end first o) (k + 1) end

  -- a turn: the bin k has the hebap h and, if it is active, the gain g at its rank n
  module _ (n h g : ℕ) (more : k < end) (eh : h ≡ get_or row k 0) (en : n ≡ active_count mode row start k) (eg : g ≡ get_or gains n 0) where
    abbrev b : Bin
    b = bin_of mode h g

    next : over (bin mode row gains start end first o) k end ≡ b ∷ later
    next = over_next (bin mode row gains start end first o) k end more ∙ ap (λ (d : Bin). d ∷ later) (sym (bin_is mode gains row start k n h g eh en eg))

    pub one_more_lem : (p q : FieldReader) (o'' : Scratch) → Sized o → end ≤ 256 → Takes (λ x. tt {0}) ((item lenient b).dec left) (Ok (tt {0})) (BinPut k b o' o'') p q
        → SoFar mode row gains start end first o (ahead q) (k + 1) o''
    one_more_lem p q o'' l few t =
        let d = got_to (λ x. tt {0}) ((item lenient b).dec left) (BinPut k b o' o'') p q tt t in
        let y = d.value in
        let w = d.left in
        record {
          bs = f.bs ++ (b ∷ []);
          xs = f.xs ++ (y ∷ []);
          paired = length-append f.bs (b ∷ []) ∙ ap (λ (j : ℕ). j + 1) f.paired ∙ sym (length-append f.xs (y ∷ []));
          parts = f.parts ∙ rw next (sym (append_assoc f.bs (b ∷ []) later));
          rest = f.rest ∙ rw next (resume_next (item lenient) b later left (ahead q) f.xs y d.is);
          values = filled_more o.values o'.values o''.values _ _ (values_of b y) start k f.values (shows_end values_of f.bs f.xs b y f.paired) (omega (arith, l.0)) w.0;
          exacts = filled_more o.exact o'.exact o''.exact _ _ (exacts_of b y) start k f.exacts (shows_end exacts_of f.bs f.xs b y f.paired) (omega (arith, l.1)) w.1;
          indices = filled_more o.indices o'.indices o''.indices _ _ (index_of b y) start k f.indices (shows_end index_of f.bs f.xs b y f.paired) (omega (arith, l.2)) w.2;
        }

    -- the bin is refused
    pub cut : (j : Refusal) (P : Item → Type 0) (p q before : FieldReader) (o'' : Scratch) → Takes (λ x. tt {0}) ((item lenient b).dec left) (Err j) P p q
        → Takes (λ xs. tt {0}) (each_dec (item lenient) whole first) (Err j) (BinsPut start whole o o'') before q
    cut j P p q before o'' t =
        let d = refused_by (λ x. tt {0}) ((item lenient b).dec left) P p q j t in
        takes_refused (λ xs. tt {0}) (each_dec (item lenient) whole first) (BinsPut start whole o o'') before q j
        (f.rest ∙ rw next (resume_stop (item lenient) b later left f.xs j d))

  -- all bins are read
  pub done : end ≤ k → (before p : FieldReader) → p.src.now ≡ before.src.now → left ≡ ahead p → Takes (λ xs. tt {0}) (each_dec (item lenient) whole first) (Ok (tt {0})) (BinsPut start whole o o') before p
  done l before p same here =
      let z = over_end (bin mode row gains start end first o) k end l in
      let b : whole ≡ f.bs = f.parts ∙ rw (z, append-nil) in
      takes_got (λ xs. tt {0}) (each_dec (item lenient) whole first) (BinsPut start whole o o') before p f.xs (f.rest ∙ rw z (resume_done (item lenient) left f.xs) ∙ ap (got f.xs) here) same
      (rw b (f.values.is, f.exacts.is, f.indices.is))
