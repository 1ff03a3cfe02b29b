-- Each bin shows six f32, six exact values and an index, at its own places; and channels are equal where bins show
-- the same. Assumes nothing.
use Prim.Native.Nat.{ℕ, zero, suc, ◌+◌, ◌-◌, ◌*◌, ◌%◌, ◌^◌, ◌≤◌, ◌<◌}
use mathlib.Core.Path.{◌≡◌, refl, sym, ap, ◌∙◌, subst}
use mathlib.Core.List.{List, [], ◌∷◌, ◌++◌, append_assoc, append-nil}
use mathlib.Core.Bool.{Bool, true, false, cond}
use native.Mathlib.Omega.{arith}
use lib.IntN.{pos}
use lib.ListN.{length, length-append, get_or, get_or-append, replicate}
use lib.Seq.{get_or-append-add, ext_get_or}
use lib.Ieee.{Float}
use Rattle.bits.specs.Format.{each_Ok, shows}
use Rattle.tables.specs.Tables.{vq_bits, book}
use Rattle.levels.specs.Exact.{exact_of}
use Rattle.levels.specs.Value.{f0, value_of}
use Rattle.books.specs.Books.{has_book, six_at, vq_lookup, exacts_at, vq_exact}
use Rattle.channel.specs.Bins.{from}
use Rattle.channel.specs.Field.{Bin, Item, nothing, of_index, of_codes, Coder, item, bin_of, bin_at, Channel}
use Rattle.channel.specs.Shown.{values_of, exacts_of, index_of, joined, values_shown, exacts_shown, indices_shown, item_at}
use Rattle.channel.proofs.Laws.{CoderLaws}
use Rattle.channel.proofs.Parts.{Parts, field_items}
use Rattle.channel.proofs.Same.{by_bin, six_long, SameBin, item_same}

-- ---- the last of lists that are shown, and joined
pub joined_last : {A : Type 0} (xss : List (List A)) (xs : List A) → joined (xss ++ (xs ∷ [])) ≡ joined xss ++ xs
unfolding joined
joined_last [] xs = append-nil xs
joined_last (ys ∷ xss) xs = rw (joined_last xss xs, append_assoc)

pub shows_end : {R A B : Type 0} (f : R → A → B) (bs : List R) (xs : List A) (b : R) (x : A) → length bs ≡ length xs
    → shows f (bs ++ (b ∷ [])) (xs ++ (x ∷ [])) ≡ shows f bs xs ++ (f b x ∷ [])
shows_end f [] [] b x e = refl
shows_end f [] (y ∷ xs) b x e = absurd (omega arith)
shows_end f (d ∷ bs) [] b x e = absurd (omega arith)
shows_end f (d ∷ bs) (y ∷ xs) b x e = ap (λ l. f d y ∷ l) (shows_end f bs xs b x (omega arith))

pub joined_end : {R A B : Type 0} (f : R → A → List B) (bs : List R) (xs : List A) (b : R) (x : A) → length bs ≡ length xs
    → joined (shows f (bs ++ (b ∷ [])) (xs ++ (x ∷ []))) ≡ joined (shows f bs xs) ++ f b x
joined_end f bs xs b x e = ap joined (shows_end f bs xs b x e) ∙ joined_last (shows f bs xs) (f b x)

-- ---- places in a list that starts with six
module _ {A : Type 0} (l r : List A) (d : A) (long : length l ≡ 6) where
  six_first : (k : ℕ) → k < 6 → get_or (l ++ r) (6 * 0 + k) d ≡ get_or l k d
  six_first k u = let e : 6 * 0 + k ≡ k = omega arith in rw e (get_or-append l r d k (omega arith))

  six_later : (i k : ℕ) → get_or (l ++ r) (6 * suc i + k) d ≡ get_or r (6 * i + k) d
  six_later i k = let e : 6 * suc i + k ≡ length l + (6 * i + k) = omega arith in rw e (get_or-append-add l r (6 * i + k) d)

-- ---- of a bin
either_long : {A : Type 0} (t : Bool) (l l' : List A) → length l ≡ 6 → length l' ≡ 6 → length (cond t l l') ≡ 6
either_long true l l' e e' = e
either_long false l l' e e' = e'

pub lookup_long : (h i : ℕ) → length (vq_lookup h i) ≡ 6
unfolding vq_lookup six_at
lookup_long h i = either_long (has_book h) (six_at (book h) (i % 2 ^ vq_bits h * 6)) (replicate 6 f0) refl refl

pub vector_long : (h i : ℕ) → length (vq_exact h i) ≡ 6
unfolding vq_exact exacts_at
vector_long h i = either_long (has_book h) (exacts_at (book h) (i % 2 ^ vq_bits h * 6)) (replicate 6 (pos 0)) refl refl

module _ (F : Coder) where
  pub item_values_long : (mode h g : ℕ) (x : Item) → (item F (bin_of mode h g)).Ok x → length (values_of (bin_of mode h g) x) ≡ 6
  item_values_long mode h g x =
      by_bin (λ b. (item F b).Ok x → length (values_of b x) ≡ 6) mode h g (λ o. refl) (λ l u o. lookup_long h (of_index x))
      (λ g a o. six_long (F h g) (value_of h g) (of_codes x) o.0)

  pub item_exacts_long : (mode h g : ℕ) (x : Item) → (item F (bin_of mode h g)).Ok x → length (exacts_of (bin_of mode h g) x) ≡ 6
  item_exacts_long mode h g x =
      by_bin (λ b. (item F b).Ok x → length (exacts_of b x) ≡ 6) mode h g (λ o. refl) (λ l u o. vector_long h (of_index x))
      (λ g a o. six_long (F h g) (exact_of h g) (of_codes x) o.0)

  -- ---- of bins at places, with their items
  module _ (b : ℕ → Bin) where
    items_at : (k n : ℕ) (xs : List Item) → each_Ok (item F) (from b k n) xs → (i : ℕ) → i < n → (item F (b (k + i))).Ok (get_or xs i nothing)
    unfolding from each_Ok
    items_at k zero xs o i l = absurd (omega arith)
    items_at k (suc n) [] o i l = absurd o
    items_at k (suc n) (x ∷ xs) o zero l = let e : k ≡ k + 0 = omega arith in subst (λ (j : ℕ). (item F (b j)).Ok x) e o.0
    items_at k (suc n) (x ∷ xs) o (suc i) l =
        let e : suc k + i ≡ k + suc i = omega arith in subst (λ (j : ℕ). (item F (b j)).Ok (get_or xs i nothing)) e (items_at (suc k) n xs o.1 i (omega arith))

    shows_long : {B : Type 0} (f : Bin → Item → B) (k n : ℕ) (xs : List Item) → each_Ok (item F) (from b k n) xs → length (shows f (from b k n) xs) ≡ n
    unfolding from each_Ok
    shows_long f k zero xs o = refl
    shows_long f k (suc n) [] o = absurd o
    shows_long f k (suc n) (x ∷ xs) o = ap suc (shows_long f (suc k) n xs o.1)

    shows_at : {B : Type 0} (f : Bin → Item → B) (d : B) (k n : ℕ) (xs : List Item) → each_Ok (item F) (from b k n) xs → (i : ℕ) → i < n
        → get_or (shows f (from b k n) xs) i d ≡ f (b (k + i)) (get_or xs i nothing)
    unfolding from each_Ok
    shows_at f d k zero xs o i l = absurd (omega arith)
    shows_at f d k (suc n) [] o i l = absurd o
    shows_at f d k (suc n) (x ∷ xs) o zero l = ap (λ (j : ℕ). f (b j) x) (omega arith)
    shows_at f d k (suc n) (x ∷ xs) o (suc i) l = shows_at f d (suc k) n xs o.1 i (omega arith) ∙ ap (λ (j : ℕ). f (b j) (get_or xs i nothing)) (omega arith)

    -- where each shows six
    module _ {A : Type 0} (f : Bin → Item → List A) (long : (k : ℕ) (x : Item) → (item F (b k)).Ok x → length (f (b k) x) ≡ 6) where
      joined_long : (k n : ℕ) (xs : List Item) → each_Ok (item F) (from b k n) xs → length (joined (shows f (from b k n) xs)) ≡ 6 * n
      unfolding from joined each_Ok
      joined_long k zero xs o = refl
      joined_long k (suc n) [] o = absurd o
      joined_long k (suc n) (x ∷ xs) o = rw (length-append, long k x o.0, joined_long (suc k) n xs o.1) (omega arith)

      joined_at : (d : A) (k n : ℕ) (xs : List Item) → each_Ok (item F) (from b k n) xs → (i j : ℕ) → i < n → j < 6
          → get_or (joined (shows f (from b k n) xs)) (6 * i + j) d ≡ get_or (f (b (k + i)) (get_or xs i nothing)) j d
      unfolding from joined each_Ok
      joined_at d k zero xs o i j l u = absurd (omega arith)
      joined_at d k (suc n) [] o i j l u = absurd o
      joined_at d k (suc n) (x ∷ xs) o zero j l u =
          six_first (f (b k) x) (joined (shows f (from b (suc k) n) xs)) d (long k x o.0) j u ∙ ap (λ (r : ℕ). get_or (f (b r) x) j d) (omega arith)
      joined_at d k (suc n) (x ∷ xs) o (suc i) j l u =
          six_later (f (b k) x) (joined (shows f (from b (suc k) n) xs)) d (long k x o.0) i j
          ∙ joined_at d (suc k) n xs o.1 i j (omega arith) u ∙ ap (λ (r : ℕ). get_or (f (b r) (get_or xs i nothing)) j d) (omega arith)

  -- ---- of a channel
  module _ (row : List ℕ) (start end : ℕ) (c : Channel) (p : Parts F row start end c) where
    abbrev bin : ℕ → Bin
    bin = bin_at c.mode c.gains row start

    values_six : (k : ℕ) (x : Item) → (item F (bin k)).Ok x → length (values_of (bin k) x) ≡ 6
    unfolding bin_at
    values_six k x o = item_values_long _ _ _ x o

    exacts_six : (k : ℕ) (x : Item) → (item F (bin k)).Ok x → length (exacts_of (bin k) x) ≡ 6
    unfolding bin_at
    exacts_six k x o = item_exacts_long _ _ _ x o

    pub values_long : length (values_shown row start end c) ≡ 6 * (end - start)
    values_long = joined_long bin values_of values_six start (end - start) c.items p.items_ok

    pub exacts_long : length (exacts_shown row start end c) ≡ 6 * (end - start)
    exacts_long = joined_long bin exacts_of exacts_six start (end - start) c.items p.items_ok

    pub indices_long : length (indices_shown row start end c) ≡ end - start
    indices_long = shows_long bin index_of start (end - start) c.items p.items_ok

    module _ (k : ℕ) (l : start ≤ k) (u : k < end) where
      there : start + (k - start) ≡ k
      there = omega arith

      pub item_at_lem : (item F (bin k)).Ok (item_at start c k)
      item_at_lem = subst (λ (j : ℕ). (item F (bin j)).Ok (item_at start c k)) there (items_at bin start (end - start) c.items p.items_ok (k - start) (omega arith))

      -- at the bin's places stands what the bin shows
      pub values_at : (j : ℕ) (d : Float) → j < 6 → get_or (values_shown row start end c) (6 * (k - start) + j) d ≡ get_or (values_of (bin k) (item_at start c k)) j d
      values_at j d v =
          joined_at bin values_of values_six d start (end - start) c.items p.items_ok (k - start) j (omega arith) v
          ∙ ap (λ (r : ℕ). get_or (values_of (bin r) (item_at start c k)) j d) there

      pub exacts_at_lem : (j : ℕ) → j < 6 → get_or (exacts_shown row start end c) (6 * (k - start) + j) (pos 0) ≡ get_or (exacts_of (bin k) (item_at start c k)) j (pos 0)
      exacts_at_lem j v =
          joined_at bin exacts_of exacts_six (pos 0) start (end - start) c.items p.items_ok (k - start) j (omega arith) v
          ∙ ap (λ (r : ℕ). get_or (exacts_of (bin r) (item_at start c k)) j (pos 0)) there

      pub index_at : get_or (indices_shown row start end c) (k - start) 0 ≡ index_of (bin k) (item_at start c k)
      index_at =
          shows_at bin index_of 0 start (end - start) c.items p.items_ok (k - start) (omega arith) ∙ ap (λ (r : ℕ). index_of (bin r) (item_at start c k)) there

-- Channels are equal where modes and gains are, the index in every book bin and the six exact values in every scalar
-- bin.
pub same_channel : (F : Coder) (laws : CoderLaws F) (row : List ℕ) (start end : ℕ) (c c' : Channel) → Parts F row start end c → Parts F row start end c'
    → c.mode ≡ c'.mode → c.gains ≡ c'.gains
    → ((k : ℕ) → start ≤ k → k < end → SameBin (get_or row k 0) (bin_at c.mode c.gains row start k) (item_at start c k) (item_at start c' k)) → c ≡ c'
unfolding bin_at
same_channel F laws row start end c c' p p' em eg s =
    let x : c.items ≡ c'.items =
    ext_get_or nothing c.items c'.items (field_items F row start end c p ∙ sym (field_items F row start end c' p'))
    (λ i u.
    let n = field_items F row start end c p in
    let d : (start + i) - start ≡ i = omega arith in
    let o = item_at_lem F row start end c p (start + i) (omega arith) (omega arith) in
    let o' = item_at_lem F row start end c' p' (start + i) (omega arith) (omega arith) in
    let b : bin_at c'.mode c'.gains row start (start + i) ≡ bin_at c.mode c.gains row start (start + i) = cc in
    rw d at (item_same F laws _ (get_or row (start + i) 0) _ _ _ o (rw b at o') (s (start + i) (omega arith) (omega arith)))) in
    λ i. record { mode = em i; gains = eg i; items = x i }
