-- The items of a bin are equal where their index is, or their six exact values. Assumes nothing.
use Prim.Native.Nat.{ℕ, ◌≤◌, ◌<◌}
use mathlib.Core.Path.{◌≡◌, refl, sym, ap, ◌∙◌}
use mathlib.Core.List.{List, map}
use mathlib.Core.Bool.{Bool, true, false, cond}
use mathlib.Core.Logic.{◌⊎◌, inl, inr}
use native.Mathlib.Omega.{arith}
use lib.IntN.{pos}
use lib.ListN.{length, length-map, get_or, replicate}
use lib.Seq.{ext_get_or}
use lib.Dec.{leb, eqb}
use borrow.Author.Tests.{eqb-false, leb-true, leb-false}
use Rattle.bits.specs.Format.{Format, each}
use Rattle.bits.proofs.Faithful.{Faithful, all_faithful, each_faithful, shows_map}
use Rattle.gains.specs.Gains.{active, coding_of}
use Rattle.gains.specs.declared.Coding.{Coding}
use Rattle.gains.proofs.Cases.{active_range}
use Rattle.levels.specs.declared.Code.{Code}
use Rattle.levels.specs.Exact.{exact_of}
use Rattle.levels.proofs.CodeLaws.{coded_accepted}
use Rattle.levels.proofs.Rows.{exact_distinct}
use Rattle.channel.specs.Field.{Bin, none, book, scalar, Item, index, codes, of_codes, Coder, item, coded_as, bin_of}
use Rattle.channel.specs.Shown.{exacts_of, index_of}
use Rattle.channel.proofs.Laws.{CoderLaws}
use Rattle.channel.proofs.Parts.{each_count}

-- the hebaps and gains of a scalar bin
abbrev pub Scalar : ℕ → ℕ → Type 0
Scalar h g = (8 ≤ h) × (h ≤ 19) × ((g ≡ 1) ⊎ (h ≤ 16))

-- what holds of each kind of bin holds of the bin of a hebap
pub by_bin : (P : Bin → Type 0) (mode h g : ℕ) → P none → (1 ≤ h → h ≤ 7 → P (book h)) → ((g : ℕ) → Scalar h g → P (scalar h g)) → P (bin_of mode h g)
unfolding bin_of coding_of
by_bin P mode h g empty bk sc = go (leb h 19) refl (eqb h 0) refl (leb h 7) refl (active mode h) refl
  where
    positive : (n : ℕ) → (n ≡ 0 → ⊥) → 1 ≤ n
    positive n f = omega arith

    go : (t : Bool) → leb h 19 ≡ t → (z : Bool) → eqb h 0 ≡ z → (b : Bool) → leb h 7 ≡ b → (a : Bool) → active mode h ≡ a
        → P (cond t (coded_as (cond z Coding.Nothing (cond b Coding.Book (cond a Coding.Adaptive Coding.Fixed))) h g) none)
    go false p z q b r a s = empty
    go true p true q b r a s = empty
    go true p false q true r a s = bk (positive h (eqb-false h 0 q)) (leb-true h 7 r)
    go true p false q false r true s = let k = active_range mode h s in sc g (k.0, leb-true h 19 p, inr k.1)
    go true p false q false r false s = sc 1 (leb-false h 7 r, leb-true h 19 p, inl refl)

pub six_long : {A : Type 0} (F : Format Code) (f : Code → A) (cs : List Code) → (each (λ (k : ℕ). F) (replicate 6 0)).Ok cs → length (map f cs) ≡ 6
six_long F f cs o = length-map cs f ∙ each_count (λ (k : ℕ). F) (replicate 6 0) cs o

-- ---- a bin
-- what is compared of two items of a bin of hebap h
pub record SameBin (h : ℕ) (b : Bin) (x x' : Item) : Type 0 where
  pub index : 1 ≤ h → h ≤ 7 → index_of b x ≡ index_of b x'
  pub exacts : 8 ≤ h → h ≤ 19 → (k : ℕ) → k < 6 → get_or (exacts_of b x) k (pos 0) ≡ get_or (exacts_of b x') k (pos 0)

module _ (F : Coder) (laws : CoderLaws F) where
  -- six codes
  coded_faithful : (h g : ℕ) → Scalar h g → Faithful (F h g) (exact_of h g)
  coded_faithful h g a c c' o o' e =
      exact_distinct h g a.0 a.1 a.2 c c' (coded_accepted h g c (laws.among h g c o)) (coded_accepted h g c' (laws.among h g c' o')) e

  abbrev Six : ℕ → ℕ → Format (List Code)
  Six h g = each (λ (k : ℕ). F h g) (replicate 6 0)

  six_faithful : (h g : ℕ) → Scalar h g → Faithful (Six h g) (map (exact_of h g))
  six_faithful h g a cs cs' o o' e =
      let G : ℕ → Format Code = λ k. F h g in
      let f = coded_faithful h g a in
      each_faithful G (λ (k : ℕ). exact_of h g) (replicate 6 0) (all_faithful G (λ (k : ℕ). exact_of h g) (λ k. f) (replicate 6 0)) cs cs' o o'
      (shows_map G (exact_of h g) (replicate 6 0) cs o ∙ e ∙ sym (shows_map G (exact_of h g) (replicate 6 0) cs' o'))

  equal_codes : (h g : ℕ) (x x' : Item) → Scalar h g → (Six h g).Ok (of_codes x) → (Six h g).Ok (of_codes x') → SameBin h (scalar h g) x x' → of_codes x ≡ of_codes x'
  equal_codes h g x x' a o o' s =
      let l = six_long (F h g) (exact_of h g) (of_codes x) o in
      let l' = six_long (F h g) (exact_of h g) (of_codes x') o' in
      six_faithful h g a (of_codes x) (of_codes x') o o'
      (ext_get_or (pos 0) (map (exact_of h g) (of_codes x)) (map (exact_of h g) (of_codes x')) (l ∙ sym l') (λ k u. s.exacts a.0 a.1 k (omega arith)))

  pub item_same : (mode h g : ℕ) (x x' : Item) → (item F (bin_of mode h g)).Ok x → (item F (bin_of mode h g)).Ok x' → SameBin h (bin_of mode h g) x x' → x ≡ x'
  item_same mode h g x x' =
      by_bin (λ b. (item F b).Ok x → (item F b).Ok x' → SameBin h b x x' → x ≡ x') mode h g (λ o o' s. o ∙ sym o')
      (λ l u o o' s. sym o.1 ∙ ap index (s.index l u) ∙ o'.1)
      (λ g a o o' s. sym o.1 ∙ ap codes (equal_codes h g x x' a o.0 o'.0 s) ∙ o'.1)
