-- What the loops write, one turn at a time: gain bits, group words, the codes of a bin, the bins. Assumes nothing.
use Prim.Native.Nat.{ℕ, zero, suc, ◌+◌, ◌^◌, ◌≤◌, ◌<◌, min}
use mathlib.Core.Path.{◌≡◌, refl, sym, ap, ◌∙◌}
use mathlib.Core.Bool.{Bool, true, false, cond}
use mathlib.Core.List.{List, [], ◌∷◌, ◌++◌, append-nil}
use native.Mathlib.Numerals.{add-one}
use native.Mathlib.Omega.{arith}
use lib.Ieee.{Float, nan, inf, lt}
use lib.Pow.{pow_mono}
use lib.ListN.{length, get_or, drop, replicate, drop_of_length-le}
use lib.Seq.{drop-cons}
use Rattle.bits.specs.Bits.{bits_n}
use Rattle.bits.specs.Format.{number, each_enc}
use Rattle.tables.specs.Tables.{vq_bits, book}
use Rattle.tables.proofs.Rules.{vq_most}
use Rattle.books.specs.Books.{distance_of, search_from, nearest_in, search_of}
use Rattle.channel.specs.declared.bins.Bins.{Bins}
use Rattle.channel.specs.Row.{six_of}
use Rattle.channel.specs.Field.{gain_code, packed, group_words, gain_words, lenient, bin_at}
use Rattle.channel.proofs.Over.{over_next, over_end}
use Rattle.quantiser.specs.Quantise.{picked}
use Rattle.writer.specs.Written.{codes_of, written_at}
use Rattle.writer.specs.Work.{bin_enc, bins_enc, gains_enc}

-- a list from its place i on: the element there, and the rest
from_here : {A : Type 0} (l : List A) (i : ℕ) (d : A) → i < length l → drop i l ≡ get_or l i d ∷ drop (i + 1) l
from_here l i d h = drop-cons l i d h ∙ ap (λ (k : ℕ). get_or l i d ∷ drop k l) (sym (add-one i))

-- ---- gain words
pub words_zero : (mode : ℕ) (gs : List ℕ) → mode ≡ 0 → gains_enc mode gs ≡ []
unfolding gain_words
words_zero mode gs e = rw e

module _ (mode : ℕ) (m : (1 ≤ mode) × (mode ≤ 2)) where
  bits_first : (g : ℕ) (gs : List ℕ) → gains_enc mode (g ∷ gs) ≡ bits_n 1 (gain_code g mode) ++ gains_enc mode gs
  unfolding gain_words number each_enc
  bits_first g gs = go mode m
    where
      go : (mode : ℕ) → (1 ≤ mode) × (mode ≤ 2) → gains_enc mode (g ∷ gs) ≡ bits_n 1 (gain_code g mode) ++ gains_enc mode gs
      go zero m = absurd (omega arith)
      go (suc zero) m = refl
      go (suc (suc zero)) m = refl
      go (suc (suc (suc k))) m = absurd (omega arith)

  bits_none : gains_enc mode [] ≡ []
  unfolding gain_words each_enc
  bits_none = go mode m
    where
      go : (mode : ℕ) → (1 ≤ mode) × (mode ≤ 2) → gains_enc mode [] ≡ []
      go zero m = absurd (omega arith)
      go (suc zero) m = refl
      go (suc (suc zero)) m = refl
      go (suc (suc (suc k))) m = absurd (omega arith)

  pub bits_next : (gs : List ℕ) (j c : ℕ) → c ≡ gain_code (get_or gs j 0) mode → j < length gs → gains_enc mode (drop j gs) ≡ bits_n 1 c ++ gains_enc mode (drop (j + 1) gs)
  bits_next gs j c e h = ap (gains_enc mode) (from_here gs j 0 h) ∙ bits_first (get_or gs j 0) (drop (j + 1) gs) ∙ rw e

  pub bits_end : (gs : List ℕ) (j : ℕ) → length gs ≤ j → gains_enc mode (drop j gs) ≡ []
  bits_end gs j h = ap (gains_enc mode) (drop_of_length-le gs h) ∙ bits_none

-- a group, the first three gains or all that are left, and the gains behind it
group_first : (group rest : List ℕ) → length group ≡ min 3 (length (group ++ rest)) → 0 < length (group ++ rest) → gains_enc 3 (group ++ rest) ≡ bits_n 5 (packed group) ++ gains_enc 3 rest
unfolding gain_words group_words number
group_first [] rest l h = absurd (omega arith)
group_first (x ∷ []) [] l h = sym (append-nil (bits_n 5 (packed (x ∷ []))))
group_first (x ∷ []) (y ∷ rest) l h = absurd (omega arith)
group_first (x ∷ y ∷ []) [] l h = sym (append-nil (bits_n 5 (packed (x ∷ y ∷ []))))
group_first (x ∷ y ∷ []) (z ∷ rest) l h = absurd (omega arith)
group_first (x ∷ y ∷ z ∷ []) rest l h = refl
group_first (x ∷ y ∷ z ∷ u ∷ group) rest l h = absurd (omega arith)

pub groups_next : (all group rest : List ℕ) (w : ℕ) → all ≡ group ++ rest → length group ≡ min 3 (length all) → 0 < length all → w ≡ packed group → gains_enc 3 all ≡ bits_n 5 w ++ gains_enc 3 rest
groups_next all group rest w e l h ew = rw (e, ew) (group_first group rest (rw e at l) (rw e at h))

pub words_end_lem : (gs : List ℕ) (i : ℕ) → length gs ≤ i → gains_enc 3 (drop i gs) ≡ []
unfolding gain_words group_words
words_end_lem gs i h = ap (gains_enc 3) (drop_of_length-le gs h)

-- ---- the codes of components
abbrev pub codes_for : ℕ → ℕ → List Float → List Bool
codes_for h g v = each_enc (λ (k : ℕ). lenient h g) (replicate (length v) 0) (codes_of h g v)

pub codes_next : (h g : ℕ) (x : List Float) (j : ℕ) → j < length x → codes_for h g (drop j x) ≡ (lenient h g).enc (picked h g (get_or x j nan)).0 ++ codes_for h g (drop (j + 1) x)
unfolding each_enc
codes_next h g x j l = ap (codes_for h g) (from_here x j nan l)

pub codes_end : (h g : ℕ) (x : List Float) (j : ℕ) → length x ≤ j → codes_for h g (drop j x) ≡ []
unfolding each_enc
codes_end h g x j l = ap (codes_for h g) (drop_of_length-le x l)

-- ---- the bins
module _ (mode : ℕ) (gains : List ℕ) (b : Bins) (x : List Float) (k : ℕ) where
  pub bins_next : k < b.end → bins_enc mode gains b x k ≡ bin_enc (bin_at mode gains b.row.now b.start k) (six_of x k) ++ bins_enc mode gains b x (k + 1)
  unfolding each_enc
  bins_next l = rw (over_next (bin_at mode gains b.row.now b.start) k b.end l, over_next (written_at mode gains b.row.now x b.start) k b.end l)

  pub bins_end : b.end ≤ k → bins_enc mode gains b x k ≡ []
  unfolding each_enc
  bins_end l = rw (over_end (bin_at mode gains b.row.now b.start) k b.end l)

-- ---- the search's index fits its bits, whatever the vector
search_most : (f : ℕ → Float) (m n k best : ℕ) (d : Float) → best ≤ m → k + n ≤ m → search_from f n k best d ≤ m
unfolding search_from
search_most f m zero k best d p q = p
search_most f m (suc n) k best d p q = search_most f m n (suc k) _ _ (go (lt (f k) d)) (omega arith)
  where
    go : (t : Bool) → cond t k best ≤ m
    go true = omega arith
    go false = p

pub search_few : (h : ℕ) (x : List Float) → search_of h x ≤ 512
unfolding search_of nearest_in
search_few h x =
    let s = search_most (distance_of x (book h)) (2 ^ vq_bits h) (2 ^ vq_bits h) 0 0 (inf false) (omega arith) (omega arith) in
    let m : 2 ^ vq_bits h ≤ 2 ^ 9 = pow_mono (vq_most h) in
    omega arith
