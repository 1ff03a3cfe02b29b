-- Steps of the search over any distances, as the code's tests go. Assumes nothing.
use mathlib.Core.Path.{◌≡◌, refl, ◌∙◌, ap}
use mathlib.Core.Bool.{Bool, true, false, cond, ◌||◌}
use Prim.Native.Nat.{ℕ, suc, ◌+◌, ◌-◌, ◌<◌, ◌≤◌}
use native.Mathlib.Omega.{arith}
use lib.Ieee.{Float, lt}
use Rattle.bits.proofs.Tests.{neither}
use Rattle.books.specs.declared.Nearest.{Nearest}
use Rattle.books.specs.Books.{search_from}
use Rattle.books.specs.Work.{nearer_of}

-- what the search comes to from the place k on, where s is the nearest so far
abbrev pub on_from : (ℕ → Float) → ℕ → ℕ → Nearest → ℕ
on_from f n k s = search_from f (n - k) k s.best s.least

-- the nearest so far after four distances more
abbrev pub four_on : Nearest → Float → Float → Float → Float → ℕ → Nearest
four_on s a b c d k = nearer_of (nearer_of (nearer_of (nearer_of s a k) b (k + 1)) c (k + 2)) d (k + 3)

-- one after the other, as the code has them
pub four_on_lem : (s : Nearest) (a b c d : Float) (k : ℕ) (s1 s2 s3 s4 : Nearest) → s1 ≡ nearer_of s a k → s2 ≡ nearer_of s1 b (k + 1) → s3 ≡ nearer_of s2 c (k + 2) → s4 ≡ nearer_of s3 d (k + 3)
    → s4 ≡ four_on s a b c d k
four_on_lem s a b c d k s1 s2 s3 s4 e1 e2 e3 e4 = e4 ∙ rw (e3, e2, e1)

-- a distance that is not less changes nothing
keeps : (s : Nearest) (d : Float) (k : ℕ) → lt d s.least ≡ false → nearer_of s d k ≡ s
unfolding nearer_of
keeps s d k t = rw t

one_more_lem : (f : ℕ → Float) (m k : ℕ) (d : Float) (s : Nearest) → d ≡ f k
    → search_from f (suc m) k s.best s.least ≡ search_from f m (suc k) (nearer_of s d k).best (nearer_of s d k).least
unfolding search_from nearer_of
one_more_lem f m k d s e = rw (← e) (go (lt d s.least))
  where
    go : (t : Bool)
        → search_from f m (suc k) (cond t k s.best) (cond t d s.least)
        ≡ search_from f m (suc k) (cond t (record { best = k; least = d }) s).best (cond t (record { best = k; least = d }) s).least
    go true = refl
    go false = refl

module _ (f : ℕ → Float) (n : ℕ) where
  pub by_end : (k : ℕ) (s : Nearest) → n ≤ k → on_from f n k s ≡ s.best
  unfolding search_from
  by_end k s h = let e : n - k ≡ 0 = omega arith in ap (λ (m : ℕ). search_from f m k s.best s.least) e

  -- the next place is given as the code has it
  by_one : (k j : ℕ) (d : Float) (s : Nearest) → k < n → j ≡ suc k → d ≡ f k → on_from f n k s ≡ on_from f n j (nearer_of s d k)
  by_one k j d s h p e =
      let q : n - k ≡ suc (n - suc k) = omega arith in
      rw (p, q) (one_more_lem f (n - suc k) k d s e)

  module _ (k : ℕ) (s : Nearest) (a b c d : Float) (h : k + 3 < n) (ea : a ≡ f k) (eb : b ≡ f (k + 1)) (ec : c ≡ f (k + 2)) (ed : d ≡ f (k + 3)) where
    pub by_four : on_from f n k s ≡ on_from f n (k + 4) (four_on s a b c d k)
    by_four =
        by_one k (k + 1) a s (omega arith) (omega arith) ea
        ∙ by_one (k + 1) (k + 2) b (nearer_of s a k) (omega arith) (omega arith) eb
        ∙ by_one (k + 2) (k + 3) c (nearer_of (nearer_of s a k) b (k + 1)) (omega arith) (omega arith) ec
        ∙ by_one (k + 3) (k + 4) d (nearer_of (nearer_of (nearer_of s a k) b (k + 1)) c (k + 2)) (omega arith) (omega arith) ed

    -- none of the four is less
    pub by_four_farther : (lt a s.least || (lt b s.least || (lt c s.least || lt d s.least))) ≡ false → on_from f n k s ≡ on_from f n (k + 4) s
    by_four_farther t =
        let u = neither (lt a s.least) _ t in
        let v = neither (lt b s.least) _ u.1 in
        let w = neither (lt c s.least) _ v.1 in
        by_four ∙ ap (on_from f n (k + 4)) (rw (keeps s a k u.0, keeps s b (k + 1) v.0, keeps s c (k + 2) w.0, keeps s d (k + 3) w.1))
