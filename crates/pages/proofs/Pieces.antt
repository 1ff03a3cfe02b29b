-- Pieces of one length, laid end to end. Assumes nothing.
use Prim.Native.Nat.{ℕ, zero, suc, ◌+◌, ◌-◌, ◌*◌, ◌≤◌, ◌<◌}
use mathlib.Core.Path.{◌≡◌, refl, sym, ap, ◌∙◌}
use mathlib.Core.List.{List, ◌++◌, append_assoc, append-nil}
use native.Mathlib.Omega.{arith}
use native.Mathlib.Nat.{mul-zero, mul-suc}
use lib.ListN.{length, take, drop, length-append, length-drop, take-append-drop}
use lib.Seq.{length-take-le, drop-drop, drop_at}
use Rattle.bits.specs.Bits.{splice}
use Rattle.bits.proofs.Laws.{splice_at}
use Rattle.channel.specs.Bins.{from}
use Rattle.channel.specs.Shown.{joined}

-- ---- any pieces
pub same_pieces : (f g : ℕ → List ℕ) (k n : ℕ) → ((j : ℕ) → k ≤ j → j < k + n → f j ≡ g j) → from f k n ≡ from g k n
unfolding from
same_pieces f g k zero e = refl
same_pieces f g k (suc n) e = rw (e k (omega arith) (omega arith), same_pieces f g (suc k) n (λ j l u. e j (omega arith) (omega arith)))

-- those before the piece i, it, and those behind it
pub parted : (f : ℕ → List ℕ) (k n i : ℕ) → i < n → joined (from f k n) ≡ joined (from f k i) ++ (f (k + i) ++ joined (from f (k + suc i) (n - suc i)))
unfolding from joined
parted f k zero i l = absurd (omega arith)
parted f k (suc n) zero l =
    let a : k + 0 ≡ k = omega arith in
    let b : k + 1 ≡ suc k = omega arith in
    let c : suc n - 1 ≡ n = omega arith in
    rw (a, b, c)
parted f k (suc n) (suc i) l =
    let a : suc k + i ≡ k + suc i = omega arith in
    let b : suc k + suc i ≡ k + suc (suc i) = omega arith in
    let c : suc n - suc (suc i) ≡ n - suc i = omega arith in
    let r = parted f (suc k) n i (omega arith) in
    rw (r, append_assoc, a, b, c)

-- the last one
pub pieces_last : (f : ℕ → List ℕ) (k n : ℕ) → joined (from f k n) ++ f (k + n) ≡ joined (from f k (suc n))
unfolding from joined
pieces_last f k n =
    let z : suc n - suc n ≡ 0 = omega arith in
    sym (parted f k (suc n) n (omega arith) ∙ ap (λ (m : ℕ). joined (from f k n) ++ (f (k + n) ++ joined (from f (k + suc n) m))) z ∙ ap (λ (s : List ℕ). joined (from f k n) ++ s) (append-nil (f (k + n))))

-- ---- put over a part of what stands in the middle
pub splice_middle : (a m t new : List ℕ) (at : ℕ) → at + length new ≤ length m → splice (a ++ (m ++ t)) (length a + at) new ≡ a ++ (splice m at new ++ t)
unfolding splice
splice_middle a m t new at h =
    let mid = take (length new) (drop at m) in
    let last = drop (at + length new) m in
    let r : drop at m ≡ mid ++ last = sym (take-append-drop (length new) (drop at m)) ∙ ap (λ (l : List ℕ). mid ++ l) (drop-drop (length new) at m) in
    let e : m ≡ take at m ++ (mid ++ last) = sym (take-append-drop at m) ∙ ap (λ (l : List ℕ). take at m ++ l) r in
    let d = length-drop at m in
    let i : length mid ≡ length new = length-take-le (length new) (drop at m) (omega arith) in
    let p : length (a ++ take at m) ≡ length a + at = length-append a (take at m) ∙ ap (λ (k : ℕ). length a + k) (length-take-le at m (omega arith)) in
    let w : a ++ (m ++ t) ≡ (a ++ take at m) ++ (mid ++ (last ++ t)) = ap (λ (l : List ℕ). a ++ (l ++ t)) e ∙ simp append_assoc in
    ap (λ (l : List ℕ). splice l (length a + at) new) w ∙ splice_at (a ++ take at m) mid (last ++ t) new (length a + at) p i ∙ simp append_assoc

-- ---- pieces of w each
module _ (w : ℕ) (f : ℕ → List ℕ) (long : (k : ℕ) → length (f k) ≡ w) where
  pub pieces_length : (k n : ℕ) → length (joined (from f k n)) ≡ w * n
  unfolding from joined
  pieces_length k zero = sym (mul-zero w)
  pieces_length k (suc n) = let m = mul-suc w n in let l = long k in let r = pieces_length (suc k) n in rw (length-append, l, r) (omega arith)

  -- the piece i comes first behind those before it
  pub piece_drop : (k n i : ℕ) (rest : List ℕ) → i < n → drop (w * i) (joined (from f k n) ++ rest) ≡ f (k + i) ++ (joined (from f (k + suc i) (n - suc i)) ++ rest)
  piece_drop k n i rest l = rw (parted f k n i l, append_assoc, drop_at (joined (from f k i)) _ (w * i) (pieces_length k i), append_assoc)

  -- one of them put over in part: g is what stands afterwards
  pub piece_put : (g : ℕ → List ℕ) (k n i at : ℕ) (new rest : List ℕ) → i < n → at + length new ≤ w → g (k + i) ≡ splice (f (k + i)) at new
      → ((j : ℕ) → (j ≡ k + i → ⊥) → f j ≡ g j) → splice (joined (from f k n) ++ rest) (w * i + at) new ≡ joined (from g k n) ++ rest
  piece_put g k n i at new rest l h e same =
      let A = joined (from f k i) in
      let Z = joined (from f (k + suc i) (n - suc i)) in
      let b : joined (from g k i) ≡ A = ap joined (sym (same_pieces f g k i (λ j u v. same j (λ q. omega arith)))) in
      let z : joined (from g (k + suc i) (n - suc i)) ≡ Z = ap joined (sym (same_pieces f g (k + suc i) (n - suc i) (λ j u v. same j (λ q. omega arith)))) in
      let q = long (k + i) in
      let before : joined (from f k n) ++ rest ≡ A ++ (f (k + i) ++ (Z ++ rest)) = ap (λ (s : List ℕ). s ++ rest) (parted f k n i l) ∙ simp append_assoc in
      let after : joined (from g k n) ++ rest ≡ A ++ (splice (f (k + i)) at new ++ (Z ++ rest)) =
      ap (λ (s : List ℕ). s ++ rest) (parted g k n i l) ∙ rw (b, z, e) (simp append_assoc) in
      ap (λ (s : List ℕ). splice s (w * i + at) new) before
      ∙ ap (λ (j : ℕ). splice (A ++ (f (k + i) ++ (Z ++ rest))) (j + at) new) (sym (pieces_length k i))
      ∙ splice_middle A (f (k + i)) (Z ++ rest) new at (omega arith)
      ∙ sym after
