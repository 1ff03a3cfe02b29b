-- What read_u32 answers is what the format of a number reads at the position.
use Prim.Native.Nat.{ℕ, ◌+◌, ◌*◌, ◌-◌, ◌/◌, ◌%◌, ◌≤◌, ◌<◌}
use mathlib.Core.Path.{◌≡◌, refl, sym, ap, ◌∙◌}
use mathlib.Core.List.{List}
use mathlib.Core.Bool.{Bool, true, false}
use mathlib.Core.Logic.{◌⊎◌, inl, inr}
use native.Mathlib.Omega.{arith}
use lib.ListN.{length, take, drop, length-drop, length-append}
use lib.Seq.{drop-drop, drop-append_seam}
use lib.Dec.{leb}
use borrow.Author.Tests.{le-leb, lt-leb, leb-true, leb-false}
use Rattle.bits.specs.Bits.{bits_of, number_of, bit_at, pos_of, read_u32, Inside}
use Rattle.bits.specs.Format.{Format, number, number_in, got}
use Rattle.bits.specs.declared.BitPos.{BitPos}
use Rattle.std.specs.Prelude.{Result, Ok}
use Rattle.answers.specs.declared.Refusal.{Refusal}
use Rattle.bits.proofs.Lawful.{Lawful}
use Rattle.bits.proofs.Laws.{length_bits_of, read_good, read_short}

pub at_pos : (k : ℕ) → bit_at (pos_of k) ≡ k
at_pos k = omega arith

-- the position of the bits that are left
pub pos_is : (s : List ℕ) (p : BitPos) → Inside (8 * length s) p → pos_of (8 * length s - length (drop (bit_at p) (bits_of s))) ≡ p
pos_is s p h =
    let e : 8 * length s - length (drop (bit_at p) (bits_of s)) ≡ bit_at p = rw (length-drop, length_bits_of) (omega arith) in
    let b : bit_at p / 8 ≡ p.byte = omega arith in
    let c : bit_at p % 8 ≡ p.bit = omega arith in
    rw (e, b, c)

module _ (s : List ℕ) (at n : ℕ) (few : n ≤ 32) where
  left : length (drop at (bits_of s)) ≡ 8 * length s - at
  left = length-drop at (bits_of s) ∙ ap (λ (x : ℕ). x - at) (length_bits_of s)

  number_good : at + n ≤ 8 * length s → (number n).dec (drop at (bits_of s)) ≡ number_in (bits_of s) (read_u32 s at n)
  unfolding number
  number_good f =
      let g : n ≤ length (drop at (bits_of s)) = rw left (omega arith) in
      rw (read_good s at n few f, le-leb n (length (drop at (bits_of s))) g, at_pos, drop-drop n at (bits_of s))

  number_short : 8 * length s < at + n → 0 < n ⊎ at ≤ 8 * length s → (number n).dec (drop at (bits_of s)) ≡ number_in (bits_of s) (read_u32 s at n)
  unfolding number
  number_short f o =
      let g : length (drop at (bits_of s)) < n = rw left (less o) in
      rw (read_short s at n few f, lt-leb n (length (drop at (bits_of s))) g)
    where
      less : 0 < n ⊎ at ≤ 8 * length s → 8 * length s - at < n
      less (inl p) = omega arith
      less (inr p) = omega arith

  -- at a position that is not past the end, or for one bit or more
  pub number_read : 0 < n ⊎ at ≤ 8 * length s → (number n).dec (drop at (bits_of s)) ≡ number_in (bits_of s) (read_u32 s at n)
  number_read o = go (leb (at + n) (8 * length s)) refl
    where
      go : (t : Bool) → leb (at + n) (8 * length s) ≡ t → (number n).dec (drop at (bits_of s)) ≡ number_in (bits_of s) (read_u32 s at n)
      go true e = number_good (leb-true _ _ e)
      go false e = number_short (leb-false _ _ e) o

  -- the same, of an answer that a match has taken apart
  pub number_as : 0 < n ⊎ at ≤ 8 * length s → (r u : Result (ℕ × BitPos) Refusal) → r ≡ read_u32 s at n → r ≡ u → (number n).dec (drop at (bits_of s)) ≡ number_in (bits_of s) u
  number_as o r u e f = number_read o ∙ ap (number_in (bits_of s)) (sym e ∙ f)

  -- a position that read_u32 gives is not past the end
  pub next_inside : (v : ℕ) (p : BitPos) → read_u32 s at n ≡ Ok (v, p) → Inside (8 * length s) p
  next_inside v p e = go (leb (at + n) (8 * length s)) refl
    where
      go : (t : Bool) → leb (at + n) (8 * length s) ≡ t → Inside (8 * length s) p
      go true q =
          let f : at + n ≤ 8 * length s = leb-true _ _ q in
          let w : (number_of (take n (drop at (bits_of s))), pos_of (at + n)) ≡ (v, p) = cc (read_good s at n few f) in
          let g : pos_of (at + n) ≡ p = ap (λ (x : ℕ × BitPos). x.1) w in
          rw (← g) (omega arith, omega arith)
      go false q =
          let f : 8 * length s < at + n = leb-false _ _ q in
          let z : ◌≡◌ {A = ℕ} 0 1 = cc (read_short s at n few f) in
          absurd (omega arith)

  -- ---- the same where the position has said by `holds` whether the bits are there
  -- n bits are there
  pub number_there : at + n ≤ 8 * length s → (number n).dec (drop at (bits_of s)) ≡ got (number_of (take n (drop at (bits_of s)))) (drop (bit_at (pos_of (at + n))) (bits_of s))
  number_there f = number_good f ∙ ap (number_in (bits_of s)) (read_good s at n few f)

  pub behind_inside : at + n ≤ 8 * length s → Inside (8 * length s) (pos_of (at + n))
  behind_inside f = (omega arith, omega arith)

-- the position behind what was read, and the bits from there on
pub next_is : {A : Type 0} (F : Format A) → Lawful F → (s : List ℕ) (at : ℕ) (a : A) (rest : List Bool) → at ≤ 8 * length s → F.dec (drop at (bits_of s)) ≡ got a rest
    → let q = pos_of (8 * length s - length rest) in Inside (8 * length s) q × (rest ≡ drop (bit_at q) (bits_of s))
next_is F f s at a rest h e =
    let o = (f.sole (drop at (bits_of s)) rest a e).0 in
    let l : length (drop at (bits_of s)) ≡ length (F.enc a) + length rest = ap length o ∙ length-append (F.enc a) rest in
    let d : length (drop at (bits_of s)) ≡ 8 * length s - at = length-drop at (bits_of s) ∙ ap (λ (k : ℕ). k - at) (length_bits_of s) in
    let k : at + length (F.enc a) ≡ 8 * length s - length rest = omega arith in
    let r : drop (length (F.enc a)) (drop at (bits_of s)) ≡ rest = ap (drop (length (F.enc a))) o ∙ drop-append_seam (F.enc a) rest in (
      (omega arith, omega arith),
      sym r ∙ drop-drop (length (F.enc a)) at (bits_of s) ∙ ap (λ (t : ℕ). drop t (bits_of s)) (k ∙ sym (at_pos (8 * length s - length rest))),
    )
