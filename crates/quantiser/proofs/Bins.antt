-- A bin, a component at a time: the values with their bits and errors. Assumes nothing.
use Rattle.std.proofs.Common.{◌≡◌, ℕ, ◌+◌, ◌*◌, ◌<◌, ◌≤◌, eqb, List, [], ◌∷◌, length, get_or, take, drop, set, sym, refl, ap, ◌∙◌, add-one, arith, length-set, take_all, drop-cons, take-suc, take-suc-set}
use mathlib.Core.List.{map-append}
use lib.Ieee.{Float, binary32, add, sub, mul}
use lib.Seq.{drop-length}
use Rattle.tables.proofs.Rules.{mant_bits_lem}
use Rattle.tables.specs.Tables.{mant_bits}
use Rattle.levels.specs.Codes.{small_bits, large_bits, code_bits}
use Rattle.levels.specs.Value.{f0, value_in}
use Rattle.levels.specs.declared.Code.{Code}
use Rattle.levels.proofs.Signed.{by_test, small_width, large_width}
use Rattle.quantiser.specs.Quantise.{picked, code_level, bin_values, codes_bits, error_from}
use Rattle.quantiser.specs.declared.CodeLevel.{CodeLevel}

-- ---- a bin's bits are few
module _ (h g : ℕ) (l : 8 ≤ h) (u : h ≤ 19) where
  code_most : (c : Code) → code_bits (mant_bits h) g c ≤ 32
  code_most (Code.Small s) = let m = mant_bits_lem h l u in let w = small_width (mant_bits h) g m.0 m.1 in omega arith
  code_most (Code.Large n) =
      let m = mant_bits_lem h l u in
      let a = small_width (mant_bits h) g m.0 m.1 in
      let b = large_width (mant_bits h) g m.0 m.1 in
      by_test (λ (w : ℕ). w ≤ 32) (eqb g 1) (mant_bits h) (small_bits (mant_bits h) g + large_bits (mant_bits h) g) (omega arith) (omega arith)

  pub bits_most : (xs : List Float) → codes_bits h g xs ≤ 32 * length xs
  unfolding codes_bits
  bits_most [] = omega arith
  bits_most (x ∷ xs) = let a = code_most (picked h g x).0 in let b = bits_most xs in omega arith

-- ---- the first j components are done
pub record Done (h g : ℕ) (xs ys : List Float) (n : ℕ) (e : Float) (j : ℕ) : Type 0 where
  pub within : j ≤ length xs
  pub long : length ys ≡ length xs
  pub values : take j ys ≡ bin_values h g (take j xs)
  pub bits : n + codes_bits h g (drop j xs) ≡ codes_bits h g xs
  pub err : error_from h g e (drop j xs) ≡ error_from h g f0 xs

module _ (h g : ℕ) (xs ys : List Float) where
  pub done_none : length ys ≡ length xs → Done h g xs ys 0 f0 0
  done_none e = record { within = omega arith; long = e; values = refl; bits = omega arith; err = refl }

  pub done_all : (n : ℕ) (e : Float) (j : ℕ) → Done h g xs ys n e j → length xs ≤ j → (ys ≡ bin_values h g xs) × (n ≡ codes_bits h g xs) × (e ≡ error_from h g f0 xs)
  unfolding codes_bits error_from
  done_all n e j i u =
      let w = i.within in
      let k : j ≡ length xs = omega arith in
      let o = i.long in
      let d : drop j xs ≡ [] = rw (k, drop-length xs) in
      let b = rw d at i.bits in (
        sym (take_all j ys (omega arith)) ∙ i.values ∙ ap (bin_values h g) (take_all j xs u),
        omega arith,
        rw d at i.err,
      )

  module _ (n : ℕ) (e : Float) (j : ℕ) (d : Float) (i : Done h g xs ys n e j) (less : j < length xs) (p : CodeLevel) (y : Float) (b : ℕ)
      (pp : p ≡ code_level (picked h g (get_or xs j d))) (yy : y ≡ value_in p.level) (bb : b ≡ code_bits (mant_bits h) g p.code) where
    abbrev diff : Float
    diff = sub binary32 y (get_or xs j d)

    pub done_more : Done h g xs (set ys j y) (n + b) (add binary32 e (mul binary32 diff diff)) (j + 1)
    unfolding codes_bits error_from
    done_more =
        let k : b ≡ code_bits (mant_bits h) g (picked h g (get_or xs j d)).0 = rw pp at bb in
        let v : y ≡ value_in (picked h g (get_or xs j d)).1 = rw pp at yy in
        let o = i.long in
        let l : j < length ys = omega arith in
        let c = rw (drop-cons xs j d less) at i.bits in
        record {
          within = omega arith;
          long = length-set ys j y ∙ o;
          values = rw (add-one j, take-suc-set ys j y l, take-suc xs j d less, map-append (λ (x : Float). value_in (picked h g x).1) (take j xs) (get_or xs j d ∷ []), i.values, v);
          bits = rw (add-one j) (omega arith);
          err = rw (add-one j, v) (rw (drop-cons xs j d less) at i.err);
        }
