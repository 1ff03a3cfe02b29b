-- The size of an f32, and the larger of two. Assumes nothing.
use Rattle.std.proofs.Common.{◌≡◌, true, false, T, sym, refl, subst, true≢false}
use lib.Ieee.{Float, nan, inf, fin, lt, ne, is_nan}
use lib.Ieee.Compare.{differs_from_itself}
use Rattle.std.specs.Float.{float_with_sign}
use Rattle.quantiser.specs.Quantise.{f1e_9, abs_f, max_f}

pub abs_is : (x : Float) → float_with_sign false x ≡ abs_f x
unfolding float_with_sign abs_f
abs_is nan = refl
abs_is (inf s) = refl
abs_is (fin s m e) = refl

-- ---- a.max(1e-9)
pub max_low : (a : Float) → lt a f1e_9 ≡ true → f1e_9 ≡ max_f a f1e_9
max_low a h = rw h

pub max_nan : (a : Float) → ne a a ≡ true → f1e_9 ≡ max_f a f1e_9
unfolding lt is_nan
max_nan a h = rw (differs_from_itself a (subst T (sym h) tt))

pub max_same : (a : Float) → lt a f1e_9 ≡ false → ne a a ≡ false → a ≡ max_f a f1e_9
unfolding is_nan ne
max_same nan l h = absurd (true≢false h)
max_same (inf s) l h = rw l
max_same (fin s m e) l h = rw l
