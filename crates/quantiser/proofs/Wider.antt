-- What the quantiser answered at a limit, it answers at a wider one. Assumes nothing.
use Rattle.std.proofs.Common.{ℕ, ◌≤◌, List, refl, inl, arith}
use lib.Ieee.{Float}
use Rattle.std.specs.Prelude.{Ok, Err}
use Rattle.answers.specs.Answers.{answer_number}
use Rattle.answers.specs.declared.Refusal.TheVariants.{Component, NoQuantiser}
use Rattle.levels.specs.Component.{beyond, some_beyond, Widened}
use Rattle.levels.proofs.Wider.{wider, all_wider, tested}
use Rattle.quantiser.specs.Quantise.{allowed, picked, code_level, bin_picked, quantised_up_to, quantised_bin_up_to}

-- quantise_scalar
pub scalar_widened : (l l' : ℕ) → l ≤ l' → (h g : ℕ) (x : Float) → Widened answer_number (beyond l' x) (quantised_up_to l h g x) (quantised_up_to l' h g x)
unfolding quantised_up_to
scalar_widened l l' w h g x =
    tested answer_number (Err Component) (Ok (code_level (picked h g x))) (Err NoQuantiser)
    refl (inl refl) (λ e. omega arith) (allowed h g) (beyond l x) (beyond l' x) (wider l l' w x)

-- quantise_bin
pub bin_widened : (l l' : ℕ) → l ≤ l' → (h g : ℕ) (x : List Float) → Widened answer_number (some_beyond l' x) (quantised_bin_up_to l h g x) (quantised_bin_up_to l' h g x)
unfolding quantised_bin_up_to
bin_widened l l' w h g x =
    tested answer_number (Err Component) (Ok (bin_picked h g x)) (Err NoQuantiser)
    refl (inl refl) (λ e. omega arith) (allowed h g) (some_beyond l x) (some_beyond l' x) (all_wider l l' w x)
