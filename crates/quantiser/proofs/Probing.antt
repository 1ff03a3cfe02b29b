-- A probe and the search of three, and how far they reach. Assumes nothing.
use Rattle.std.proofs.Common.{◌≡◌, ℕ, Bool, true, false, cond, ℤ, pos, ◌+ℤ◌, ◌-ℤ◌}
use lib.Ieee.{Float, binary32, sub, lt}
use Rattle.quantiser.specs.Quantise.{infinity, clamp_z, abs_f, value_at, probed, best_of}
use Rattle.quantiser.specs.declared.Best.{Best}

module _ (h g n : ℕ) (lo hi : ℤ) (x : Float) where
  pub probed_is : (z k : ℤ) (v e : Float) (b : Best) (t : Bool) → k ≡ clamp_z lo hi z → v ≡ value_at h g n k → e ≡ abs_f (sub binary32 v x) → lt e b.e ≡ t
      → cond t (record { k = k; e = e }) b ≡ probed h g n lo hi x z b
  unfolding probed
  probed_is z k v e b t p q r s = cc

  -- what holds of the start and of whatever is held to the range
  module _ (P : ℤ → Type 0) (held : (z : ℤ) → P (clamp_z lo hi z)) where
    probed_keeps : (z : ℤ) (b : Best) → P b.k → P (probed h g n lo hi x z b).k
    unfolding probed
    probed_keeps z b p = go (lt (abs_f (sub binary32 (value_at h g n (clamp_z lo hi z)) x)) b.e)
      where
        go : (t : Bool) → P (cond t (record { k = clamp_z lo hi z; e = abs_f (sub binary32 (value_at h g n (clamp_z lo hi z)) x) }) b).k
        go true = held z
        go false = p

    pub best_keeps : (start est : ℤ) → P start → P (best_of h g n lo hi x start est)
    unfolding best_of
    best_keeps start est p =
        let b₀ : Best = record { k = start; e = infinity } in
        let b₁ = probed h g n lo hi x (est -ℤ pos 1) b₀ in
        probed_keeps (est +ℤ pos 1) (probed h g n lo hi x est b₁) (probed_keeps est b₁ (probed_keeps (est -ℤ pos 1) b₀ p))

  -- with the ends, the start and the probes as they are read
  pub best_is : (start est lo' hi' start' z₁ z₂ z₃ : ℤ) (b₁ b₂ b₃ : Best) → lo' ≡ lo → hi' ≡ hi → start' ≡ start → z₁ ≡ est -ℤ pos 1 → z₂ ≡ est → z₃ ≡ est +ℤ pos 1
      → b₁ ≡ probed h g n lo' hi' x z₁ (record { k = start'; e = infinity }) → b₂ ≡ probed h g n lo' hi' x z₂ b₁ → b₃ ≡ probed h g n lo' hi' x z₃ b₂
      → b₃.k ≡ best_of h g n lo hi x start est
  unfolding best_of
  best_is start est lo' hi' start' z₁ z₂ z₃ b₁ b₂ b₃ l u s e₁ e₂ e₃ p q r = cc
