-- Fields in any two buffers, at any positions, are equal exactly when what is read of them is. Assumes nothing.
use Prim.Native.Nat.{ℕ, ◌+◌, ◌-◌}
use mathlib.Core.Path.{◌≡◌, sym, ap, ◌∙◌}
use mathlib.Core.List.{List}
use mathlib.Core.Bool.{Bool}
use mathlib.Core.Logic.{◌↔◌}
use native.Mathlib.Omega.{arith}
use lib.ListN.{length, length-append, take, drop}
use Rattle.bits.specs.Bits.{bits_of}
use Rattle.bits.specs.Format.{got}
use Rattle.bits.proofs.Lawful.{taken, same_shown}
use Rattle.channel.specs.Field.{Coder, Channel, field_by}
use Rattle.channel.specs.Shown.{field_at}
use Rattle.channel.proofs.Laws.{CoderLaws, field_lawful}

module _ (F : Coder) (laws : CoderLaws F) (row : List ℕ) (start end : ℕ) where
  -- reading takes the bits of what is read
  pub field_used : (bs rest : List Bool) (c : Channel) → (field_by F row start end).dec bs ≡ got c rest → length bs - length rest ≡ length ((field_by F row start end).enc c)
  field_used bs rest c e =
      let s = (field_lawful F laws row start end).sole bs rest c e in
      let l : length bs ≡ length ((field_by F row start end).enc c) + length rest = ap length s.0 ∙ length-append ((field_by F row start end).enc c) rest in
      omega arith

  -- the bits of the field that is read at a position
  abbrev pub field_in : List ℕ → ℕ → Channel → List Bool
  field_in s at c = field_at s at (length ((field_by F row start end).enc c))

  pub fields_same : (s s' : List ℕ) (at at' : ℕ) (c c' : Channel) (rest rest' : List Bool)
      → (field_by F row start end).dec (drop at (bits_of s)) ≡ got c rest → (field_by F row start end).dec (drop at' (bits_of s')) ≡ got c' rest'
      → (field_in s at c ≡ field_in s' at' c') ↔ (c ≡ c')
  fields_same s s' at at' c c' rest rest' e e' =
      let bs = drop at (bits_of s) in
      let bs' = drop at' (bits_of s') in
      let p : taken bs rest ≡ field_in s at c = ap (λ (n : ℕ). take n bs) (field_used bs rest c e) in
      let p' : taken bs' rest' ≡ field_in s' at' c' = ap (λ (n : ℕ). take n bs') (field_used bs' rest' c' e') in
      let f = same_shown (field_by F row start end) (field_lawful F laws row start end) bs bs' rest rest' c c' e e' in
      (λ q. f.0 (p ∙ q ∙ sym p'), λ q. sym p ∙ f.1 q ∙ p')
