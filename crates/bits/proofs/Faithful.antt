-- What a format shows of its values tells them apart.
use mathlib.Core.Path.{◌≡◌, refl, ap}
use mathlib.Core.List.{List, [], ◌∷◌, map}
use Rattle.bits.specs.Format.{Format, each, each_Ok, shows}

abbrev pub Faithful : {A B : Type 0} → Format A → (A → B) → Type 0
Faithful {A} F s = (a a' : A) → F.Ok a → F.Ok a' → s a ≡ s a' → a ≡ a'

module _ {R A B : Type 0} (F : R → Format A) (s : R → A → B) where
  -- of each element of a list
  abbrev pub EachFaithful : List R → Type 0
  EachFaithful [] = Unit {0}
  EachFaithful (r ∷ rs) = Faithful (F r) (s r) × EachFaithful rs

  pub all_faithful : ((r : R) → Faithful (F r) (s r)) → (rs : List R) → EachFaithful rs
  all_faithful f [] = tt
  all_faithful f (r ∷ rs) = (f r, all_faithful f rs)

  pub each_faithful : (rs : List R) → EachFaithful rs → Faithful (each F rs) (shows s rs)
  unfolding each_Ok
  each_faithful [] f [] [] o o' e = refl
  each_faithful [] f [] (y ∷ ys) o o' e = absurd o'
  each_faithful [] f (x ∷ xs) ys o o' e = absurd o
  each_faithful (r ∷ rs) f [] ys o o' e = absurd o
  each_faithful (r ∷ rs) f (x ∷ xs) [] o o' e = absurd o'
  each_faithful (r ∷ rs) f (x ∷ xs) (y ∷ ys) o o' e =
      let h : s r x ≡ s r y = cc in
      let t : shows s rs xs ≡ shows s rs ys = cc in
      cc (f.0 x y o.0 o'.0 h, each_faithful rs f.1 xs ys o.1 o'.1 t)

-- Where all elements are shown alike, a list of them shows the list of what each shows.
pub shows_map : {R A B : Type 0} (F : R → Format A) (s : A → B) (rs : List R) (xs : List A) → (each F rs).Ok xs → shows (λ r. s) rs xs ≡ map s xs
unfolding each_Ok
shows_map F s [] [] o = refl
shows_map F s [] (x ∷ xs) o = absurd o
shows_map F s (r ∷ rs) [] o = absurd o
shows_map F s (r ∷ rs) (x ∷ xs) o = ap (λ l. s x ∷ l) (shows_map F s rs xs o.1)
