-- Formats: how values stand as bits, and what is read of bits.
use Rattle.std.specs.Prelude.{ℕ, ◌-◌, ◌<◌, ◌^◌, ◌≡◌, List, [], ◌∷◌, ◌++◌, Bool, cond, length, take, drop, leb, T, Option, None, Some, Result, Ok, Err}
use Rattle.bits.specs.Bits.{bits_n, number_of, bit_at, pos_of}
use Rattle.bits.specs.declared.BitPos.{BitPos}
use Rattle.answers.specs.declared.Refusal.{Refusal}
use Rattle.answers.specs.declared.Refusal.TheVariants.{InputEnds}

-- what reading finds: a value and the bits after it, or why it is refused
pub data Got (A : Type 0) : Type 0 where
  got : A → List Bool → Got A
  refused : Refusal → Got A

abbrev pub and_then : {A B : Type 0} → Got A → (A → List Bool → Got B) → Got B
and_then (got a rest) f = f a rest
and_then (refused n) f = refused n

-- what is read where no cause stands before it
abbrev pub unless : {A : Type 0} → Option Refusal → Got A → Got A
unless None G = G
unless (Some k) G = refused k

-- a format: which values it has, their bits, and how they are read
pub record Format (A : Type 0) : Type 1 where
  pub Ok : A → Type 0
  pub enc : A → List Bool
  pub dec : List Bool → Got A

-- a number of n bits; 8 where fewer are left
unfoldable pub number : ℕ → Format ℕ
number n =
    record {
      Ok = λ v. v < 2 ^ n;
      enc = λ v. bits_n n v;
      dec = λ bs. cond (leb n (length bs)) (got (number_of (take n bs)) (drop n bs)) (refused InputEnds);
    }

-- what an answer of read_u32 shows of the bits bs: the number and the bits behind it, or the refusal
abbrev pub number_in : List Bool → Result (ℕ × BitPos) Refusal → Got ℕ
number_in bs (Ok r) = got r.0 (drop (bit_at r.1) bs)
number_in bs (Err k) = refused k

-- nothing is written, and one value shown
abbrev pub only : {A : Type 0} → A → Format A
only a = record { Ok = λ b. b ≡ a; enc = λ b. []; dec = λ bs. got a bs }

-- one after the other; the second's format goes by the first's value
abbrev pub both : {A B : Type 0} → Format A → (A → Format B) → Format (A × B)
both F G =
    record {
      Ok = λ p. F.Ok p.0 × (G p.0).Ok p.1;
      enc = λ p. F.enc p.0 ++ (G p.0).enc p.1;
      dec = λ bs. and_then (F.dec bs) (λ a rest. and_then ((G a).dec rest) (λ b rest'. got (a, b) rest'));
    }

-- values that pass a test; the refusal k where one does not
abbrev pub tested : {A : Type 0} → Format A → (A → Bool) → Refusal → Format A
tested F ok k =
    record {
      Ok = λ a. F.Ok a × T (ok a);
      enc = F.enc;
      dec = λ bs. and_then (F.dec bs) (λ a rest. cond (ok a) (got a rest) (refused k));
    }

-- the same bits, shown as something else
abbrev pub shown : {A B : Type 0} → Format A → (A → B) → (B → A) → Format B
shown F f g =
    record {
      Ok = λ b. F.Ok (g b) × (f (g b) ≡ b);
      enc = λ b. F.enc (g b);
      dec = λ bs. and_then (F.dec bs) (λ a rest. got (f a) rest);
    }

-- one for each element of a list
module _ {R A : Type 0} (F : R → Format A) where
  unfoldable pub each_Ok : List R → List A → Type 0
  each_Ok [] [] = Unit {0}
  each_Ok [] (a ∷ xs) = ⊥
  each_Ok (r ∷ rs) [] = ⊥
  each_Ok (r ∷ rs) (a ∷ xs) = (F r).Ok a × each_Ok rs xs

  unfoldable pub each_enc : List R → List A → List Bool
  each_enc [] xs = []
  each_enc (r ∷ rs) [] = []
  each_enc (r ∷ rs) (a ∷ xs) = (F r).enc a ++ each_enc rs xs

  unfoldable pub each_dec : List R → List Bool → Got (List A)
  each_dec [] bs = got [] bs
  each_dec (r ∷ rs) bs = and_then ((F r).dec bs) (λ a rest. and_then (each_dec rs rest) (λ xs rest'. got (a ∷ xs) rest'))

  abbrev pub each : List R → Format (List A)
  each rs = record { Ok = each_Ok rs; enc = each_enc rs; dec = each_dec rs }

-- what each element of a list shows
abbrev pub shows : {R A B : Type 0} → (R → A → B) → List R → List A → List B
shows s [] xs = []
shows s (r ∷ rs) [] = []
shows s (r ∷ rs) (x ∷ xs) = s r x ∷ shows s rs xs

-- the answer of a call that moves a position over what is read of n bits: the position behind it, or the refusal
abbrev pub move_answer : {A : Type 0} → ℕ → Got A → Result BitPos Refusal
move_answer n (got a rest) = Ok (pos_of (n - length rest))
move_answer n (refused k) = Err k
