-- Row, bins and vectors are allowed exactly when none of causes 1 to 5 holds of them. Assumes nothing.
use Prim.Native.Nat.{ℕ}
use mathlib.Core.Path.{◌≡◌, sym, ◌∙◌}
use mathlib.Core.List.{List}
use mathlib.Core.Logic.{◌↔◌}
use native.Mathlib.Nat.{pos_of_ne-zero}
use lib.Ieee.{Float}
use Rattle.std.specs.Prelude.{None}
use Rattle.answers.proofs.Numbers.{no_number}
use Rattle.channel.proofs.Over.{none_there}
use Rattle.channel.proofs.Rows.{known_hebap}
use Rattle.planner.specs.Planning.{too_large_at, cause_of}
use Rattle.planner.proofs.Answer.{cause_none, refusal_is}
use Rattle.writer.proofs.Channel.{six_fine}
use Rattle.promise3.specs.Promise.{Allowed}
use Rattle.promise3.proofs.Plans.{given}

module _ (row : List ℕ) (start end : ℕ) (x : List Float) where
  pub cause_allowed : cause_of row start end x ≡ None → Allowed row start end x
  cause_allowed h =
      let c = cause_none row start end x h in
      let w = c.0.row_ok in
      record {
        ordered = w.ordered;
        few = w.few;
        rows = w.rows;
        vectors = c.0.vectors;
        known = λ k l u. known_hebap row start end k w.known l u;
        components = λ k l u n. six_fine row x k (none_there (too_large_at row x) start end c.1 k l u) (pos_of_ne-zero n);
      }

  -- Allowed exactly when none of causes 1 to 5 holds.
  pub allowed_exactly : Allowed row start end x ↔ (cause_of row start end x ≡ None)
  allowed_exactly = (λ a. no_number (cause_of row start end x) (sym (refusal_is row start end x) ∙ given row start end x a), cause_allowed)
