-- One record more stands behind those before it.
use Rattle.std.proofs.Common.{◌≡◌, ℕ, ◌++◌, Bool, List, [], ◌∷◌, length, refl, sym, ap, ◌∙◌, subst, rules, append-nil}
use Rattle.std.specs.List.{concat}
use Rattle.std.specs.Io.KnownBytes.{Consumes}
use Rattle.std.specs.declared.option.Option.{Option}
use Rattle.std.proofs.KnownBytes.{Consumes-nil, Consumes-trans}
use Rattle.std.proofs.lemmas.Fn.{FoldsTo-push}
use Rattle.std.proofs.lemmas.List.Folds.{concat-append}
use Rattle.std.proofs.lemmas.List.Elements.{All-nil, All-push}
use Rattle.records.specs.declared.Count.{Count}
use Rattle.records.specs.Records.{at8, new_count, count_after, IsReplayed}
use Rattle.records.proofs.replay_from.Goals as goal

none : (Right : List ℕ → Bool → Type 0) (n : ℕ) (bytes : Option (List ℕ)) (c : Count) → c ≡ new_count 0 → IsReplayed Right n bytes bytes c
none Right n bytes c new = record { records = []; long = All-nil _; first = Consumes-nil bytes; counted = sym new }

one_more : (Right : List ℕ → Bool → Type 0) (n : ℕ) (bytes rest after : Option (List ℕ)) (c d : Count) (r : List ℕ) (ok : Bool)
    → IsReplayed Right n bytes rest c → length r ≡ n → Consumes rest after r → Right r ok → d ≡ count_after c (at8 r 0) ok
    → IsReplayed Right n bytes after d
one_more Right n bytes rest after c d r ok before long read right counted = record {
  records = before.records ++ (r ∷ []);
  long = All-push (λ x. length x ≡ n) before.records r before.long long;
  first = subst (Consumes bytes after) (sym (concat-append before.records (r ∷ []) ∙ ap (λ l. concat before.records ++ l) (append-nil r)))
      (Consumes-trans _ _ _ _ _ before.first read);
  counted = FoldsTo-push _ _ before.records _ r _ before.counted (ok, right, counted);
}

pub loop-init : goal.loop-init
loop-init g c = none _ _ _ _ c.new_count-c.ensures

pub loop-preserved : goal.loop-preserved
loop-preserved g c =
    one_more _ _ _ _ _ _ _ c.next.new.r c.right.result c.loop.invariant (search rules) c.if-not-next.ensures
    (_, refl, c.right.ensures) c.counted-c.ensures
