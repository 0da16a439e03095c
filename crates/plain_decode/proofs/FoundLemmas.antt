-- What holds of each element holds of the one that is found.
use Rattle.std.proofs.Common.{◌≡◌, Bool, true, false, cond, List, [], ◌∷◌, Some, subst, All}
use Rattle.std.proofs.lemmas.List.Elements.{All-head, All-tail}
use Rattle.std.specs.List.{find}

pub found_is : {X : Type 0} (P : X → Type 0) (test : X → Bool) (xs : List X) (y : X) → All P xs → find test xs ≡ Some y → P y
found_is P test [] y all some = cc
found_is P test (x ∷ xs) y all some =
    let Q : Bool → Type 0 = λ b. cond b (Some x) (find test xs) ≡ Some y → P y in
    (elim (test x) as Q [
      | true ↦ λ here. let same : x ≡ y = cc in subst P same (All-head P x xs all)
      | false ↦ λ later. found_is P test xs y (All-tail P x xs all) later
    ]) some
