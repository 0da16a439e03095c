-- What holds at a place of a list.
use Rattle.std.proofs.Common.{◌≡◌, ℕ, zero, suc, List, [], ◌∷◌, Some, subst}
use Rattle.std.specs.Prelude.{slice_get}
use Rattle.std.specs.List.{AllByRecursion}

-- what holds of each element, holds of the one at a place
pub each_at : {X : Type 0} (P : X → Type 0) (xs : List X) (index : ℕ) (x : X) → AllByRecursion P xs → slice_get xs index ≡ Some x → P x
each_at P [] index x each found = cc
each_at P (y ∷ ys) zero x each found = let same : y ≡ x = cc in subst P same each.0
each_at P (y ∷ ys) (suc index) x each found = each_at P ys index x each.1 found
