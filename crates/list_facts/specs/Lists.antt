-- Words on lists that the standard library lacks.
use Rattle.std.specs.Prelude.{ℕ, Bool, ◌+◌, List, [], ◌∷◌, Option, Some, None, max, if◌then◌else◌, slice_get}
use Rattle.std.proofs.Math.ListN.{set}

-- the list without the first element that passes
abbrev pub less : {X : Type 0} → (X → Bool) → List X → List X
less test [] = []
less test (x ∷ xs) = if test x then xs else x ∷ less test xs

-- the sum of the weights of its elements
abbrev pub total : {X : Type 0} → (X → ℕ) → List X → ℕ
total weight [] = 0
total weight (x ∷ xs) = weight x + total weight xs

-- the greatest weight of an element, 0 where there is none
abbrev pub greatest : {X : Type 0} → (X → ℕ) → List X → ℕ
greatest weight [] = 0
greatest weight (x ∷ xs) = max (weight x) (greatest weight xs)

-- the elements that stand before the first that passes; all of them where none does
abbrev pub before : {X : Type 0} → (X → Bool) → List X → List X
before test [] = []
before test (x ∷ xs) = if test x then [] else x ∷ before test xs

-- a list with what it has at a place changed, if it has that
abbrev pub changed_with : {X : Type 0} → (X → X) → List X → ℕ → Option X → List X
changed_with f xs place None = xs
changed_with f xs place (Some x) = set xs place (f x)

-- a list with what is at a place changed, where there is a place
abbrev pub changed_at : {X : Type 0} → (X → X) → List X → Option ℕ → List X
changed_at f xs None = xs
changed_at f xs (Some place) = changed_with f xs place (slice_get xs place)
