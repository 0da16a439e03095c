-- One end of a list is written.
use Rattle.std.proofs.Common.{◌≡◌, ◌≢◌, ℕ, zero, suc, ◌<◌, List, [], ◌∷◌, length, get_or, Some, refl, arith, slice_get}
use Rattle.std.proofs.Math.ListN.{set}
use Rattle.std.proofs.lemmas.Option.{slice_get-get_or}
use Rattle.bus_core.specs.Places.{OneChanged}

written : {X : Type 0} (xs : List X) (place : ℕ) (y : X) → place < length xs → slice_get (set xs place y) place ≡ Some y
written [] place y within = absurd (omega arith)
written (x ∷ xs) zero y within = refl
written (x ∷ xs) (suc place) y within = written xs place y (omega arith)

kept : {X : Type 0} (xs : List X) (place n : ℕ) (y : X) → n ≢ place → slice_get (set xs place y) n ≡ slice_get xs n
kept [] place n y apart = refl
kept (x ∷ xs) zero zero y apart = absurd (apart refl)
kept (x ∷ xs) zero (suc n) y apart = refl
kept (x ∷ xs) (suc place) zero y apart = refl
kept (x ∷ xs) (suc place) (suc n) y apart = kept xs place n y (omega arith)

pub one_written : {X : Type 0} (xs : List X) (place : ℕ) (y d : X) → place < length xs → OneChanged place xs (set xs place y) (get_or xs place d) y
one_written xs place y d within =
    record { was = slice_get-get_or xs place d within; is = written xs place y within; others = λ n apart. kept xs place n y apart }
