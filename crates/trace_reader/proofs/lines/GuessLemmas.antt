-- Guesses that are right of their own names.
use Rattle.std.proofs.Common.{◌≡◌, ℕ, zero, suc, refl, ◌<◌, Bool, true, List, Bor, length, get_or, get_or-set_same, get_or-set_other, Option, Some, None, inl, inr, ap, sym, subst, ◌∙◌}
use Rattle.std.specs.Prelude.{IfSome, replicate}
use Rattle.std.specs.Str.{bytes_eq}
use Rattle.std.proofs.Math.ListN.{set}
use Rattle.std.proofs.lemmas.Bool.{cases_eq}
use Rattle.std.proofs.lemmas.Slice.Eq.{bytes_eq-Decides}
use Rattle.trace_reader.specs.lines.Names.{Places, Guesses, AreRight, place_of}

-- a guess, if there is one, is right
abbrev pub IsRight : Places → Option (Bor (List ℕ) × ℕ) → Type 0
IsRight places guess = IfSome guess (λ g. place_of places g.0.now ≡ Some g.1)

abbrev no_guess : Option (Bor (List ℕ) × ℕ)
no_guess = None

none_there : (n at : ℕ) → get_or (replicate n no_guess) at None ≡ None
none_there zero at = refl
none_there (suc n) zero = refl
none_there (suc n) (suc at) = none_there n at

pub none_right : (places : Places) (n : ℕ) → AreRight places (replicate n None)
none_right places n at = subst (IsRight places) (sym (none_there n at)) tt

-- one guess more
pub more_right : (places : Places) (guesses : Guesses) (place : ℕ) (name : Bor (List ℕ)) (i : ℕ) → i < length guesses → place_of places name.now ≡ Some place → AreRight places guesses → AreRight places (set guesses i (Some (name, place)))
more_right places guesses place name i within right so_far at =
    elim (cases_eq at i) as (λ _. IsRight places (get_or (set guesses i (Some (name, place))) at None)) [
      | inl same ↦
          let there : get_or (set guesses i (Some (name, place))) i None ≡ Some (name, place) = get_or-set_same guesses i (Some (name, place)) None within in
          let here : get_or (set guesses i (Some (name, place))) at None ≡ Some (name, place) = ap (λ (n : ℕ). get_or (set guesses i (Some (name, place))) n None) same ∙ there in
          subst (IsRight places) (sym here) right
      | inr apart ↦
          let other : get_or (set guesses i (Some (name, place))) at None ≡ get_or guesses at None = get_or-set_other guesses i at (Some (name, place)) None apart in
          subst (IsRight places) (sym other) (so_far at)
    ]

-- a guess that has the name of a word is right of the word
pub guess_holds : (places : Places) (guesses : Guesses) (at place : ℕ) (name : Bor (List ℕ)) (word : List ℕ) (same : Bool) → AreRight places guesses → get_or guesses at None ≡ Some (name, place) → same ≡ bytes_eq name.now word → same ≡ true → place_of places word ≡ Some place
guess_holds places guesses at place name word same right there told is =
    let one : name.now ≡ word = (bytes_eq-Decides name.now word).0 (sym told ∙ is) in
    let holds : place_of places name.now ≡ Some place = subst (IsRight places) there (right at) in
    ap (place_of places) (sym one) ∙ holds
