-- Places of bridges, and what changes at one place of a list.
use Rattle.std.proofs.Common.{◌≡◌, ◌≢◌, ℕ, Bool, true, ◌<◌, ◌==◌, length, List, Option, None, Some, refl, sym, ap, subst, ◌∙◌, arith, inl, inr, get_or}
use Rattle.std.specs.Prelude.{slice_get}
use Rattle.std.specs.List.{position_or_len}
use Rattle.std.proofs.lemmas.Bool.{ltb-true}
use Rattle.std.proofs.lemmas.Bool.Decides.{nat_tests}
use Rattle.std.proofs.lemmas.Option.{cond_some}
use Rattle.std.proofs.lemmas.List.Quantifiers.{position-Some}
use Rattle.std.proofs.lemmas.Option.{slice_get_within, slice_get_cases}
use Rattle.circular_buffer.proofs.Places.{slice_get-set_same, slice_get-set_other}
use Rattle.board_model.specs.declared.bridge.Bridge.{Bridge}
use Rattle.board_model.specs.declared.board.Board.{Board}
use Rattle.judge_state.specs.State.{place_of}
use Rattle.list_facts.specs.Lists.{changed_at, changed_with}

-- the bridge at the place of a bus is the bridge to that bus
pub place_has : (board : Board) (bus place : ℕ) → place_of board bus ≡ Some place → (bridge : Bridge) × (slice_get board.bridges place ≡ Some bridge) × (bridge.bus ≡ bus)
place_has board bus place at =
    let test : Bridge → Bool = λ bridge. bridge.bus == bus in
    let bridges : List Bridge = board.bridges in
    elim (slice_get_cases bridges place).1 as (λ _. (bridge : Bridge) × (slice_get bridges place ≡ Some bridge) × (bridge.bus ≡ bus)) [
      | inl there ↦
          let bridge : Bridge = there.0 in
          let passes : test (get_or bridges place bridge) ≡ true = (position-Some test bridges place bridge at).1 in
          let same : test bridge ≡ true = subst (λ (b : Bridge). test b ≡ true) there.3 passes in
          (bridge, there.2, grind (arith, nat_tests))
      | inr past ↦
          let found = cond_some _ _ _ at in
          let within : position_or_len test bridges < length bridges = ltb-true (position_or_len test bridges) (length bridges) found.0 in
          absurd (omega (arith, found.1, past.0))
    ]

-- no two buses have one place
pub places_apart : (board : Board) (bus other place : ℕ) → place_of board bus ≡ Some place → place_of board other ≡ Some place → bus ≡ other
places_apart board bus other place at too =
    let one = place_has board bus place at in
    let two = place_has board other place too in
    let bridges : one.0 ≡ two.0 = let a = one.1 in let b = two.1 in cc in
    sym one.2 ∙ ap (λ (b : Bridge). b.bus) bridges ∙ two.2

pub changed_same : {X : Type 0} (f : X → X) (xs : List X) (place : ℕ) (x : X) → slice_get xs place ≡ Some x → slice_get (changed_at f xs (Some place)) place ≡ Some (f x)
changed_same f xs place x at =
    rw at (slice_get-set_same xs place (f x) (slice_get_within xs place x at))

pub changed_other : {X : Type 0} (f : X → X) (xs : List X) (place other : ℕ) → other ≢ place → slice_get (changed_at f xs (Some place)) other ≡ slice_get xs other
changed_other {X = X} f xs place other apart =
    let P : Option X → Type 0 = λ x. slice_get (changed_with f xs place x) other ≡ slice_get xs other in
    elim (slice_get xs place) as P [ None ↦ refl | Some x ↦ slice_get-set_other xs place other (f x) apart ]
