-- After one more event what is kept of the lanes is what is on them.
use Rattle.std.proofs.Common.{◌≡◌, ◌≢◌, ℕ, Bool, true, false, not, ◌==◌, List, ◌∷◌, Option, None, Some, refl, sym, ap, subst, ◌∙◌, arith, if◌then◌else◌}
use Rattle.std.specs.Prelude.{slice_get}
use Rattle.std.proofs.lemmas.Bool.Decides.{nat_tests}
use Rattle.pci_command.specs.declared.op_id.OpId.{OpId}
use Rattle.pci_command.specs.declared.op_id.Outcome.{Outcome}
use Rattle.board_model.specs.declared.board.Board.{Board}
use Rattle.board_model.specs.declared.bridge.Lane.{Lane as BridgeLane}
use Rattle.board_model.specs.declared.bridge.Place.{Place}
use Rattle.board_model.specs.declared.bridge.Place.TheVariants.{Target, Header, Lane, Nobody}
use Rattle.history_model.specs.declared.event.By.{By}
use Rattle.history_model.specs.declared.event.By.TheVariants.{Master, Lane as ByLane}
use Rattle.history_model.specs.declared.event.Step.{Step}
use Rattle.history_model.specs.declared.event.Event.{Event}
use Rattle.history_model.specs.declared.event.Event.TheVariants.{Act, Arrive}
use Rattle.history_model.specs.declared.rule.Rule.{Rule}
use Rattle.history_model.specs.Lanes.{Both, arrives, item_ends}
use Rattle.history_model.specs.World.{noted, world_by, enters, lane_outcome}
use Rattle.judge_lanes.specs.Bridge.{lanes_of, turned, moved_on, place_on, leaves_on, initiator_on, lanes_after}
use Rattle.judge_lanes.proofs.LaneLemmas.{lanes_after_event}
use Rattle.judge_state.specs.State.{place_of, other_than, happens_on, lanes_next, bus_at, bus_by}
use Rattle.list_facts.specs.Lists.{changed_at}
use Rattle.judge_state.proofs.PlaceLemmas.{places_apart, changed_same, changed_other}

-- an event changes the lanes of no other bridge than those of the lane that claims and of the lane that presents

abbrev pub elsewhere : Option ℕ → ℕ → Bool
elsewhere None bus = true
elsewhere (Some first) bus = not (first == bus)

moved_elsewhere : (move : Both → Both) (lane : BridgeLane) (bus : ℕ) (x : Both) → elsewhere (Some lane.bus) bus ≡ true → moved_on move lane bus x ≡ x
moved_elsewhere move lane bus x other =
    let P : Bool → Type 0 = λ b. not b ≡ true → (if b then turned lane.up (move (turned lane.up x)) else x) ≡ x in
    (elim (lane.bus == bus) as P [ true ↦ λ no. cc | false ↦ λ _. refl ]) other

place_elsewhere : (board : Board) (on : ℕ) (by : By) (o : OpId) (step : Step) (place : Place) (bus : ℕ) (x : Both) → elsewhere (bus_at place) bus ≡ true → place_on board on by o step place bus x ≡ x
place_elsewhere board on by o step (Target target) bus x other = refl
place_elsewhere board on by o step (Header number) bus x other = refl
place_elsewhere board on by o step (Lane lane) bus x other = moved_elsewhere (enters board on by o step) lane bus x other
place_elsewhere board on by o step Nobody bus x other = refl

leaves_elsewhere : (lane : BridgeLane) (o : OpId) (outcome : Option Outcome) (bus : ℕ) (x : Both) → elsewhere (Some lane.bus) bus ≡ true → leaves_on lane o outcome bus x ≡ x
leaves_elsewhere lane o None bus x other = refl
leaves_elsewhere lane o (Some outcome) bus x other = moved_elsewhere (item_ends o outcome) lane bus x other

by_elsewhere : (board : Board) (by : By) (o : OpId) (step : Step) (bus : ℕ) (x : Both) → elsewhere (bus_by by) bus ≡ true → initiator_on board by o step bus x ≡ x
by_elsewhere board Master o step bus x other = refl
by_elsewhere board (ByLane lane) o step bus x other = leaves_elsewhere lane o (lane_outcome board lane o step) bus x other

-- what is kept after the event happened on one bridge
pub happened : (rule : Rule) (board : Board) (e : Event) (first : Option ℕ) (lanes : List Both) (bus place : ℕ) (x : Both) → place_of board bus ≡ Some place → slice_get lanes place ≡ Some x →
    slice_get (happens_on rule board e first lanes) place ≡ Some (if elsewhere first bus then x else lanes_after rule board e bus x)
happened rule board e None lanes bus place x at is = is
happened rule board e (Some first) lanes bus place x at is =
    let f : Both → Both = lanes_after rule board e first in
    let P : Bool → Type 0 = λ b. (first == bus) ≡ b → slice_get (happens_on rule board e (Some first) lanes) place ≡ Some (if not b then x else lanes_after rule board e bus x) in
    (elim (first == bus) as P [
      | true ↦ λ same.
          let one : bus ≡ first = grind (arith, nat_tests) in
          let there : place_of board first ≡ Some place = ap (place_of board) (sym one) ∙ at in
          rw there (changed_same f lanes place x is ∙ ap (λ (n : ℕ). Some (lanes_after rule board e n x)) (sym one))
      | false ↦ λ differ.
          let Q : Option ℕ → Type 0 = λ p. place_of board first ≡ p → slice_get (changed_at f lanes p) place ≡ Some x in
          (elim (place_of board first) as Q [
            | None ↦ λ _. is
            | Some p ↦ λ other.
                let apart : place ≢ p = λ same.
                (let one : first ≡ bus = places_apart board first bus p other (at ∙ ap (λ (n : ℕ). Some n) same) in
                let no : false ≡ true = grind (arith, nat_tests) in absurd (cc)) in
                changed_other f lanes p place apart ∙ is
          ]) refl
    ]) refl

-- where it happened on the first bridge, the second is another
then_elsewhere : (first second : Option ℕ) (bus : ℕ) → elsewhere first bus ≡ false → elsewhere (other_than first second) bus ≡ true
then_elsewhere None second bus here = cc
then_elsewhere (Some first) None bus here = refl
then_elsewhere (Some first) (Some second) bus here =
    let P : Bool → Type 0 = λ b. (first == second) ≡ b → elsewhere (if b then None else Some second) bus ≡ true in
    (elim (first == second) as P [ true ↦ λ _. refl | false ↦ λ differ. apart_from differ ]) refl where
      apart_from : (first == second) ≡ false → not (second == bus) ≡ true
      apart_from differ =
          let Q : Bool → Type 0 = λ b. (second == bus) ≡ b → not b ≡ true in
          (elim (second == bus) as Q [
            | true ↦ λ same.
                let R : Bool → Type 0 = λ b. (first == bus) ≡ b → not b ≡ false → false ≡ true in
                (elim (first == bus) as R [ true ↦ λ too _. grind (arith, nat_tests) | false ↦ λ _ no. sym no ]) refl here
            | false ↦ λ _. refl
          ]) refl

-- where it happened on neither, the second bridge is elsewhere too
both_elsewhere : (first second : Option ℕ) (bus : ℕ) → elsewhere first bus ≡ true → elsewhere (other_than first second) bus ≡ true → elsewhere second bus ≡ true
both_elsewhere first None bus one two = refl
both_elsewhere None (Some second) bus one two = two
both_elsewhere (Some first) (Some second) bus one two =
    let P : Bool → Type 0 = λ b. (first == second) ≡ b → elsewhere (if b then None else Some second) bus ≡ true → not (second == bus) ≡ true in
    (elim (first == second) as P [
      | true ↦ λ same _.
          let is : first ≡ second = grind (arith, nat_tests) in
          subst (λ (n : ℕ). not (n == bus) ≡ true) is one
      | false ↦ λ _ other. other
    ]) refl two

-- after the event, on each bridge
pub lanes_went : (rule : Rule) (board : Board) (h : List Event) (e : Event) (lanes : List Both) (bus place : ℕ) → place_of board bus ≡ Some place →
    slice_get lanes place ≡ Some (lanes_of (world_by rule board h) bus) → slice_get (lanes_next rule board e lanes) place ≡ Some (lanes_of (world_by rule board (e ∷ h)) bus)
lanes_went rule board h (Act on by o step at_place) lanes bus place at is =
    let e : Event = Act on by o step at_place in
    let x : Both = lanes_of (world_by rule board h) bus in
    let la : Both → Both = lanes_after rule board e bus in
    let first : Option ℕ = bus_at at_place in
    let second : Option ℕ = other_than first (bus_by by) in
    let goes : lanes_of (world_by rule board (e ∷ h)) bus ≡ la x = lanes_after_event rule board (world_by rule board h) e bus in
    let y : Both = if elsewhere first bus then x else la x in
    let one : slice_get (happens_on rule board e first lanes) place ≡ Some y = happened rule board e first lanes bus place x at is in
    let two : slice_get (lanes_next rule board e lanes) place ≡ Some (if elsewhere second bus then y else la y) = happened rule board e second (happens_on rule board e first lanes) bus place y at one in
    two ∙ ap (λ (z : Both). Some z) (went ∙ sym goes) where
      went : (let x : Both = lanes_of (world_by rule board h) bus in let la : Both → Both = lanes_after rule board (Act on by o step at_place) bus in
          let y : Both = if elsewhere (bus_at at_place) bus then x else la x in (if elsewhere (other_than (bus_at at_place) (bus_by by)) bus then y else la y) ≡ la x)
      went =
          let x : Both = lanes_of (world_by rule board h) bus in
          let la : Both → Both = lanes_after rule board (Act on by o step at_place) bus in
          let P : Bool → Type 0 = λ b. elsewhere (bus_at at_place) bus ≡ b → (let y : Both = if b then x else la x in (if elsewhere (other_than (bus_at at_place) (bus_by by)) bus then y else la y) ≡ la x) in
          (elim (elsewhere (bus_at at_place) bus) as P [
            | true ↦ λ one.
                let Q : Bool → Type 0 = λ b. elsewhere (other_than (bus_at at_place) (bus_by by)) bus ≡ b → (if b then x else la x) ≡ la x in
                (elim (elsewhere (other_than (bus_at at_place) (bus_by by)) bus) as Q [
                  | true ↦ λ two.
                      let there : place_on board on (noted rule by) o step at_place bus x ≡ x = place_elsewhere board on (noted rule by) o step at_place bus x one in
                      let too : initiator_on board by o step bus x ≡ x = by_elsewhere board by o step bus x (both_elsewhere (bus_at at_place) (bus_by by) bus one two) in
                      sym (ap (initiator_on board by o step bus) there ∙ too)
                  | false ↦ λ _. refl
                ]) refl
            | false ↦ λ here. rw (then_elsewhere (bus_at at_place) (bus_by by) bus here)
          ]) refl
lanes_went rule board h (Arrive lane mark) lanes bus place at is =
    let e : Event = Arrive lane mark in
    let x : Both = lanes_of (world_by rule board h) bus in
    let goes : lanes_of (world_by rule board (e ∷ h)) bus ≡ lanes_after rule board e bus x = lanes_after_event rule board (world_by rule board h) e bus in
    let P : Bool → Type 0 = λ b. not (lane.bus == bus) ≡ b → (if b then x else lanes_after rule board e bus x) ≡ lanes_after rule board e bus x in
    let same : (if elsewhere (Some lane.bus) bus then x else lanes_after rule board e bus x) ≡ lanes_after rule board e bus x =
    (elim (not (lane.bus == bus)) as P [ true ↦ λ other. sym (moved_elsewhere (arrives mark) lane bus x other) | false ↦ λ _. refl ]) refl in
    happened rule board e (Some lane.bus) lanes bus place x at is ∙ ap (λ (z : Both). Some z) (same ∙ sym goes)
