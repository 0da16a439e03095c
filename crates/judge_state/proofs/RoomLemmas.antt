-- Room for what an event brings, bridge by bridge.
use Rattle.std.proofs.Common.{◌≡◌, ◌≢◌, ℕ, Bool, true, false, ◌==◌, List, Option, None, Some, refl, sym, ap, subst, ◌∙◌, arith, if◌then◌else◌}
use Rattle.std.proofs.lemmas.Bool.Decides.{nat_tests}
use Rattle.board_model.specs.declared.board.Board.{Board}
use Rattle.history_model.specs.declared.event.Event.{Event}
use Rattle.history_model.specs.declared.rule.Rule.{Rule}
use Rattle.history_model.specs.Lanes.{Both}
use Rattle.judge_lanes.specs.Bridge.{lanes_after}
use Rattle.judge_state.specs.State.{place_of, other_than, happens_on}
use Rattle.list_facts.specs.Lists.{changed_at}
use Rattle.judge_state.specs.Rooms.{RoomAt, RoomOn, HaveRooms}
use Rattle.judge_state.proofs.PlaceLemmas.{places_apart, changed_other}

pub room_on : (board : Board) (lanes : List Both) (bus : Option ℕ) → HaveRooms board lanes → RoomOn board lanes bus
room_on board lanes None rooms = tt
room_on board lanes (Some bus) rooms = rooms bus

-- what happens on one bridge leaves the room on another
room_apart : (rule : Rule) (board : Board) (e : Event) (lanes : List Both) (first second : ℕ) → HaveRooms board lanes → (first == second) ≡ false → RoomAt (happens_on rule board e (Some first) lanes) (place_of board second)
room_apart rule board e lanes first second rooms apart =
    let f : Both → Both = lanes_after rule board e first in
    let P : Option ℕ → Type 0 = λ p. place_of board first ≡ p → RoomAt (changed_at f lanes p) (place_of board second) in
    (elim (place_of board first) as P [
      | None ↦ λ _. rooms second
      | Some p ↦ λ at.
          let Q : Option ℕ → Type 0 = λ q. place_of board second ≡ q → RoomAt (changed_at f lanes (Some p)) q in
          (elim (place_of board second) as Q [
            | None ↦ λ _. tt
            | Some q ↦ λ too.
                let other : q ≢ p = λ same.
                (let one : first ≡ second = places_apart board first second p at (too ∙ ap (λ (n : ℕ). Some n) same) in
                let no : false ≡ true = grind (arith, nat_tests) in absurd (cc)) in
                λ x is. subst (λ (place : Option ℕ). RoomAt lanes place) too (rooms second) x (sym (changed_other f lanes p q other) ∙ is)
          ]) refl
    ]) refl

pub room_second : (rule : Rule) (board : Board) (e : Event) (lanes : List Both) (first second : Option ℕ) → HaveRooms board lanes → RoomOn board (happens_on rule board e first lanes) (other_than first second)
room_second rule board e lanes first None rooms = tt
room_second rule board e lanes None (Some second) rooms = rooms second
room_second rule board e lanes (Some first) (Some second) rooms =
    let P : Bool → Type 0 = λ b. (first == second) ≡ b → RoomOn board (happens_on rule board e (Some first) lanes) (if b then None else Some second) in
    (elim (first == second) as P [ true ↦ λ _. tt | false ↦ λ apart. room_apart rule board e lanes first second rooms apart ]) refl
