-- What ends on a lane is found before the claim as after it.
use Rattle.std.proofs.Common.{◌≡◌, ℕ, Bool, true, false, List, Option, None, refl, ap, ◌==◌, if◌then◌else◌}
use Rattle.std.specs.List.{find}
use Rattle.pci_command.specs.declared.op_id.OpId.{OpId}
use Rattle.pci_command.specs.declared.op_id.Outcome.{Outcome}
use Rattle.board_model.specs.declared.bridge.Lane.{Lane as BridgeLane}
use Rattle.board_model.specs.declared.bridge.Place.{Place}
use Rattle.board_model.specs.declared.bridge.Place.TheVariants.{Target, Header, Lane, Nobody}
use Rattle.board_model.specs.declared.board.Board.{Board}
use Rattle.history_model.specs.declared.event.By.{By}
use Rattle.history_model.specs.declared.event.By.TheVariants.{Master, Lane as ByLane}
use Rattle.history_model.specs.declared.event.Step.{Step}
use Rattle.history_model.specs.declared.item.Carried.{Carried}
use Rattle.history_model.specs.Lanes.{Both, is_of}
use Rattle.history_model.specs.World.{enters, lane_outcome}
use Rattle.history_model.specs.Moves.{item_moved}
use Rattle.law_lanes.proofs.moves.Laws.{enters_here, enters_back, item_same}
use Rattle.judge_lanes.specs.Bridge.{turned, moved_on, place_on, item_on}

found_turned : (board : Board) (on : ℕ) (by : By) (p o : OpId) (step : Step) (at up : Bool) (x : Both)
    → find (is_of o) (turned up (turned at (enters board on by p step (turned at x)))).here.standing ≡ find (is_of o) (turned up x).here.standing
found_turned board on by p o step false false x = ap (λ (xs : List Carried). find (is_of o) xs) (enters_here board on by p step x)
found_turned board on by p o step false true x = enters_back board on by p o step x
found_turned board on by p o step true false x = enters_back board on by p o step (turned true x)
found_turned board on by p o step true true x = ap (λ (xs : List Carried). find (is_of o) xs) (enters_here board on by p step (turned true x))

found_place : (board : Board) (on : ℕ) (by : By) (p o : OpId) (step : Step) (place : Place) (bus : ℕ) (up : Bool) (x : Both)
    → find (is_of o) (turned up (place_on board on by p step place bus x)).here.standing ≡ find (is_of o) (turned up x).here.standing
found_place board on by p o step (Target target) bus up x = refl
found_place board on by p o step (Header number) bus up x = refl
found_place board on by p o step (Lane lane) bus up x =
    let move : Both → Both = enters board on by p step in
    let P : Bool → Type 0 = λ b. find (is_of o) (turned up (if b then turned lane.up (move (turned lane.up x)) else x)).here.standing ≡ find (is_of o) (turned up x).here.standing in
    elim (lane.bus == bus) as P [ true ↦ found_turned board on by p o step lane.up up x | false ↦ refl ]
found_place board on by p o step Nobody bus up x = refl

-- on the lanes of a bridge
pub item_then_on : (board : Board) (on : ℕ) (noted_by : By) (p : OpId) (by : By) (o : OpId) (step : Step) (place : Place) (bus : ℕ) (x : Both)
    → item_on board by o step bus (place_on board on noted_by p step place bus x) ≡ item_on board by o step bus x
item_then_on board on noted_by p Master o step place bus x = refl
item_then_on board on noted_by p (ByLane lane) o step place bus x =
    let outcome : Option Outcome = lane_outcome board lane o step in
    let y : Both = place_on board on noted_by p step place bus x in
    let P : Bool → Type 0 = λ b.
    (if b then item_moved o outcome (turned lane.up y).here.standing else None) ≡ (if b then item_moved o outcome (turned lane.up x).here.standing else None) in
    elim (lane.bus == bus) as P [
      | true ↦ item_same o outcome (turned lane.up y).here.standing (turned lane.up x).here.standing (found_place board on noted_by p o step place bus lane.up x)
      | false ↦ refl
    ]
