-- Each event of a run is one of posted writes, of credits and of stalls, or one of delayed requests.
use Rattle.std.proofs.Common.{◌≡◌, ℕ, Bool, true, false, List, [], ◌∷◌, Option, Some, None, is_some, refl, ◌⊎◌, inl, inr}
use Rattle.pci_command.specs.declared.op_id.OpId.{OpId}
use Rattle.board_model.specs.declared.bridge.Lane.{Lane as BridgeLane}
use Rattle.board_model.specs.declared.bridge.Place.{Place}
use Rattle.board_model.specs.declared.op.Op.{Op}
use Rattle.board_model.specs.declared.board.Board.{Board}
use Rattle.board_model.specs.Requests.{op_of}
use Rattle.board_model.specs.Valid.{IsValid}
use Rattle.history_model.specs.declared.event.By.{By}
use Rattle.history_model.specs.declared.event.Mark.{Mark}
use Rattle.history_model.specs.declared.event.Step.{Step}
use Rattle.history_model.specs.declared.event.Step.TheVariants.{Stall}
use Rattle.history_model.specs.declared.event.Event.{Event}
use Rattle.history_model.specs.declared.event.Event.TheVariants.{Act, Arrive}
use Rattle.history_model.specs.declared.item.Carried.{Carried}
use Rattle.history_model.specs.declared.item.Carried.TheVariants.{Post, Ask, Done, Room, Gone}
use Rattle.history_model.specs.Lanes.{LaneState}
use Rattle.history_model.specs.World.{world_of}
use Rattle.history_model.specs.Runs.{mark_of_first, Run}
use Rattle.law_lanes.specs.Kinds.{NamesOp}
use Rattle.law_lanes.specs.order.Order.{is_posted_in, is_posted_op}
use Rattle.history_model.specs.Steps.{is_stall}
use Rattle.law_bound.specs.posted.PostedEvents.{first_is_post_or_room, IsPostedEvent}
use Rattle.law_bound.specs.delayed.Delayed.{is_delayed_first, IsDelayedEvent}
use Rattle.law_lanes.proofs.Laws.{op_there}

-- an operation that is there, and is no write in memory, is of the delayed kind
named_other : (board : Board) (o : OpId) (found : Option Op) → op_of board o ≡ found → is_some found ≡ true → is_posted_in found ≡ false → NamesOp board false o
named_other board o None is there other = cc
named_other board o (Some op) is there other = record { op = op; is_op = is; is_posted = other }

-- an act of the delayed kind, other than a stall
other_act : (board : Board) (h : List Event) (on : ℕ) (by : By) (o : OpId) (step : Step) (place : Place) → is_stall step ≡ false → NamesOp board false o → IsDelayedEvent board h (Act on by o step place)
other_act board h on by o Stall place none named = cc
other_act board h on by o step place none named = (named, refl)

-- so an act is of the posted or of the delayed kind
act_kind : (board : Board) (h : List Event) (on : ℕ) (by : By) (o : OpId) (step : Step) (place : Place) → is_some (op_of board o) ≡ true
    → IsPostedEvent board h (Act on by o step place) ⊎ IsDelayedEvent board h (Act on by o step place)
act_kind board h on by o step place there =
    let K : Type 0 = IsPostedEvent board h (Act on by o step place) ⊎ IsDelayedEvent board h (Act on by o step place) in
    let P : Bool → Type 0 = λ b. is_stall step ≡ b → K in
    let Q : Bool → Type 0 = λ b. is_posted_op board o ≡ b → is_stall step ≡ false → K in
    (elim (is_stall step) as P [
      | true ↦ λ stall. inl (rw stall refl)
      | false ↦ (elim (is_posted_op board o) as Q [
        | true ↦ λ posted none. inl (rw (none, posted) refl)
        | false ↦ λ other none. inr (other_act board h on by o step place none (named_other board o (op_of board o) refl there other))
      ]) refl
    ]) refl

-- and an arrival, by what is the oldest in flight
first_kind : (board : Board) (lane : BridgeLane) (state : LaneState) (mark : Mark) (items : List Carried) → mark_of_first board lane state items ≡ Some mark
    → (first_is_post_or_room items ≡ true) ⊎ (is_delayed_first items ≡ true)
first_kind board lane state mark [] next = cc
first_kind board lane state mark (Post op ∷ items) next = inl refl
first_kind board lane state mark (Ask op slot ∷ items) next = inr refl
first_kind board lane state mark (Done op slot outcome ∷ items) next = inr refl
first_kind board lane state mark (Room ∷ items) next = inl refl
first_kind board lane state mark (Gone slot ∷ items) next = inr refl

-- each event of a run of a valid board is of one of the two kinds
pub event_kind : (board : Board) (h : List Event) (e : Event) → IsValid board → Run board (e ∷ h) → IsPostedEvent board h e ⊎ IsDelayedEvent board h e
event_kind board h (Act on by o step place) valid run =
    act_kind board h on by o step place (op_there board h on by o run.1 run.0.0)
event_kind board h (Arrive lane mark) valid run = first_kind board lane (world_of board h lane) mark (world_of board h lane).flight run.0
