-- Where anything is in flight, it can arrive.
use Rattle.std.proofs.Common.{◌≡◌, List, [], ◌∷◌, None, refl, ap, ◌⊎◌, inl, inr}
use Rattle.board_model.specs.declared.bridge.Lane.{Lane as BridgeLane}
use Rattle.board_model.specs.declared.board.Board.{Board}
use Rattle.history_model.specs.declared.event.Event.{Event}
use Rattle.history_model.specs.declared.event.Event.TheVariants.{Arrive}
use Rattle.history_model.specs.declared.item.Carried.{Carried}
use Rattle.history_model.specs.Lanes.{LaneState, empty_lane}
use Rattle.history_model.specs.World.{world_of}
use Rattle.history_model.specs.Answers.{bridge_to}
use Rattle.history_model.specs.Runs.{mark_of, mark_of_first, Run}
use Rattle.law_lanes.proofs.Laws.{Quiet-empty, run_no_bridge}
use Rattle.law_lanes.specs.progress.Next.{Next}

-- nothing is on a lane of no bridge
pub no_bridge_empty : (board : Board) (h : List Event) (lane : BridgeLane) → Run board h → bridge_to board lane.bus ≡ None → world_of board h lane ≡ empty_lane
no_bridge_empty board h lane run none = Quiet-empty board h lane (run_no_bridge board lane.bus h none run)

-- the oldest item in flight on a lane arrives, or there is none
pub arrival_next : (board : Board) (h : List Event) (lane : BridgeLane) → Next board h ⊎ ((world_of board h lane).flight ≡ [])
arrival_next board h lane =
    let state : LaneState = world_of board h lane in
    let P : List Carried → Type 0 = λ flight. state.flight ≡ flight → Next board h ⊎ (state.flight ≡ []) in
    (elim state.flight as P [
      | [] ↦ λ none. inr none
      | item ∷ rest ↦ λ is. inl (record { event = Arrive lane (mark_of board lane state item); allowed = ap (mark_of_first board lane state) is })
    ]) refl
