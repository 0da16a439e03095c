-- What is on a lane, by the lanes of its bridge.
use Rattle.std.proofs.Common.{◌≡◌, ℕ, Bool, false, List, Option, Some, ap, ◌∙◌}
use Rattle.pci_command.specs.declared.request.Request.{Request}
use Rattle.pci_command.specs.declared.op_id.OpId.{OpId}
use Rattle.board_model.specs.declared.bridge.Bridge.{Bridge}
use Rattle.board_model.specs.declared.bridge.Lane.{Lane as BridgeLane}
use Rattle.board_model.specs.declared.board.Board.{Board}
use Rattle.history_model.specs.declared.event.By.{By}
use Rattle.history_model.specs.declared.event.Mark.{Mark}
use Rattle.history_model.specs.declared.item.Answer.{Answer}
use Rattle.history_model.specs.declared.item.Carried.{Carried}
use Rattle.history_model.specs.Lanes.{LaneState, Both}
use Rattle.history_model.specs.World.{World, both}
use Rattle.board_model.specs.Ways.{lane_back}
use Rattle.history_model.specs.Answers.{lane_answer, presents}
use Rattle.history_model.specs.Runs.{mark_of_first, next_mark_in}
use Rattle.judge_lanes.specs.Bridge.{turned}
use Rattle.judge_lanes.proofs.LaneLemmas.{lane_there}
use Rattle.judge_lanes.specs.Faces.{face_answer}

-- the lane of a bridge in this direction
pub lane_is : (world : World) (lane : BridgeLane) (x : Both) (here : LaneState) → x ≡ both world (record { bus = lane.bus; up = false }) →
    here ≡ (turned lane.up x).here → here ≡ world lane
lane_is world lane x here is at = at ∙ (lane_there world lane x is).0

-- a lane presents by what stands on it
pub presents_there : (board : Board) (on : ℕ) (o : OpId) (world : World) (lane : BridgeLane) (here : LaneState) (standing : List Carried) (r : Bool) →
    here ≡ world lane → standing ≡ here.standing → r ≡ presents board on o standing → r ≡ presents board on o (world lane).standing
presents_there board on o world lane here standing r is stands step =
    step ∙ ap (presents board on o) (stands ∙ ap (λ (l : LaneState). l.standing) is)

-- the next mark of a lane, by what is on it
pub mark_there : (board : Board) (world : World) (lane : BridgeLane) (here : LaneState) (r : Option Mark) →
    here ≡ world lane → r ≡ mark_of_first board lane here here.flight → r ≡ next_mark_in board world lane
mark_there board world lane here r is step = step ∙ ap (λ (l : LaneState). mark_of_first board lane l l.flight) is

-- a face answers by what is on its lane and on the lane back
pub face_there : (board : Board) (world : World) (on : ℕ) (by : By) (o : OpId) (request : Request) (lane : BridgeLane) (bridge : Bridge) (found : Option Bridge)
    (here back : LaneState) (r : Answer) → here ≡ world lane → back ≡ world (lane_back lane) → Some bridge ≡ found →
    r ≡ face_answer board on by o request lane bridge here back → r ≡ lane_answer board world on by o request lane found
face_there board world on by o request lane bridge found here back r is is_back is_bridge step =
    step ∙ (ap (λ (l : LaneState). face_answer board on by o request lane bridge l back) is
    ∙ (ap (face_answer board on by o request lane bridge (world lane)) is_back ∙ ap (lane_answer board world on by o request lane) is_bridge))
