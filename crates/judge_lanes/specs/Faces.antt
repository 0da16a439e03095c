-- The face of a bridge where a lane begins.
use Rattle.std.specs.Prelude.{ℕ, if◌then◌else◌}
use Rattle.std.specs.List.{find}
use Rattle.pci_command.specs.declared.request.Request.{Request}
use Rattle.pci_command.specs.declared.op_id.OpId.{OpId}
use Rattle.pci_command.specs.Command.{is_read}
use Rattle.board_model.specs.declared.bridge.Bridge.{Bridge}
use Rattle.board_model.specs.declared.bridge.Lane.{Lane as BridgeLane}
use Rattle.board_model.specs.declared.board.Board.{Board}
use Rattle.board_model.specs.Requests.{is_posted}
use Rattle.history_model.specs.declared.event.By.{By}
use Rattle.history_model.specs.declared.item.Answer.{Answer}
use Rattle.history_model.specs.Lanes.{LaneState}
use Rattle.history_model.specs.World.{is_own}
use Rattle.history_model.specs.Answers.{posted_answer, delayed_answer}

-- its answer, with this on its lane and on the lane back
abbrev pub face_answer : Board → ℕ → By → OpId → Request → BridgeLane → Bridge → LaneState → LaneState → Answer
face_answer board on by o request lane bridge here back =
    if is_posted request
    then posted_answer here.owed bridge.posted lane
    else delayed_answer board (is_read request.command) bridge.delayed lane here.held back.standing (find (is_own board on by o) here.held)
