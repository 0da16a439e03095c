-- No request goes back through the bridge through which it came: PCI-to-PCI Bridge Architecture Specification
-- 1.1, chapter 4 (from memory; positive decoding downwards, inverse decoding upwards).
use Rattle.std.specs.Prelude.{◌≡◌, ◌≢◌, ℕ}
use Rattle.board_model.specs.declared.bridge.Lane.{Lane as BridgeLane}
use Rattle.board_model.specs.declared.bridge.Place.TheVariants.{Lane}
use Rattle.board_model.specs.declared.op.Op.{Op}
use Rattle.board_model.specs.declared.board.Board.{Board}
use Rattle.board_model.specs.Requests.{request_on}
use Rattle.board_model.specs.Claims.{claim}
use Rattle.board_model.specs.Ways.{end_of, start_of, lane_back}

-- a lane that claims an operation on the bus starts there
abbrev pub StartsThere : Board → Op → ℕ → BridgeLane → Type 0
StartsThere board op on lane = claim board on (request_on op on) ≡ Lane lane → start_of board lane ≡ on

-- where the lane claims an operation on the bus, the other lane of its bridge does not claim it at its end
abbrev pub NeverTurnsBack : Board → Op → ℕ → BridgeLane → Type 0
NeverTurnsBack board op on lane =
    claim board on (request_on op on) ≡ Lane lane
    → claim board (end_of board lane) (request_on op (end_of board lane)) ≢ Lane (lane_back lane)
