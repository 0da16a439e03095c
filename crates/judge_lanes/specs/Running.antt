-- A run of a valid board, and what bounds the numbers of its events.
use Rattle.std.specs.Prelude.{◌≤◌, List, length, IsTrue}
use Rattle.board_model.specs.Limits.{most_posted, most_delayed, most_plans}
use Rattle.board_model.specs.declared.bridge.Lane.{Lane as BridgeLane}
use Rattle.board_model.specs.declared.board.Board.{Board}
use Rattle.board_model.specs.WellFormed.{is_well_formed}
use Rattle.board_model.specs.Ways.{bound_of}
use Rattle.board_tree.specs.Decodable.{IsDecodable}
use Rattle.history_model.specs.declared.event.Event.{Event}
use Rattle.history_model.specs.World.{world_of}
use Rattle.history_model.specs.Runs.{Run}
use Rattle.law_lanes.specs.Depths.{Within}

-- a run, with bounds: few events, few lines that discard or drop, and little on each lane
pub record IsRunning (board : Board) (h : List Event) : Type 0 where
  pub well_formed : IsTrue (is_well_formed board)
  pub decodable : IsDecodable board
  pub run : Run board h
  -- a run has few events, and few lines are discards or drops
  pub short : bound_of board ≤ 500000
  pub discards : length board.discards ≤ most_plans
  pub drops : length board.drops ≤ most_plans
  -- little is on a lane
  pub lanes : (lane : BridgeLane) → Within most_posted most_delayed (world_of board h lane)
