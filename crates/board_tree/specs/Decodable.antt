-- What following requests asks of a board.
use Rattle.std.specs.Prelude.{◌≤◌, ◌<◌, length, IsTrue, All}
use Rattle.board_model.specs.declared.agents.Target.{Target}
use Rattle.board_model.specs.declared.board.Board.{Board}
use Rattle.board_model.specs.Limits.{most_bridges, most_targets}
use Rattle.board_model.specs.WellFormed.{is_well_formed}

-- what of a valid board is enough to follow a request to who claims it
pub record IsDecodable (board : Board) : Type 0 where
  -- a text can be of it
  pub formed : IsTrue (is_well_formed board)
  -- there are few buses, and few targets on each
  pub few_bridges : length board.bridges ≤ most_bridges
  pub few_targets : length board.targets ≤ most_targets
  -- each target takes a data phase at a time at least
  pub bursts : All (λ (target : Target). 0 < target.burst) board.targets
