-- What claims over header bytes ask of a board.
use Rattle.std.specs.Prelude.{◌≤◌, length, IsTrue, All}
use Rattle.board_model.specs.declared.bridge.Bridge.{Bridge}
use Rattle.board_model.specs.declared.board.Board.{Board}
use Rattle.board_model.specs.WellFormed.{is_well_formed_bridge}
use Rattle.board_model.specs.Valid.{is_numbered}

-- the header of the bridge says its buses and windows
pub record IsReadBack (bridge : Bridge) : Type 0 where
  pub well_formed : IsTrue (is_well_formed_bridge bridge)
  pub numbered : IsTrue (is_numbered bridge)

-- those of all bridges do, and the place of each target fits
pub record AreReadBack (board : Board) : Type 0 where
  pub bridges : All IsReadBack board.bridges
  -- there are at most 32 buses, and eight targets on each
  pub few_targets : length board.targets ≤ 256
