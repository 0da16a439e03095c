-- What makes a board begin with all its events before it.
use Rattle.std.specs.Prelude.{◌<◌, List, [], ◌∷◌}
use Rattle.std.specs.List.{AllByRecursion}
use Rattle.board_model.specs.declared.agents.Master.{Master}
use Rattle.board_model.specs.declared.op.Op.{Op}
use Rattle.board_model.specs.declared.board.Planned.{Planned}
use Rattle.board_model.specs.declared.board.Board.{Board}
use Rattle.board_model.specs.Requests.{tries_of}

-- the first operation of a program is tried at least once: else no turn ever comes
abbrev pub IsTried : List Op → Type 0
IsTried [] = Unit {0}
IsTried (op ∷ ops) = 0 < tries_of op

-- each program begins with an operation that is tried, and the lines that discard or drop an item count
-- from 1
pub record Begins (board : Board) : Type 0 where
  pub tried : AllByRecursion (λ (master : Master). IsTried master.ops) board.masters
  pub discards : AllByRecursion (λ (planned : Planned). 0 < planned.count) board.discards
  pub drops : AllByRecursion (λ (planned : Planned). 0 < planned.count) board.drops
