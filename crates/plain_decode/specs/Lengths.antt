-- How long the way of an operation is.
use Rattle.std.specs.Prelude.{ℕ, length, Option, slice_get}
use Rattle.std.specs.Option.{option_map, option_and_then}
use Rattle.pci_command.specs.declared.op_id.OpId.{OpId}
use Rattle.board_model.specs.declared.agents.Master.{Master}
use Rattle.board_model.specs.declared.board.Board.{Board}
use Rattle.board_model.specs.Requests.{op_of}
use Rattle.board_model.specs.Ways.{way}

-- the length of the way of an operation from the bus of its master, if the operation is there
abbrev pub way_length_of : Board → OpId → Option ℕ
way_length_of board o =
    option_and_then (λ (master : Master). option_map (λ op. length (way board op master.bus)) (op_of board o))
    (slice_get board.masters o.master)
