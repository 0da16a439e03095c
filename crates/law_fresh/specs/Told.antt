-- What was told, by who knows: the same as by chains.
use Rattle.std.specs.Prelude.{Bool, List, is_some, ◌&&◌, ◌||◌}
use Rattle.pci_command.specs.declared.op_id.OpId.{OpId}
use Rattle.board_model.specs.declared.board.Board.{Board}
use Rattle.board_model.specs.Requests.{op_of}
use Rattle.history_model.specs.declared.event.Event.{Event}
use Rattle.history_model.specs.Knowledge.{up_to_end, is_write}
use Rattle.law_fresh.specs.Aware.{knows, aware_of}

-- an operation was told of a write: it stands behind one with which its master came to know of it, or it is a read
-- that ended with a value and saw it, or a write that was told of it
abbrev pub was_told : Board → List Event → OpId → OpId → Bool
was_told board h w r =
    is_write board w && is_some (op_of board r)
    && (knows (aware_of board w h) r || (aware_of board w (up_to_end r h)).taught r)
