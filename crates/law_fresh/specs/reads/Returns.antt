-- What reads return.
use Rattle.std.specs.Prelude.{◌≡◌, ◌≢◌, List, [], true, Some, is_some}
use Rattle.pci_command.specs.declared.op_id.OpId.{OpId}
use Rattle.board_model.specs.declared.board.Board.{Board}
use Rattle.board_model.specs.Requests.{reads}
use Rattle.history_model.specs.declared.event.Event.{Event}
use Rattle.history_model.specs.Knowledge.{Reading, got, given_value, has_ended, words_named}

-- every read that read at a target returned what it last read there, and every read of a word that ended has read at one
pub record ReadsReturn (board : Board) (h : List Event) : Type 0 where
  pub returned : (r : OpId) (reading : Reading) → got board h r ≡ Some reading → given_value h r ≡ Some reading.value
  pub always_read : (r : OpId) → reads board r ≡ true → words_named board r ≢ [] → has_ended h r ≡ true → is_some (got board h r) ≡ true
