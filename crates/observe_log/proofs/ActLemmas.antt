-- An event is an act of a line, where its parts are.
use Rattle.std.proofs.Common.{◌≡◌, ℕ, Bool, List, Option, Some, None}
use Rattle.std.specs.Prelude.{IfSome}
use Rattle.pci_command.specs.declared.op_id.OpId.{OpId}
use Rattle.pci_command.specs.declared.phases.Phase.{Phase}
use Rattle.pci_command.specs.declared.request.Request.{Request}
use Rattle.board_model.specs.declared.bridge.Place.{Place}
use Rattle.board_model.specs.declared.board.Board.{Board}
use Rattle.board_model.specs.Requests.{request_of}
use Rattle.board_model.specs.Ways.{is_lane}
use Rattle.history_model.specs.declared.event.By.{By}
use Rattle.history_model.specs.declared.event.Step.{Step}
use Rattle.observe_told.specs.declared.seen.Seen.{Seen}
use Rattle.observe_told.specs.declared.seen.Log.{Log}
use Rattle.observe_told.specs.Addresses.{claimant, phases_of_line}
use Rattle.observe_log.specs.declared.row.Row.{Row}
use Rattle.observe_log.specs.declared.shown.Shown.{Shown}
use Rattle.observe_log.specs.Rows.{row_of}
use Rattle.observe_log.specs.Acts.{IsInitiator, place_by, goes_on, IsActOf}

pub act_from : (log : Log) (board : Board) (seen : Seen) (before : Shown) (on : ℕ) (by : By) (o : OpId) (step : Step) (place : Place) (request : Request)
    (row : Row) (lane : Bool) (words : List Phase) (result : Option Shown)
    → on ≡ seen.bus → IsInitiator log.board board seen.who by o → place ≡ place_by (claimant log.board seen) step → request_of board o on ≡ Some request
    → row ≡ row_of log seen → lane ≡ is_lane (claimant log.board seen) → words ≡ phases_of_line log seen
    → IfSome result (λ after. goes_on row lane seen words o request before step ≡ Some after)
    → IfSome result (λ shown. IsActOf log board seen before on by o step place shown)
act_from log board seen before on by o step place request row lane words None bus initiator claimed drives row_is lane_is words_is shows = tt
act_from log board seen before on by o step place request row lane words (Some shown) bus initiator claimed drives row_is lane_is words_is shows = record {
  bus = bus;
  initiator = initiator;
  claimed = claimed;
  request = request;
  drives = drives;
  shows = rw (← row_is, ← lane_is, ← words_is) shows;
}
