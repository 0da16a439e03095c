-- An event on one bus leaves every other bus as it was: each bus has one face of a bridge (PCI-to-PCI Bridge
-- Architecture Specification 1.1, chapter 5, from memory), and what it does there the other face learns by an arrival.
use Rattle.std.specs.Prelude.{◌≡◌, ℕ, true, List, slice_get}
use Rattle.pci_command.specs.declared.op_id.OpId.{OpId}
use Rattle.board_model.specs.declared.bridge.Lane.{Lane as BridgeLane}
use Rattle.board_model.specs.declared.board.Board.{Board}
use Rattle.board_model.specs.Ways.{end_of}
use Rattle.history_model.specs.declared.event.By.{By}
use Rattle.history_model.specs.declared.event.Event.{Event}
use Rattle.history_model.specs.World.{world_of}
use Rattle.history_model.specs.Program.{turn_of}
use Rattle.history_model.specs.Answers.{is_on, wants, answer}

-- after a history and after a later one a bus is the same: the same items stand on the lanes that end there, its masters
-- have the same turns, the same operations are presented there, and each is answered alike
pub record Stays (board : Board) (bus : ℕ) (h later : List Event) : Type 0 where
  pub standing : (lane : BridgeLane) → end_of board lane ≡ bus → (world_of board later lane).standing ≡ (world_of board h lane).standing
  pub turns : (master : ℕ) → is_on bus (slice_get board.masters master) ≡ true → turn_of board later master ≡ turn_of board h master
  pub wanted : (by : By) (o : OpId) → wants board later bus by o ≡ wants board h bus by o
  pub answered : (by : By) (o : OpId) → wants board h bus by o ≡ true → answer board later bus by o ≡ answer board h bus by o
