-- What a bus knows is enough for what it does: which operations are presented there, how each is answered, and which
-- items a face takes from its lane.
use Rattle.std.specs.Prelude.{◌≡◌, ℕ, true, List}
use Rattle.pci_command.specs.declared.op_id.OpId.{OpId}
use Rattle.board_model.specs.declared.bridge.Lane.{Lane as BridgeLane}
use Rattle.board_model.specs.declared.board.Board.{Board}
use Rattle.board_model.specs.Ways.{end_of}
use Rattle.history_model.specs.declared.event.By.{By}
use Rattle.history_model.specs.declared.event.Event.{Event}
use Rattle.history_model.specs.declared.item.Carried.{Carried}
use Rattle.history_model.specs.World.{world_of}
use Rattle.history_model.specs.Answers.{wants, wants_in, answer, answer_in}
use Rattle.history_model.specs.Local.{is_lawful_on}
use Rattle.law_local.specs.Known.{events_on, known}

-- an operation is presented on a bus exactly where it is by what the bus knows
abbrev pub WantsAreLocal : Board → (BridgeLane → List Carried) → List Event → Type 0
WantsAreLocal board sent h = (bus : ℕ) (by : By) (o : OpId) → wants board h bus by o ≡ wants_in board (known board sent bus h) (events_on board bus h) bus by o

-- what is presented on a bus is answered as it is by what the bus knows
abbrev pub AnswersAreLocal : Board → (BridgeLane → List Carried) → List Event → Type 0
AnswersAreLocal board sent h =
    (bus : ℕ) (by : By) (o : OpId) → wants board h bus by o ≡ true
    → answer board h bus by o ≡ answer_in board (known board sent bus h) (events_on board bus h) bus by o

-- an item may come next on a lane exactly where it may by what the bus knows where the lane ends
abbrev pub TestsAreLocal : Board → (BridgeLane → List Carried) → List Event → Type 0
TestsAreLocal board sent h =
    (lane : BridgeLane) (item : Carried) → is_lawful_on board (world_of board h) lane item ≡ is_lawful_on board (known board sent (end_of board lane) h) lane item
