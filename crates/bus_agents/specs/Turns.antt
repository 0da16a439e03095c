-- The turn of a master: PCI Local Bus Specification 2.2, section 3.3.3 (from memory; a master repeats what was
-- retried).
use Rattle.std.specs.Prelude.{◌≡◌, ◌≢◌, ℕ, List, ◌∷◌, Option, Some, None}
use Rattle.pci_command.specs.declared.op_id.OpId.{OpId}
use Rattle.pci_command.specs.declared.op_id.Outcome.{Outcome}
use Rattle.board_model.specs.declared.bridge.Place.{Place}
use Rattle.board_model.specs.declared.board.Board.{Board}
use Rattle.history_model.specs.declared.event.By.TheVariants.{Master}
use Rattle.history_model.specs.declared.event.Step.{Step}
use Rattle.history_model.specs.declared.event.Event.{Event}
use Rattle.history_model.specs.declared.event.Event.TheVariants.{Act}
use Rattle.history_model.specs.Program.{Ending, master_outcome, follows, turn_of}

-- what is kept of a master
pub record MasterView : Type 0 where
  -- its place on the board
  pub master : ℕ
  -- the operation that it presents
  pub turn : Option OpId

-- what is kept of a master stands for a history, of the board or of one bus
pub record MasterStands (board : Board) (p : List Event) (m : MasterView) : Type 0 where
  pub turn : m.turn ≡ turn_of board p m.master

-- the turn behind one that ended so
abbrev pub turn_behind : Board → Outcome → Option OpId → Option OpId
turn_behind board outcome None = None
turn_behind board outcome (Some o) = follows board (record { op = o; outcome = outcome })

-- wherever the master stood for a history, it stands for that history and the act that ended its operation so
pub record EndsTurn (board : Board) (old : MasterView) (outcome : Outcome) (new : MasterView) : Type 0 where
  pub stands : (p : List Event) (on : ℕ) (o : OpId) (step : Step) (place : Place) → MasterStands board p old → old.turn ≡ Some o → master_outcome step ≡ Some outcome
      → MasterStands board (Act on Master o step place ∷ p) new

-- what ended, if anything, is another master's
abbrev pub IsOfOther : ℕ → Option Ending → Type 0
IsOfOther master None = Unit {0}
IsOfOther master (Some ending) = ending.op.master ≢ master
