-- Drafts of a board so far.
use Rattle.std.proofs.Common.{◌≡◌, Bool, true, false, cond, List, Result, Err, refl}
use Rattle.board_model.specs.declared.bridge.Bridge.{Bridge}
use Rattle.board_model.specs.declared.agents.Target.{Target}
use Rattle.board_model.specs.declared.agents.Master.{Master}
use Rattle.board_model.specs.declared.board.Board.{Board}
use Rattle.board_model.specs.declared.board.Planned.{Planned}
use Rattle.board_parser.specs.declared.draft.draft.Draft.{Draft}
use Rattle.board_parser.specs.declared.draft.draft.AgentPlace.{AgentPlace}
use Rattle.board_parser.specs.draft.Drafts.{board_of}

-- a board of what was added
abbrev pub so_far : List Bridge → List Target → List Master → List Planned → List Planned → Board
so_far bridges targets masters discards drops = record { bridges = bridges; targets = targets; masters = masters; discards = discards; drops = drops }

-- a draft of this board, whatever its owner
pub record Of (wide : Bool) (board : Board) (draft : Draft) : Type 0 where
  pub width : draft.wide ≡ wide
  pub is : board_of draft ≡ board

-- a draft with this owner
abbrev pub holding : Bool → Board → AgentPlace → Draft
holding wide board owner = record { wide = wide; board = board; owner = owner }

abbrev pub Is : Draft → Draft → Type 0
Is it draft = draft ≡ it

-- a step that is not refused
pub skip : {A F : Type 0} (test : Bool) (fault : F) (step : Result A F) → test ≡ false → cond test (Err fault) step ≡ step
skip true fault step h = absurd (cc)
skip false fault step h = refl
