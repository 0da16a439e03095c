-- The board that a draft is of.
use Rattle.std.specs.Prelude.{Bool, [], ◌∷◌, ◌++◌}
use Rattle.board_model.specs.declared.board.Board.{Board}
use Rattle.board_parser.specs.declared.draft.draft.Draft.{Draft}
use Rattle.board_parser.specs.declared.draft.draft.AgentPlace.{AgentPlace}
use Rattle.board_parser.specs.declared.draft.draft.AgentPlace.TheVariants.{Nobody, OfTarget, OfMaster}

-- the board with the target or master that began last behind the others
abbrev pub with_owner : Board → AgentPlace → Board
with_owner board Nobody = board
with_owner board (OfTarget target) = record board { targets = board.targets ++ target ∷ [] }
with_owner board (OfMaster master) = record board { masters = board.masters ++ master ∷ [] }

-- the board so far: the owner stands last in its list
abbrev pub board_of : Draft → Board
board_of draft = with_owner draft.board draft.owner

-- a draft of this board behind whose last line no detail may follow
abbrev pub draft_of : Bool → Board → Draft
draft_of wide board = record { wide = wide; board = board; owner = Nobody }

-- a board with nothing on it
abbrev pub empty_board : Board
empty_board = record { bridges = []; targets = []; masters = []; discards = []; drops = [] }

-- a draft before its second line
abbrev pub first_draft : Bool → Draft
first_draft wide = draft_of wide empty_board
