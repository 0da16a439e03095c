-- A board text that is read as a valid board, or refused.
use Rattle.std.specs.Prelude.{ℕ, ◌≡◌, List, Some, None, Ok}
use Rattle.board_model.specs.declared.board.Board.{Board}
use Rattle.board_model.specs.Valid.{IsValid}
use Rattle.board_parser.specs.Boards.{board_read}
use Rattle.board_tree.specs.declared.refusal.TreeRefusal.{TreeRefusal}
use Rattle.board_tree.specs.declared.refusal.TreeRefusal.TheVariants.{Fault, AboveBound}
use Rattle.program_status.specs.declared.status.BoardFault.{BoardFault}
use Rattle.program_status.specs.declared.status.BoardFault.TheVariants.{Tree, Bound}
use Rattle.program_status.specs.declared.status.Status.{Status}
use Rattle.program_status.specs.declared.status.Status.TheVariants.{BadBoard}
use Rattle.program_input.specs.Refusals.{tree_fault, board_refusal, RefusesBy}

-- the input is the text of this valid board
pub record ReadsBoard (input : List ℕ) (board : Board) : Type 0 where
  pub read : board_read input ≡ Ok board
  pub valid : IsValid board

-- it is not the text of a valid board: refused by its first fault, or for want of memory
abbrev pub RefusesBoard : List ℕ → Status → Type 0
RefusesBoard input status = RefusesBy (board_refusal input) status

-- it is the text of a valid board
abbrev pub IsBoardText : List ℕ → Type 0
IsBoardText input = board_refusal input ≡ None

-- a tree is of this board, which is valid
pub record IsTreeOf (board tree : Board) : Type 0 where
  pub board_is : tree ≡ board
  pub valid : IsValid board
  pub faultless : tree_fault board ≡ None

-- how a refusal is told
abbrev pub refusal_told : TreeRefusal → Status
refusal_told (Fault fault board) = BadBoard 0 (Tree fault)
refusal_told (AboveBound bound board) = BadBoard 0 (Bound bound)

-- a board is refused as a tree, with line 0
pub record RefusesTree (board : Board) (status : Status) : Type 0 where
  pub fault : BoardFault
  pub fault_is : tree_fault board ≡ Some fault
  pub told : status ≡ BadBoard 0 fault
