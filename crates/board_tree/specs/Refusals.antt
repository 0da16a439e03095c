-- How a board that is not valid is refused.
use Rattle.std.specs.Prelude.{Option, Some, None}
use Rattle.board_model.specs.declared.board.Board.{Board}
use Rattle.board_model.specs.Ways.{bound_of}
use Rattle.text_faults.specs.declared.tree.TreeFault.{TreeFault}
use Rattle.board_checks.specs.Faults.{first_fault_of}
use Rattle.board_tree.specs.declared.refusal.TreeRefusal.{TreeRefusal}
use Rattle.board_tree.specs.declared.refusal.TreeRefusal.TheVariants.{Fault, AboveBound}

-- by its first fault, or else by its bound; the board is given back
abbrev pub refusal_by : Board → Option TreeFault → TreeRefusal
refusal_by board (Some fault) = Fault fault board
refusal_by board None = AboveBound (bound_of board) board

-- the same by the board alone
abbrev pub refusal_of : Board → TreeRefusal
refusal_of board = refusal_by board (first_fault_of board)
