-- What is listed of a board is what is said of its operations.
use Rattle.std.proofs.Common.{◌≡◌, List, [], ◌∷◌, Option, Some, None, refl}
use Rattle.std.specs.Prelude.{All}
use Rattle.std.proofs.lemmas.List.Elements.{All-nil, All-cons, All-append, All-contains}
use Rattle.pci_command.specs.declared.op_id.OpId.{OpId}
use Rattle.board_model.specs.declared.board.Board.{Board}
use Rattle.safe_model.specs.Ops.{ops_by}
use Rattle.safe_model.specs.Clocks.{Table}
use Rattle.safe_model.specs.said.Said.{Said, said_of}
use Rattle.safe_said.specs.AllSaid.{Line, lines_of, said_among, all_said}
use Rattle.command_safe.specs.safe.Answers.{Says}

module _ (board : Board) (table : Table) where
  -- it is said of its operation
  abbrev IsSaid : Line → Type 0
  IsSaid one = said_of board table one.op ≡ Some one.said

  line_said : (o : OpId) (found : Option Said) → said_of board table o ≡ found → All IsSaid (lines_of o found)
  line_said o None is = All-nil IsSaid
  line_said o (Some said) is = All-cons IsSaid (record { op = o; said = said }) [] is (All-nil IsSaid)

  all_listed : (ops : List OpId) → All IsSaid (said_among board table ops)
  all_listed [] = All-nil IsSaid
  all_listed (o ∷ ops) =
      All-append IsSaid (lines_of o (said_of board table o)) (said_among board table ops) (line_said o (said_of board table o) refl) (all_listed ops)

  pub listed : (o : OpId) (said : Said) → Says (all_said board table) o said → said_of board table o ≡ Some said
  listed o said is = All-contains IsSaid (all_said board table) (record { op = o; said = said }) (all_listed (ops_by 0 board.masters)) is
