use Rattle.board_tree.proofs.DecodableLemmas.{IsDecodable-valid}
use Rattle.safe_said.proofs.ops.said_of_reached.Goals as goal

pub first_named-requires : goal.first_named-requires
first_named-requires c = rw c.board-board.ensures.value (IsDecodable-valid c.args.looks.now.tree.now c.board-board.ensures.valid)
