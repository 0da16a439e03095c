use Rattle.board_tree.proofs.DecodableLemmas.{IsDecodable-valid}
use Rattle.safe_said.proofs.ops.said_of_named.Goals as goal

pub said_of_nowhere-requires : goal.said_of_nowhere-requires
said_of_nowhere-requires c = rw c.board.ensures.value (IsDecodable-valid c.args.looks.now.tree.now c.board.ensures.valid)
