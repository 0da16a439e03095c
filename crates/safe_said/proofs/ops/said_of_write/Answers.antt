use Rattle.board_tree.proofs.DecodableLemmas.{IsDecodable-valid}
use Rattle.safe_said.proofs.NamedLemmas.{written_there}
use Rattle.safe_said.proofs.ops.said_of_write.Goals as goal

pub first_named-requires : goal.first_named-requires
first_named-requires c = rw c.board-board.ensures.value (IsDecodable-valid c.args.looks.now.tree.now c.board-board.ensures.valid)

pub said_of_lost-requires : goal.said_of_lost-requires
said_of_lost-requires c = rw c.board-board.ensures.value (IsDecodable-valid c.args.looks.now.tree.now c.board-board.ensures.valid)

pub returns-in-Some : goal.returns-in-Some
returns-in-Some c =
    written_there c.args.looks.now.tree.now c.args.write c.args.op.now c.in-Some.field-0 c.board-board.ensures.valid c.requires (rw c.board-board.ensures.value at c.in-Some.ensures.words)
