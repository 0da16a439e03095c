use Rattle.board_tree.proofs.DecodableLemmas.{IsDecodable-valid}
use Rattle.judge_adverse.proofs.operation.read_of.Goals as goal

pub reads_word-requires : goal.reads_word-requires
reads_word-requires c = rw c.board-board.ensures.value (IsDecodable-valid c.args.tree.now c.board-board.ensures.valid)
