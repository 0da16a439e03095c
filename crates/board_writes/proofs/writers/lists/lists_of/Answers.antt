use Rattle.board_tree.proofs.DecodableLemmas.{IsDecodable-valid}
use Rattle.board_writes.proofs.writers.lists.lists_of.Goals as goal

pub keep_all-requires-clause-decodable : goal.keep_all-requires-clause-decodable
keep_all-requires-clause-decodable c = rw c.board.ensures.value (IsDecodable-valid c.args.tree.now c.board.ensures.valid)
