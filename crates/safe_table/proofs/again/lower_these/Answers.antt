use Rattle.board_tree.proofs.DecodableLemmas.{IsDecodable-valid}
use Rattle.safe_table.proofs.again.lower_these.Goals as goal

pub mark_behind-requires : goal.mark_behind-requires
mark_behind-requires c = rw c.board.ensures.value (IsDecodable-valid c.args.tree.now c.board.ensures.valid)
