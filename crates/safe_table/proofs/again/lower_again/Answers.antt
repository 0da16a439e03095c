use Rattle.board_tree.proofs.DecodableLemmas.{IsDecodable-valid}
use Rattle.safe_table.proofs.CloseLemmas.{bounds_ordered}
use Rattle.safe_table.proofs.again.lower_again.Goals as goal

pub order_of-requires : goal.order_of-requires
order_of-requires c = bounds_ordered c.args.tree.now c.args.table.now c.requires.bounds

pub of-requires : goal.of-requires
of-requires c = rw c.board.ensures.value (IsDecodable-valid c.args.tree.now c.board.ensures.valid)
