use Rattle.board_writes.proofs.OrderLemmas.{seen_ordered}
use Rattle.safe_said.proofs.polls.said_of_poll.Goals as goal

pub is_raised-requires-clause-ordered : goal.is_raised-requires-clause-ordered
is_raised-requires-clause-ordered c = seen_ordered c.args.looks.now.tree.now c.args.looks.now.table.now c.requires.seen.polls c.requires.seen.largest
