use Rattle.safe_table.proofs.CloseLemmas.{bounds_ordered}
use Rattle.safe_table.proofs.TellLemmas.{stays_low}
use Rattle.safe_table.proofs.fall.lower_poll.Goals as goal

pub returns-then-not-tells-clause-lowers : goal.returns-then-not-tells-clause-lowers
returns-then-not-tells-clause-lowers c = stays_low c.args.tree.now c.args.op c.args.table.now c.requires.bounds.polls (c.tells.ensures c.if-not-tells.true)

pub most_known-requires-clause-ordered : goal.most_known-requires-clause-ordered
most_known-requires-clause-ordered c = bounds_ordered c.args.tree.now c.args.table.now c.requires.bounds
