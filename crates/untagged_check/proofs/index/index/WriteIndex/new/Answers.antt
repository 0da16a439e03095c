use Rattle.untagged_check.proofs.index.PendingLemmas.{indexes}
use Rattle.untagged_check.proofs.index.index.WriteIndex.new.Goals as goal

pub returns : goal.returns
returns c = indexes c.args.tree.now c.args.landed.now c.empty-index.result c.list_writes.new.writes c.empty-index.ensures c.in_ok-list_writes.ensures
