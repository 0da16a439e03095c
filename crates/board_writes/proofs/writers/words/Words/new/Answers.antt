use Rattle.board_writes.proofs.WriteLemmas.{lists_all}
use Rattle.board_writes.proofs.writers.words.Words.new.Goals as goal

pub returns : goal.returns
returns c = lists_all c.args.tree.now c.new.result c.list_writes.new.writers c.new.ensures c.in_ok-list_writes.ensures
