use Rattle.board_writes.specs.Rows.{table_of}
use Rattle.safe_said.proofs.MemberLemmas.{keeps_put}
use Rattle.safe_said.proofs.members.Members.list.Goals as goal

pub returns-in_ok-put : goal.returns-in_ok-put
returns-in_ok-put c =
    keeps_put c.args.looks.now.tree.now (table_of c.args.looks.now.table.now) c.args.word c.self.inside.words c.put.new.self c.in_ok-reached.reached (rw (← c.self.view_is) at c.requires.kept) c.in_ok-reached.ensures c.in_ok-put.ensures
