use Rattle.std.proofs.Common.{List, subst}
use Rattle.board_writes.specs.Looks.{TellAlike}
use Rattle.board_writes.specs.Polls.{staying}
use Rattle.board_writes.specs.declared.writers.write.WordWrite.{WordWrite}
use Rattle.board_writes.proofs.polls.kept.raisers_anew.Goals as goal

pub returns : goal.returns
returns c = subst (λ (ws : List WordWrite). TellAlike c.args.table.now c.args.poll c.in_ok-found.found.items (staying c.args.table.now c.args.poll c.args.awaited ws ws)) c.in_ok-writes.ensures c.in_ok-found.ensures
