use Rattle.std.proofs.Common.{List, subst}
use Rattle.board_writes.specs.Looks.{TellAlike}
use Rattle.board_writes.specs.Polls.{staying}
use Rattle.board_writes.specs.declared.writers.write.WordWrite.{WordWrite}
use Rattle.board_writes.proofs.polls.kept.raisers_for.Goals as goal

pub returns-in_ok-found-in-Some-Some : goal.returns-in_ok-found-in-Some-Some
returns-in_ok-found-in-Some-Some c = subst (λ (ws : List WordWrite). TellAlike c.args.table.now c.args.poll c.in_ok-found-in-Some-Some.found.items (staying c.args.table.now c.args.poll c.args.awaited ws ws)) c.in-Some-Some.ensures c.in_ok-found-in-Some-Some.ensures

pub returns-in_ok-found-in_default : goal.returns-in_ok-found-in_default
returns-in_ok-found-in_default c = subst (λ (ws : List WordWrite). TellAlike c.args.table.now c.args.poll c.in_ok-found-in_default.found.items (staying c.args.table.now c.args.poll c.args.awaited ws ws)) c.of_word-words.ensures.at c.in_ok-found-in_default.ensures
