use Rattle.std.proofs.Common.{sym}
use Rattle.board_writes.specs.Writes.{writes_at}
use Rattle.board_writes.proofs.PollLemmas.{poll_is}
use Rattle.board_writes.proofs.polls.kept.kept_of.Goals as goal

pub returns-in-Some : goal.returns-in-Some
returns-in-Some c =
    poll_is c.args.board.now c.args.op c.in-Some.awaited c.opens.result c.is_firm.result (writes_at c.in-Some.awaited.word c.args.writers.now)
    (sym c.in-Some.ensures) (c.requires.lists.of_word c.in-Some.awaited.word) c.opens.ensures c.is_firm.ensures
