use Rattle.std.proofs.Common.{take, sym, ap}
use Rattle.std.specs.List.{filter, list_any}
use Rattle.board_writes.specs.Stretches.{joined, is_reached_at}
use Rattle.board_writes.specs.Polls.{raises_it}
use Rattle.board_writes.proofs.StayLemmas.{one_reached}
use Rattle.board_writes.proofs.polls.stays.is_last_reached.Goals as goal

pub returns-in-Some : goal.returns-in-Some
returns-in-Some c =
    one_reached c.args.table.now c.requires.ordered c.args.poll (joined c.args.writes.now) (filter (raises_it c.args.awaited) (take c.args.count c.args.run.now)) c.in-Some.last c.is_reached.result c.in-Some.ensures c.is_reached.ensures

pub returns-in-None : goal.returns-in-None
returns-in-None c = sym (ap (list_any (is_reached_at c.args.table.now)) c.in-None.ensures)
