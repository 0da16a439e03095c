use Rattle.std.proofs.Common.{arith}
use Rattle.board_writes.proofs.StayLemmas.{some_reached, none_reached}
use Rattle.board_writes.proofs.polls.stays.has_reached.Goals as goal

pub returns-in-len1-up : goal.returns-in-len1-up
returns-in-len1-up c =
    some_reached c.args.table.now c.requires.ordered c.args.awaited c.args.writes.now c.split_at.result.1.now _ c.look-known.result c.count_below.result c.has_any_reached.result (omega (arith, c.in-len1-up.len_at_least)) c.look-known.ensures c.requires.run c.count_below.ensures.parts c.split_at.ensures.back c.has_any_reached.ensures

pub returns-in-empty : goal.returns-in-empty
returns-in-empty c = none_reached c.args.table.now c.requires.ordered c.args.awaited c.args.writes.now (omega arith)
