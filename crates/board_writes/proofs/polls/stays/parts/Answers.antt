use Rattle.board_writes.proofs.StayLemmas.{parted}
use Rattle.board_writes.proofs.polls.stays.parts.Goals as goal

pub returns : goal.returns
returns c = parted c.args.table.now c.args.poll c.args.run.now c.split_at.result.0.now c.split_at.result.1.now c.count_before.result c.count_before.ensures.parts c.split_at.ensures.front c.split_at.ensures.back
