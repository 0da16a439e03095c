use Rattle.board_writes.proofs.StayLemmas.{run_leaves_out}
use Rattle.board_writes.proofs.polls.stays.is_left_out_in.Goals as goal

pub returns : goal.returns
returns c =
    run_leaves_out c.args.table.now c.requires.ordered c.args.poll c.args.raiser.now c.args.run.now c.parts.result.0.now c.parts.result.1.now c.split_at.result.1.now c.saturating_sub.result c.is_ended_by.result
    c.requires.run c.parts.ensures c.saturating_sub.ensures c.split_at.ensures.back c.is_ended_by.ensures
