use Rattle.board_writes.specs.Rows.{table_of}
use Rattle.safe_said.proofs.RunLemmas.{runs_more}
use Rattle.safe_said.proofs.runs.runs_of.Goals as goal

pub loop-left-preserved : goal.loop-left-preserved
loop-left-preserved c =
    let two =
    runs_more c.args.board.now (table_of c.args.table.now) c.args.writes.now c.loop-left.left.now c.split_at.result.0.now c.split_at.result.1.now c.loop-left.runs.items c.push.new.self.items c.in_ok-copied.field-0 c.run_length-count.result c.in_ok-push.ensures.items c.in_ok-copied.ensures c.split_at.ensures.front c.split_at.ensures.back
    c.run_length-count.ensures.run c.loop-left.invariant.all c.loop-left.invariant.each in
    record { all = two.0; each = two.1 }
