use Rattle.std.proofs.Common.{◌+◌}
use Rattle.board_writes.proofs.StartLemmas.{started_poll, started_other, started_same}
use Rattle.board_writes.proofs.start.start_of.Goals as goal
use Rattle.board_writes.proofs.start.start_of.Goals.{then-is_poll, else-is_poll}

pub loop-place-preserved : goal.loop-place-preserved
loop-place-preserved c =
    elim c.if-is_poll.branch [
      | then-is_poll w ↦
          started_same c.args.all.now c.args.ops.now _ c.push.new.self.items _ c.push-in-loop-place.new.self.items (c.loop-place.place + 1) c.if-is_poll.end (c.loop-place.place + 1)
          (started_poll c.args.all.now c.args.ops.now c.loop-place.rows.items c.loop-place.lasts.items c.loop-place.end c.loop-place.place c.index-ops-place.result c.in_ok-row_behind.field-0 c.is_tried-is_poll.result
          c.loop-place-test.true c.index-ops-place.is c.loop-place.invariant c.is_tried-is_poll.ensures w.if-is_poll.true c.in_ok-row_behind.ensures)
          c.in_ok-push.ensures.items c.in_ok-push-2.ensures.items w.end-is
      | else-is_poll w ↦
          started_same c.args.all.now c.args.ops.now _ c.push.new.self.items _ c.push-in-loop-place.new.self.items c.loop-place.end c.if-is_poll.end (c.loop-place.place + 1)
          (started_other c.args.all.now c.args.ops.now c.loop-place.rows.items c.loop-place.lasts.items c.loop-place.end c.loop-place.place c.index-ops-place.result c.in_ok-row_behind.field-0 c.is_tried-is_poll.result
          c.loop-place-test.true c.index-ops-place.is c.loop-place.invariant c.is_tried-is_poll.ensures w.if-is_poll.false c.in_ok-row_behind.ensures)
          c.in_ok-push.ensures.items c.in_ok-push-2.ensures.items w.end-is
    ]
