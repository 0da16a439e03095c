use Rattle.board_model.specs.declared.board.Board.{Board}
use Rattle.history_model.specs.declared.event.Event.{Event}
use Rattle.history_model.specs.Runs.{history_of}
use Rattle.judge_fill.specs.Arriving.{ArrivedNext}
use Rattle.observe_told.specs.declared.woven.Woven.{Woven}
use Rattle.observe_told.specs.Woven.{events_of}
use Rattle.observe_order.proofs.GoingLemmas.{goes_by, left_fell}
use Rattle.observe_order.proofs.going.all_arrive.Goals as goal

-- one arrival more
pub loop-arrival-preserved : goal.loop-arrival-preserved
loop-arrival-preserved c =
    let board : Board = c.args.tree.now in
    let run : Woven = c.loop-arrival.run in
    let e : Event = c.in-Some.arrival in
    let next : ArrivedNext board (history_of (events_of run)) c.arrive.new.course e = c.in-Some.ensures (history_of (events_of run)) c.loop-arrival.invariant.course_is in
    goes_by board e run c.push.new.self c.loop-arrival.course c.arrive.new.course c.loop-arrival.invariant c.in_ok-push.ensures next.course_is

-- which lowers what is left
pub loop-arrival-smaller : goal.loop-arrival-smaller
loop-arrival-smaller c =
    let board : Board = c.args.tree.now in
    let run : Woven = c.loop-arrival.run in
    let e : Event = c.in-Some.arrival in
    let next : ArrivedNext board (history_of (events_of run)) c.arrive.new.course e = c.in-Some.ensures (history_of (events_of run)) c.loop-arrival.invariant.course_is in
    left_fell board e run c.push.new.self c.loop-arrival.course c.loop-arrival.invariant c.in_ok-push.ensures next.lowers
