use Rattle.std.proofs.Common.{◌+◌, ℕ, List, take, sym, ap, subst}
use Rattle.board_model.specs.declared.board.Board.{Board}
use Rattle.history_model.specs.declared.event.Event.{Event}
use Rattle.history_model.specs.Runs.{history_of}
use Rattle.judge_next.specs.declared.course.Course.{Course}
use Rattle.judge_next.specs.Course.{IsCourse}
use Rattle.judge_fill.specs.Filling.{PlacedEarly}
use Rattle.judge_fill.proofs.PlacedLemmas.{placed_arrival, placed_act, act_refused}
use Rattle.judge_fill.proofs.filling.take_acts.Goals as goal
use Rattle.judge_fill.proofs.filling.take_acts.Goals.{in-Act+in-Ok+in_ok-put-in-Ok, in-Arrive}

-- an act that is not allowed
pub returns-in-Err-clause-err : goal.returns-in-Err-clause-err
returns-in-Err-clause-err c =
    let whole : List Event = c.loop-index.whole.items in
    act_refused c.args.tree.now c.args.events.now whole c.loop-index.index _ c.in-Act.bus c.in-Act.by c.in-Act.op c.in-Act.step c.in-Act.place c.in-Err.why c.requires.valid
    c.loop-index-test.true c.in-Act.is c.loop-index.invariant.0 (c.in-Err.ensures.verdict (history_of whole) c.loop-index.invariant.1)

-- one event more: an act with the arrivals behind it, or an arrival that is left away
pub loop-index-preserved : goal.loop-index-preserved
loop-index-preserved c =
    let board : Board = c.args.tree.now in
    let events : List Event = c.args.events.now in
    let i : ℕ = c.loop-index.index in
    let whole : List Event = c.loop-index.whole.items in
    let Filled : List Event → Course → Type 0 = λ xs k. PlacedEarly board (take (i + 1) events) xs × IsCourse board (history_of xs) k in
    elim c.match-event.branch [
      | in-Act+in-Ok+in_ok-put-in-Ok w ↦
          let arrived = w.in_ok-put-in-Ok.ensures in
          let placed = placed_act board events whole w.put.new.whole.items i _ w.in-Act.bus w.in-Act.by w.in-Act.op w.in-Act.step w.in-Act.place w.put.new.course
          c.loop-index-test.true w.in-Act.is c.loop-index.invariant.0 arrived in
          let done : Filled w.put.new.whole.items w.put.new.course = (placed, arrived.arriving.course_is) in
          subst (λ k. Filled c.match-event.whole.items k) (sym w.course-is) (subst (λ xs. Filled xs w.put.new.course) (sym (ap (λ v. v.items) w.whole-is)) done)
      | in-Arrive w ↦
          let placed = placed_arrival board events whole i _ w.in-Arrive.lane w.in-Arrive.mark c.loop-index-test.true w.in-Arrive.is c.loop-index.invariant.0 in
          let done : Filled whole c.loop-index.course = (placed, c.loop-index.invariant.1) in
          subst (λ k. Filled c.match-event.whole.items k) (sym w.course-is) (subst (λ xs. Filled xs c.loop-index.course) (sym (ap (λ v. v.items) w.whole-is)) done)
    ]
