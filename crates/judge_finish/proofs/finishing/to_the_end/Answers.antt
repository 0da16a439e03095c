use Rattle.std.proofs.Common.{◌≡◌, ◌∷◌, ◌++◌, [], List, sym, subst}
use Rattle.board_model.specs.declared.board.Board.{Board}
use Rattle.history_model.specs.declared.event.Event.{Event}
use Rattle.history_model.specs.Runs.{history_of}
use Rattle.judge_next.specs.Course.{IsCourse}
use Rattle.judge_finish.specs.Finishing.{WentOnBy, Finishes}
use Rattle.judge_finish.proofs.GoingLemmas.{WentOn, history_push, went_on_more, left_fell, finishes}
use Rattle.judge_finish.proofs.finishing.to_the_end.Goals as goal

-- the run goes on with its next event, which lowers what is left
pub loop-event-preserved : goal.loop-event-preserved
loop-event-preserved c =
    let board : Board = c.args.tree.now in
    let whole : List Event = c.loop-event.whole.items in
    let e : Event = c.in-Some.event in
    let pushed : c.push.new.self.items ≡ whole ++ e ∷ [] = c.in_ok-push.ensures.items in
    let by : WentOnBy board (history_of whole) c.go_on.new.course e = c.in-Some.ensures (history_of whole) c.loop-event.invariant.1 in (
      subst (WentOn board c.args.events) (sym pushed) (went_on_more board c.args.events whole e c.loop-event.invariant.0 by.next by.allowed),
      subst (λ (l : List Event). IsCourse board (history_of l) c.go_on.new.course) (sym pushed) (subst (λ h. IsCourse board h c.go_on.new.course) (sym (history_push whole e)) by.course_is),
    )

pub loop-event-smaller : goal.loop-event-smaller
loop-event-smaller c =
    let board : Board = c.args.tree.now in
    let whole : List Event = c.loop-event.whole.items in
    let e : Event = c.in-Some.event in
    let pushed : c.push.new.self.items ≡ whole ++ e ∷ [] = c.in_ok-push.ensures.items in
    let by : WentOnBy board (history_of whole) c.go_on.new.course e = c.in-Some.ensures (history_of whole) c.loop-event.invariant.1 in
    left_fell board whole c.push.new.self.items e pushed by.lowers

-- where there is no next event the run is complete, and all laws hold of it
pub returns : goal.returns
returns c =
    let board : Board = c.args.tree.now in
    let whole : List Event = c.loop-event.whole.items in
    let ends = c.in_default.ensures (history_of whole) c.loop-event.invariant.1 in
    subst (Finishes board c.args.events) (sym c.from_vec.ensures) (finishes board c.args.events whole c.loop-event.invariant.0 ends.0 ends.1)
