use Rattle.std.proofs.Common.{◌≡◌, ◌∷◌, ◌++◌, [], List}
use Rattle.board_model.specs.declared.board.Board.{Board}
use Rattle.history_model.specs.declared.event.Event.{Event}
use Rattle.history_model.specs.Runs.{history_of}
use Rattle.judge_fill.specs.Arriving.{ArrivedNext}
use Rattle.judge_fill.proofs.ArrivingLemmas.{arriving_more, left_fell}
use Rattle.judge_fill.proofs.arriving.all_arrive.Goals as goal

-- one arrival more
pub loop-arrival-preserved : goal.loop-arrival-preserved
loop-arrival-preserved c =
    let board : Board = c.args.tree.now in
    let whole : List Event = c.loop-arrival.whole.items in
    let e : Event = c.in-Some.arrival in
    let pushed : c.push.new.self.items ≡ whole ++ e ∷ [] = c.in_ok-push.ensures.items in
    let next : ArrivedNext board (history_of whole) c.arrive.new.course e = c.in-Some.ensures (history_of whole) c.loop-arrival.invariant.course_is in
    arriving_more board (history_of c.args.whole.now.items) whole c.push.new.self.items e c.loop-arrival.course c.arrive.new.course pushed c.loop-arrival.invariant next

-- which lowers what is left
pub loop-arrival-smaller : goal.loop-arrival-smaller
loop-arrival-smaller c =
    let board : Board = c.args.tree.now in
    let whole : List Event = c.loop-arrival.whole.items in
    let e : Event = c.in-Some.arrival in
    let pushed : c.push.new.self.items ≡ whole ++ e ∷ [] = c.in_ok-push.ensures.items in
    let next : ArrivedNext board (history_of whole) c.arrive.new.course e = c.in-Some.ensures (history_of whole) c.loop-arrival.invariant.course_is in
    left_fell board whole c.push.new.self.items e pushed next.lowers
