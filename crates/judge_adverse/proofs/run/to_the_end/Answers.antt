use Rattle.std.proofs.Common.{◌≡◌, ◌∷◌, ◌++◌, [], ◌∙◌, ap, true, false, List, Bool, Option, Some, None, sym, subst}
use Rattle.pci_command.specs.declared.op_id.OpId.{OpId}
use Rattle.board_model.specs.declared.board.Board.{Board}
use Rattle.history_model.specs.declared.event.Event.{Event}
use Rattle.history_model.specs.Runs.{history_of}
use Rattle.judge_adverse.specs.declared.run.Pair.{Pair}
use Rattle.judge_adverse.specs.Turns.{NothingMayCome, WentOnBy}
use Rattle.judge_adverse.specs.Runs.{held_back, IsAdverse}
use Rattle.judge_adverse.proofs.EarlyLemmas.{RunsSoFar, runs_none, runs_more, left_fell, shows, waits}
use Rattle.judge_adverse.proofs.run.to_the_end.Goals as goal

pub loop-event-init : goal.loop-event-init
loop-event-init c = runs_none c.args.tree.now c.args.pair c.args.ring.now c.args.course.now _ c.requires.course c.requires.ring c.requires.idle c.new-events.ensures.items

-- the run goes on by what comes next, which lowers what is left
pub loop-event-preserved : goal.loop-event-preserved
loop-event-preserved c =
    let board : Board = c.args.tree.now in
    let events : List Event = c.loop-event.events.items in
    let e : Event = c.in-Some.event in
    let pushed : c.push.new.self.items ≡ events ++ e ∷ [] = c.in_ok-push.ensures.items in
    let by : WentOnBy board (history_of events) (held_back c.args.pair c.loop-event.ended) c.go_on.new.course e =
    subst (λ (held : Option OpId). WentOnBy board (history_of events) held c.go_on.new.course e) c.held_back.ensures (c.in-Some.ensures.goes (history_of events) c.loop-event.invariant.course_is c.loop-event.invariant.idle_is) in
    runs_more board c.args.pair c.loop-event.ring c.go_on.new.ring c.loop-event.course c.go_on.new.course events c.push.new.self.items c.loop-event.ended c.ends-ended.result e
    c.board-valid.ensures.valid c.requires.pair c.loop-event.invariant by c.go_on.ensures.ring (c.in-Some.ensures.knows (history_of events) c.loop-event.invariant.course_is c.loop-event.invariant.idle_is) c.ends-ended.ensures pushed

pub loop-event-smaller : goal.loop-event-smaller
loop-event-smaller c =
    let board : Board = c.args.tree.now in
    let events : List Event = c.loop-event.events.items in
    let e : Event = c.in-Some.event in
    let pushed : c.push.new.self.items ≡ events ++ e ∷ [] = c.in_ok-push.ensures.items in
    let by = c.in-Some.ensures.goes (history_of events) c.loop-event.invariant.course_is c.loop-event.invariant.idle_is in
    left_fell board events c.push.new.self.items e pushed by.lowers

-- where nothing may come next the read read early, or the run waits for the write
pub returns-then-ended : goal.returns-then-ended
returns-then-ended c =
    let board : Board = c.args.tree.now in
    let pair : Pair = c.args.pair in
    let events : List Event = c.loop-event.events.items in
    let ended : c.loop-event.ended ≡ true = cc in
    let so : RunsSoFar board pair c.loop-event.ring c.loop-event.course events true = subst (λ (b : Bool). RunsSoFar board pair c.loop-event.ring c.loop-event.course events b) ended c.loop-event.invariant in
    let ends = c.in_default.ensures.goes (history_of events) c.loop-event.invariant.course_is c.loop-event.invariant.idle_is in
    let nothing : NothingMayCome board (history_of events) None = subst (λ (held : Option OpId). NothingMayCome board (history_of events) held) (c.held_back.ensures ∙ ap (held_back pair) ended) ends.0 in
    subst (IsAdverse board pair.read pair.write) (sym c.from_vec.ensures) (shows board pair c.loop-event.ring c.loop-event.course events c.board-valid.ensures.valid so nothing ends.1)

pub returns-else-ended : goal.returns-else-ended
returns-else-ended c =
    let board : Board = c.args.tree.now in
    let pair : Pair = c.args.pair in
    let events : List Event = c.loop-event.events.items in
    let ended : c.loop-event.ended ≡ false = cc in
    let so : RunsSoFar board pair c.loop-event.ring c.loop-event.course events false = subst (λ (b : Bool). RunsSoFar board pair c.loop-event.ring c.loop-event.course events b) ended c.loop-event.invariant in
    let ends = c.in_default.ensures.goes (history_of events) c.loop-event.invariant.course_is c.loop-event.invariant.idle_is in
    let nothing : NothingMayCome board (history_of events) (Some pair.write) = subst (λ (held : Option OpId). NothingMayCome board (history_of events) held) (c.held_back.ensures ∙ ap (held_back pair) ended) ends.0 in
    waits board pair c.loop-event.ring c.loop-event.course events so nothing
