use Rattle.observe_log.specs.Loops.{FollowSo}
use Rattle.observe_log.proofs.told.all_follow.Given as goal

-- the acts so far follow
abbrev pub invariant-loop-event : goal.invariant-loop-event
invariant-loop-event l = FollowSo l.log l.board l.events l.lines l.initial.shown l.shown l.event-index l.acts
