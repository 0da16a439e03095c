use Rattle.std.proofs.Common.{◌≡◌, take}
use Rattle.history_model.specs.World.{world_of}
use Rattle.history_model.specs.Runs.{history_of}
use Rattle.judge_lanes.specs.Bridge.{lanes_of}
use Rattle.judge_lanes.proofs.RoomLemmas.{Counted}
use Rattle.plain_replay.proofs.lanes.lanes_after_events.Given as goal

-- the lanes after the events so far, each of which counted at most one arrival
abbrev pub invariant-loop-event : goal.invariant-loop-event
invariant-loop-event l =
    (l.lanes ≡ lanes_of (world_of l.board (history_of (take l.event-index l.before))) l.bus) × Counted l.event-index l.lanes
