use Rattle.std.proofs.Common.{◌≡◌, ◌≤◌, false, length, take}
use Rattle.std.specs.Vec.{vec_capacity}
use Rattle.bus_core.specs.Bus.{shape_of}
use Rattle.bus_segment.specs.Steps.{Retries}
use Rattle.bus_segment.specs.turns.Works.{seen, Works}
use Rattle.bus_segment.proofs.turns.ServeLemmas.{IsAmong}
use Rattle.bus_segment.proofs.turns.serving.serve_lane.Given as goal

-- what was offered before was presented, or was not offered any more
abbrev pub invariant-loop-offer : goal.invariant-loop-offer
invariant-loop-offer g l = record {
  spare : vec_capacity l.initial.segment.events ≤ vec_capacity l.segment.events;
  quiet : length l.segment.events.items ≡ length l.initial.segment.events.items → l.segment.stopped ≡ false →
      Retries l.board l.initial.segment.bus l.segment.bus l.initial.segment.ends.items l.segment.ends.items (IsAmong (shape_of l.initial.segment.bus) l.place (take l.offer-index l.offer-items));
  works : Works {End = g.row.L.Denot} g.L.LaneEnd.had g.L.LaneEnd.sent g.L.LaneEnd.got g.L.LaneEnd.kept g.L.LaneEnd.paired l.board l.offer-index
      (seen l.initial.segment.bus l.initial.segment.stamp l.initial.segment.stopped) (seen l.segment.bus l.segment.stamp l.segment.stopped)
      l.initial.segment.ends.items l.segment.ends.items l.initial.segment.events.items l.segment.events.items;
}
