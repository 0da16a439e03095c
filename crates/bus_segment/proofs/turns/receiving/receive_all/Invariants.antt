use Rattle.std.proofs.Common.{◌≡◌, ◌*◌, ◌≤◌, false, length}
use Rattle.std.specs.Vec.{vec_capacity}
use Rattle.board_model.specs.Limits.{most_waiting}
use Rattle.bus_segment.specs.turns.Works.{seen, Works}
use Rattle.bus_segment.proofs.turns.ReceiveLemmas.{NoneBefore}
use Rattle.bus_segment.proofs.turns.receiving.receive_all.Given as goal

-- what came at the ports before was received
abbrev pub invariant-loop-place : goal.invariant-loop-place
invariant-loop-place g l = record {
  spare : vec_capacity l.initial.segment.events ≤ vec_capacity l.segment.events;
  same_bus : length l.segment.events.items ≡ length l.initial.segment.events.items → l.segment.stopped ≡ false → l.segment.bus ≡ l.initial.segment.bus;
  none : length l.segment.events.items ≡ length l.initial.segment.events.items → l.segment.stopped ≡ false → NoneBefore {End = g.row.L.Denot} g.L.LaneEnd.had g.L.LaneEnd.got l.place l.segment.ends.items;
  works : Works {End = g.row.L.Denot} g.L.LaneEnd.had g.L.LaneEnd.sent g.L.LaneEnd.got g.L.LaneEnd.kept g.L.LaneEnd.paired l.board (most_waiting * l.place)
      (seen l.initial.segment.bus l.initial.segment.stamp l.initial.segment.stopped) (seen l.segment.bus l.segment.stamp l.segment.stopped)
      l.initial.segment.ends.items l.segment.ends.items l.initial.segment.events.items l.segment.events.items;
}
