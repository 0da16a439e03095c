use Rattle.std.proofs.Common.{◌≡◌, ◌+◌, ◌≤◌, false, length}
use Rattle.std.specs.Vec.{vec_capacity}
use Rattle.bus_segment.specs.turns.Works.{seen, Works}
use Rattle.bus_segment.proofs.turns.receiving.receive_from.Given as goal

-- each time an item was received, and made an event
abbrev pub invariant-loop-received : goal.invariant-loop-received
invariant-loop-received g l = record {
  going : l.segment.stopped ≡ false;
  spare : vec_capacity l.initial.segment.events ≤ vec_capacity l.segment.events;
  counted : length l.segment.events.items ≡ length l.initial.segment.events.items + l._received;
  same_bus : length l.segment.events.items ≡ length l.initial.segment.events.items → l.segment.bus ≡ l.initial.segment.bus;
  same_ends : length l.segment.events.items ≡ length l.initial.segment.events.items → l.segment.ends.items ≡ l.initial.segment.ends.items;
  works : Works {End = g.row.L.Denot} g.L.LaneEnd.had g.L.LaneEnd.sent g.L.LaneEnd.got g.L.LaneEnd.kept g.L.LaneEnd.paired l.board l._received
      (seen l.initial.segment.bus l.initial.segment.stamp l.initial.segment.stopped) (seen l.segment.bus l.segment.stamp l.segment.stopped)
      l.initial.segment.ends.items l.segment.ends.items l.initial.segment.events.items l.segment.events.items;
}
