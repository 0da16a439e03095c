use Rattle.std.proofs.Common.{◌≡◌, ℕ, ◌+◌, ◌≤◌, false, length}
use Rattle.std.specs.Vec.{vec_capacity}
use Rattle.std.specs.Int.{bit_at}
use Rattle.board_model.specs.Limits.{most_lines, most_served}
use Rattle.bus_core.specs.Bus.{shape_of}
use Rattle.bus_segment.specs.turns.Works.{seen, Works, IsServed, AllRetried}
use Rattle.bus_segment.proofs.turns.LineLemmas.{left}
use Rattle.bus_segment.proofs.turns.serving.serve_all.Given as goal

-- those that do not ask any more were served
abbrev pub invariant-grants : goal.invariant-grants
invariant-grants g l = record {
  spare : vec_capacity l.initial.segment.events ≤ vec_capacity l.segment.events;
  bound : length l.segment.events.items + left l.lines most_lines ≤ length l.initial.segment.events.items + most_served;
  served : (line : ℕ) → bit_at l.lines line ≡ 1 → IsServed (shape_of l.initial.segment.bus) line;
  quiet : length l.segment.events.items ≡ length l.initial.segment.events.items → l.segment.stopped ≡ false →
      AllRetried l.board l.lines l.initial.segment.bus l.segment.bus l.initial.segment.ends.items l.segment.ends.items;
  works : Works {End = g.row.L.Denot} g.L.LaneEnd.had g.L.LaneEnd.sent g.L.LaneEnd.got g.L.LaneEnd.kept g.L.LaneEnd.paired l.board most_served
      (seen l.initial.segment.bus l.initial.segment.stamp l.initial.segment.stopped) (seen l.segment.bus l.segment.stamp l.segment.stopped)
      l.initial.segment.ends.items l.segment.ends.items l.initial.segment.events.items l.segment.events.items;
}

abbrev pub decreases-grants : goal.decreases-grants
decreases-grants g l = left l.lines most_lines
