use Rattle.std.proofs.Common.{◌≡◌, ◌+◌, ◌-◌, ◌≤◌, length, drop}
use Rattle.std.specs.List.{slice_range}
use Rattle.board_text.specs.Lines.{lines_of}
use Rattle.trace_reader.specs.Traces.{until_events}
use Rattle.board_roundtrip.specs.Cuts.{behind_lines, IsWholeTo}
use Rattle.trace_reader.proofs.parts.find_events.Given as goal

-- the lines so far are none of them `events`, and are the lines of the text up to here
abbrev pub invariant-loop-line : goal.invariant-loop-line
invariant-loop-line l = record {
  from_start : l.from ≤ l.at;
  within : l.at ≤ length l.bytes + 1;
  counted : l.number ≤ l.at + 2;
  number : l.number ≡ length (lines_of (slice_range l.bytes l.from l.at)) + 2;
  whole : IsWholeTo l.bytes l.from l.at;
  lines : length (lines_of (drop l.from l.bytes)) ≡ length (lines_of (slice_range l.bytes l.from l.at)) + length (lines_of (drop l.at l.bytes));
  parts : until_events (lines_of (drop l.from l.bytes)) ≡ behind_lines (lines_of (slice_range l.bytes l.from l.at)) (until_events (lines_of (drop l.at l.bytes)));
}

abbrev pub decreases-loop-line : goal.decreases-loop-line
decreases-loop-line l = length l.bytes + 1 - l.at
