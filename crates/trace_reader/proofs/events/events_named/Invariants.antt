use Rattle.std.proofs.Common.{◌≡◌, ◌+◌, ◌-◌, ◌≤◌, [], length, drop}
use Rattle.board_text.specs.Lines.{lines_of}
use Rattle.trace_reader.specs.Traces.{events_read}
use Rattle.trace_reader.proofs.events.events_named.Given as goal

-- what the lines to come make of the events so far is what all these lines read as
abbrev pub invariant-loop-line : goal.invariant-loop-line
invariant-loop-line l = record {
  within : l.at ≤ length l.bytes + 1;
  counted : l.number ≤ l.at + 1;
  lines : events_read l.names l.number l.events.items (lines_of (drop l.at l.bytes)) ≡ events_read l.names l.first [] (lines_of (drop l.from l.bytes));
}

abbrev pub decreases-loop-line : goal.decreases-loop-line
decreases-loop-line l = length l.bytes + 1 - l.at
