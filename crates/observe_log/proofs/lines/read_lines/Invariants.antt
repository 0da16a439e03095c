use Rattle.std.proofs.Common.{◌≡◌, ◌+◌, ◌-◌, ◌≤◌, length, drop}
use Rattle.board_text.specs.Lines.{lines_of}
use Rattle.observe_log.specs.Logs.{lines_read}
use Rattle.observe_log.proofs.lines.read_lines.Given as goal

-- what the lines to come make of what was read so far is what all these lines read as
abbrev pub invariant-loop-line : goal.invariant-loop-line
invariant-loop-line l = record {
  within : l.at ≤ length l.bytes + 1;
  counted : l.number ≤ l.at + 1;
  few : length l.reading.phases ≤ l.at;
  board : l.initiators ≡ l.board;
  lines : lines_read l.board l.number l.reading (lines_of (drop l.at l.bytes)) ≡ lines_read l.board l.first l.fn.reading (lines_of (drop l.from l.bytes));
}

abbrev pub decreases-loop-line : goal.decreases-loop-line
decreases-loop-line l = length l.bytes + 1 - l.at
