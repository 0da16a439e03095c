use Rattle.std.proofs.Common.{◌≡◌, ◌+◌, ◌-◌, ◌≤◌, length, drop}
use Rattle.board_text.specs.Lines.{lines_of}
use Rattle.observe_log.specs.Lines.{Read}
use Rattle.observe_log.specs.Logs.{behind_end}
use Rattle.observe_log.proofs.lines.behind_end.Given as goal

-- the lines so far can be read
abbrev pub invariant-loop-line : goal.invariant-loop-line
invariant-loop-line l = record {
  within : l.at ≤ length l.bytes + 1;
  counted : l.number ≤ l.at + 1;
  lines : (read : Read) → behind_end l.number read (lines_of (drop l.at l.bytes)) ≡ behind_end l.first read (lines_of (drop l.from l.bytes));
}

abbrev pub decreases-loop-line : goal.decreases-loop-line
decreases-loop-line l = length l.bytes + 1 - l.at
