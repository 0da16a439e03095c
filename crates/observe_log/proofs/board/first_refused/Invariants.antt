use Rattle.std.proofs.Common.{◌≡◌, ◌+◌, ◌-◌, ◌≤◌, length, drop}
use Rattle.board_text.specs.Lines.{lines_of}
use Rattle.observe_log.specs.Boards.{first_refused}
use Rattle.observe_log.proofs.board.first_refused.Given as goal

-- what the lines to come make is what all lines make
abbrev pub invariant-loop-line : goal.invariant-loop-line
invariant-loop-line l = record {
  within : l.at ≤ length l.part + 1;
  counted : l.number ≤ l.at + 1;
  lines : first_refused l.number (lines_of (drop l.at l.part)) ≡ first_refused 1 (lines_of l.part);
}

abbrev pub decreases-loop-line : goal.decreases-loop-line
decreases-loop-line l = length l.part + 1 - l.at
