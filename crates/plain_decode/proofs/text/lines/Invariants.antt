use Rattle.std.proofs.Common.{◌≡◌, ◌+◌, ◌-◌, ◌≤◌, ◌++◌, length, drop}
use Rattle.board_text.specs.Lines.{lines_of}
use Rattle.plain_decode.specs.Text.{token_lines, first_fault}
use Rattle.plain_decode.proofs.text.lines.Given as goal

-- the lines so far, and then those of the rest; no fault so far
abbrev pub invariant-loop-line : goal.invariant-loop-line
invariant-loop-line l = record {
  within : l.at ≤ length l.bytes + 1;
  counted : l.number ≤ l.at + 1;
  lines : l.found.items ++ token_lines l.number l.at (lines_of (drop l.at l.bytes)) ≡ token_lines 1 0 (lines_of l.bytes);
  fault : first_fault l.number (lines_of (drop l.at l.bytes)) ≡ first_fault 1 (lines_of l.bytes);
}

abbrev pub decreases-loop-line : goal.decreases-loop-line
decreases-loop-line l = length l.bytes + 1 - l.at
