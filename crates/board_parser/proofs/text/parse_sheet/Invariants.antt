use Rattle.std.proofs.Common.{◌≡◌, ◌+◌, ◌-◌, ◌≤◌, length, drop}
use Rattle.std.specs.Prelude.{None}
use Rattle.board_text.specs.Lines.{lines_of}
use Rattle.board_parser.specs.Boards.{read_lines}
use Rattle.board_parser.proofs.text.parse_sheet.Given as goal

-- what the lines to come make of the sheet is what the whole text reads as
abbrev pub invariant-loop-line : goal.invariant-loop-line
invariant-loop-line l = record {
  within : l.at ≤ length l.bytes + 1;
  counted : l.number ≤ l.at + 1;
  lines : read_lines l.sheet l.number (lines_of (drop l.at l.bytes)) ≡ read_lines None 1 (lines_of l.bytes);
}

abbrev pub decreases-loop-line : goal.decreases-loop-line
decreases-loop-line l = length l.bytes + 1 - l.at
