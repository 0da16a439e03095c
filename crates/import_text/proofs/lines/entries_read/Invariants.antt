use Rattle.std.proofs.Common.{◌≡◌, ◌+◌, ◌-◌, ◌≤◌, ◌++◌, length, drop, vec_len}
use Rattle.board_text.specs.Lines.{lines_of}
use Rattle.import_text.specs.Entries.{entries_of}
use Rattle.import_text.proofs.lines.entries_read.Given as goal

-- the lines so far, and then those of the rest
abbrev pub invariant-loop-line : goal.invariant-loop-line
invariant-loop-line l = record {
  within : l.at ≤ length l.text + 1;
  counted : vec_len l.entries ≤ l.at;
  few : vec_len l.entries ≤ length l.text;
  entries : l.entries.items ++ entries_of (lines_of (drop l.at l.text)) ≡ entries_of (lines_of l.text);
}

abbrev pub decreases-loop-line : goal.decreases-loop-line
decreases-loop-line l = length l.text + 1 - l.at
