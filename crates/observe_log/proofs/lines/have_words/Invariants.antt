use Rattle.std.proofs.Common.{◌≡◌, ◌+◌, ◌-◌, length, drop}
use Rattle.std.specs.List.{list_any}
use Rattle.board_text.specs.Lines.{lines_of}
use Rattle.observe_log.specs.Logs.{has_words}
use Rattle.observe_log.proofs.lines.have_words.Given as goal

-- the lines so far have none
abbrev pub invariant-loop-line : goal.invariant-loop-line
invariant-loop-line l = list_any has_words (lines_of (drop l.at l.bytes)) ≡ list_any has_words (lines_of (drop l.from l.bytes))

abbrev pub decreases-loop-line : goal.decreases-loop-line
decreases-loop-line l = length l.bytes + 1 - l.at
