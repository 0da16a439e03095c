use Rattle.std.proofs.Common.{◌≡◌, ◌<◌, ℕ, Some, length, slice_get}
use Rattle.judge_next.specs.Lines.{lines_of}
use Rattle.judge_next.proofs.course.all_lines.Given as goal

-- those of the buses so far
abbrev pub invariant-loop-bus : goal.invariant-loop-bus
invariant-loop-bus l = (length l.lines.items ≡ l.bus) × ((bus : ℕ) → bus < l.bus → slice_get l.lines.items bus ≡ Some (lines_of l.board bus))
