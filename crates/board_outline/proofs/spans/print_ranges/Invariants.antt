use Rattle.std.proofs.Common.{◌≡◌, ◌++◌, take, string_bytes}
use Rattle.std.specs.List.{flat_map}
use Rattle.board_outline.specs.Outline.{range_text}
use Rattle.board_outline.proofs.spans.print_ranges.Given as goal

-- the text so far
abbrev pub invariant-loop-range : goal.invariant-loop-range
invariant-loop-range l = string_bytes l.text ≡ string_bytes l.initial.text ++ flat_map (range_text l.lead) (take l.range-index l.ranges)
