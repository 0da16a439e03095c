use Rattle.std.proofs.Common.{◌≡◌, ◌++◌, take, string_bytes}
use Rattle.std.specs.List.{flat_map}
use Rattle.board_outline.specs.Outline.{target_on}
use Rattle.board_outline.proofs.agents.print_targets.Given as goal

-- the text so far
abbrev pub invariant-loop-target : goal.invariant-loop-target
invariant-loop-target l = string_bytes l.text ≡ string_bytes l.initial.text ++ flat_map (target_on l.bus l.depth) (take l.target-index l.targets)
