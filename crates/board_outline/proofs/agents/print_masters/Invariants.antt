use Rattle.std.proofs.Common.{◌≡◌, ◌++◌, take, string_bytes}
use Rattle.std.specs.List.{flat_map}
use Rattle.board_outline.specs.Outline.{master_on}
use Rattle.board_outline.proofs.agents.print_masters.Given as goal

-- the text so far
abbrev pub invariant-loop-master : goal.invariant-loop-master
invariant-loop-master l = string_bytes l.text ≡ string_bytes l.initial.text ++ flat_map (master_on l.bus l.depth) (take l.master-index l.masters)
