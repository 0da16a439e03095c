use Rattle.std.proofs.Common.{◌≡◌, ◌++◌, string_bytes}
use Rattle.std.specs.List.{flat_map, range_with_len}
use Rattle.board_outline.specs.Outline.{place_text}
use Rattle.board_outline.proofs.buses.print_buses.Given as goal

-- the text of the buses so far
abbrev pub invariant-loop-bus : goal.invariant-loop-bus
invariant-loop-bus l = string_bytes l.text ≡ string_bytes l.initial.text ++ flat_map (place_text l.board) (range_with_len 0 l.bus)
