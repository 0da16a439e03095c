use Rattle.std.proofs.Common.{◌≡◌, ℕ, List, take}
use Rattle.std.specs.List.{position}
use Rattle.board_model.specs.WellFormed.{is_target_named}
use Rattle.trace_reader.specs.lines.Names.{place_of}
use Rattle.trace_reader.proofs.lines.names.targets_of.Given as goal

abbrev pub invariant-loop-place : goal.invariant-loop-place
invariant-loop-place l = (word : List ℕ) → place_of l.places word ≡ position (is_target_named word) (take l.place l.targets)
