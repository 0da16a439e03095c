use Rattle.std.proofs.Common.{◌≡◌}
use Rattle.std.specs.List.{filter, range_with_len}
use Rattle.board_model.specs.Valid.{is_bus}
use Rattle.engine_segments.proofs.order.buses.Given as goal

-- the buses so far
abbrev pub invariant-loop-bus : goal.invariant-loop-bus
invariant-loop-bus l = l.buses.items ≡ filter (is_bus l.board) (range_with_len 0 l.bus)
