use Rattle.std.proofs.Common.{◌≡◌, ◌<◌, [], map, take, slice_get}
use Rattle.std.specs.List.{AllByRecursion, filter, range_with_len}
use Rattle.board_model.specs.declared.agents.Target.{Target}
use Rattle.bus_targets.specs.State.{TargetView}
use Rattle.bus_targets.specs.Stands.{TargetStands}
use Rattle.engine_segments.specs.First.{has_target}
use Rattle.engine_segments.proofs.agents.targets_on.Given as goal

-- the targets on the bus so far; and each is on one of 256 buses
abbrev pub invariant-loop-place : goal.invariant-loop-place
invariant-loop-place l =
    (map (λ (t : TargetView). t.target) l.targets.items ≡ filter (λ target. has_target l.bus (slice_get l.board.targets target)) (range_with_len 0 l.place))
    × AllByRecursion (TargetStands l.board []) l.targets.items
    × AllByRecursion (λ (target : Target). target.bus < 256) (take l.place l.board.targets)
