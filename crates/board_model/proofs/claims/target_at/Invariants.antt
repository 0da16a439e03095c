use Rattle.std.proofs.Common.{◌≡◌, ◌<◌, take, drop, ◌==◌, ◌&&◌}
use Rattle.std.specs.List.{list_any, position_from, AllByRecursion}
use Rattle.board_model.specs.declared.agents.Target.{Target}
use Rattle.board_model.specs.Claims.{range_holds}
use Rattle.board_model.proofs.claims.target_at.Given as goal

-- the place is that among the targets to come, and those before are each on one of 256 buses
abbrev pub invariant-loop-index : goal.invariant-loop-index
invariant-loop-index l =
    (position_from (λ (target : Target). target.bus == l.bus && list_any (range_holds l.space l.address) target.ranges) l.index (drop l.index l.board.targets)
    ≡ position_from (λ (target : Target). target.bus == l.bus && list_any (range_holds l.space l.address) target.ranges) 0 l.board.targets)
    × AllByRecursion (λ (target : Target). target.bus < 256) (take l.index l.board.targets)
