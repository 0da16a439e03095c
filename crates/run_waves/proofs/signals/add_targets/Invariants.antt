use Rattle.std.proofs.Common.{◌≡◌, ◌<◌, ◌++◌, take, slice_get}
use Rattle.std.specs.List.{AllByRecursion, filter, flat_map, range_with_len}
use Rattle.board_model.specs.declared.agents.Target.{Target}
use Rattle.run_waves.specs.Signals.{is_target_on, tokens_left}
use Rattle.run_waves.proofs.signals.add_targets.Given as goal

-- the signals of the targets so far; each of them is on one of 256 buses, so they are few
abbrev pub invariant-loop-target : goal.invariant-loop-target
invariant-loop-target l =
    record {
      buses : AllByRecursion (λ (agent : Target). agent.bus < 256) (take l.target l.board.targets);
      so_far : l.signals.items ≡ l.initial.signals.items ++ flat_map tokens_left (filter (λ target. is_target_on l.bus (slice_get l.board.targets target)) (range_with_len 0 l.target));
    }
