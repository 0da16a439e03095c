use Rattle.std.proofs.Common.{◌≡◌, ◌-◌, length}
use Rattle.history_model.specs.Lanes.{lowest_free, lowest_free_from}
use Rattle.judge_lanes.proofs.lane_tables.lowest_free.Given as goal

-- the lowest free number is the lowest from this one on
abbrev pub invariant-loop : goal.invariant-loop
invariant-loop l = (lowest_free_from (length l.held - l.index) l.number l.held ≡ lowest_free l.held) × (l.number ≡ l.index)
