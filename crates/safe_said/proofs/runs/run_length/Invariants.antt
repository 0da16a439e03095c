use Rattle.std.proofs.Common.{◌≡◌, ◌-◌, ◌<◌, ◌≤◌, true, length, map, take}
use Rattle.board_writes.specs.Rows.{table_of}
use Rattle.board_writes.specs.Writes.{op_in}
use Rattle.safe_said.specs.Landing.{is_chained}
use Rattle.safe_said.proofs.runs.run_length.Given as goal

-- the first so many are a run
abbrev pub invariant-loop-count : goal.invariant-loop-count
invariant-loop-count l = record {
  some : 0 < l.count;
  within : l.count ≤ length l.writes;
  run : is_chained l.board (table_of l.table) (map op_in (take l.count l.writes)) ≡ true;
}

abbrev pub decreases-loop-count : goal.decreases-loop-count
decreases-loop-count l = length l.writes - l.count
