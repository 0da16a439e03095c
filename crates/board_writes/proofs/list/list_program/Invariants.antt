use Rattle.std.proofs.Common.{◌≤◌, length}
use Rattle.board_writes.specs.Listed.{AddsPolls}
use Rattle.board_writes.proofs.list.list_program.Given as goal

-- the polls of the operations so far
abbrev pub invariant-loop-place : goal.invariant-loop-place
invariant-loop-place l = (l.place ≤ length l.program) × AddsPolls l.master l.program l.place l.initial.ops.items l.ops.items
