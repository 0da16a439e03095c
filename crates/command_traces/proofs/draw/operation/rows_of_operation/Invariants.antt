use Rattle.std.proofs.Common.{◌≡◌, drop}
use Rattle.command_traces.specs.draw.Operations.{rows_after, rows_of_operation}
use Rattle.command_traces.proofs.draw.operation.rows_of_operation.Given as goal

-- the rows so far, and what is to come
abbrev pub invariant-loop-before : goal.invariant-loop-before
invariant-loop-before l = rows_after l.board l.word l.before (drop l.before l.events) l.rows ≡ rows_of_operation l.board l.events l.word
