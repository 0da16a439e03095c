use Rattle.board_writes.specs.Raising.{KeepsRaising}
use Rattle.board_writes.proofs.writers.raising.keep_all.Given as goal

-- so far what is listed is so
abbrev pub invariant-loop-poll : goal.invariant-loop-poll
invariant-loop-poll l = KeepsRaising l.words l.raising
