use Rattle.board_writes.specs.Writes.{KeepsLists}
use Rattle.board_writes.proofs.writers.lists.keep_all.Given as goal

-- so far what is kept is so
abbrev pub invariant-loop-poll : goal.invariant-loop-poll
invariant-loop-poll l = KeepsLists l.words l.lists
