use Rattle.board_writes.proofs.StartLemmas.{FilledTo, started_at}
use Rattle.board_writes.proofs.start.start_all.Given as goal

-- the programs so far
abbrev pub invariant-loop-number : goal.invariant-loop-number
invariant-loop-number l = FilledTo (started_at l.board) l.programs.items l._number
