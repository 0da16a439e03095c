use Rattle.board_writes.proofs.StartLemmas.{FilledTo}
use Rattle.board_writes.proofs.KeptLemmas.{poll_kept}
use Rattle.board_writes.proofs.polls.polls.polls_of.Given as goal

-- the operations so far
abbrev pub invariant-loop-place : goal.invariant-loop-place
invariant-loop-place l = FilledTo (poll_kept l.board l.master) l.polls.items l.place
