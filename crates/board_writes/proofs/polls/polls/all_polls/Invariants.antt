use Rattle.board_writes.proofs.StartLemmas.{FilledTo}
use Rattle.board_writes.proofs.KeptLemmas.{program_kept}
use Rattle.board_writes.proofs.polls.polls.all_polls.Given as goal

-- the programs so far
abbrev pub invariant-loop-number : goal.invariant-loop-number
invariant-loop-number l = FilledTo (program_kept l.tree) l.programs.items l.number
