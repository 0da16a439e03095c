use Rattle.board_writes.proofs.StartLemmas.{FilledTo}
use Rattle.board_writes.proofs.KeptLemmas.{number_kept}
use Rattle.board_writes.proofs.polls.polls.most_numbers.Given as goal

-- the masters so far
abbrev pub invariant-loop-other : goal.invariant-loop-other
invariant-loop-other l = FilledTo (number_kept l.tree l.table l.op l.told l.raisers) l.numbers.items l.other
