use Rattle.std.proofs.Common.{◌≡◌, drop}
use Rattle.board_writes.specs.Looks.{known_to}
use Rattle.board_writes.proofs.polls.looks.known_over.Given as goal

-- with the raisers that are left it is what all know
abbrev pub invariant-loop-raiser : goal.invariant-loop-raiser
invariant-loop-raiser l = known_to l.table (drop l.raiser-index l.raisers) l.least l.other ≡ known_to l.table l.raisers l.most l.other
