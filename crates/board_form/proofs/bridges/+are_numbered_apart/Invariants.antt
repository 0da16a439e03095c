use Rattle.std.proofs.Common.{length}
use Rattle.board_form.proofs.bridges.+are_numbered_apart.Given as goal

abbrev pub decreases-are_numbered_apart : goal.decreases-are_numbered_apart
decreases-are_numbered_apart l = length l.bridges.now
