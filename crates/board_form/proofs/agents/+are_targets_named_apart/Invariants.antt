use Rattle.std.proofs.Common.{length}
use Rattle.board_form.proofs.agents.+are_targets_named_apart.Given as goal

abbrev pub decreases-are_targets_named_apart : goal.decreases-are_targets_named_apart
decreases-are_targets_named_apart l = length l.targets.now
