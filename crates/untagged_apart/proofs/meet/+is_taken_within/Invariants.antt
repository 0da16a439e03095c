use Rattle.untagged_apart.proofs.meet.+is_taken_within.Given as goal

abbrev pub decreases-is_taken_within : goal.decreases-is_taken_within
decreases-is_taken_within l = l.most
