use Rattle.untagged_apart.proofs.meet.+meets_within.Given as goal

abbrev pub decreases-meets_within : goal.decreases-meets_within
decreases-meets_within l = l.most
