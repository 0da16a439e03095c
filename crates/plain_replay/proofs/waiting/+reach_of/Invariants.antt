use Rattle.plain_replay.proofs.waiting.+reach_of.Given as goal

abbrev pub decreases-reach_of : goal.decreases-reach_of
decreases-reach_of l = l.most
