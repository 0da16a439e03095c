use Rattle.import_targets.proofs.found.+push_from.Given as goal

abbrev pub decreases-push_from : goal.decreases-push_from
decreases-push_from l = l.steps
