use Rattle.import_bridges.proofs.devices.+greatest_free.Given as goal

abbrev pub decreases-greatest_free : goal.decreases-greatest_free
decreases-greatest_free l = l.below
