use Rattle.import_board.proofs.holds.buses.+all_used.Given as goal

abbrev pub decreases-all_used : goal.decreases-all_used
decreases-all_used l = l.below
