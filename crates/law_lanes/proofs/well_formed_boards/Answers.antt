use Rattle.law_lanes.proofs.WellFormedLemmas.{WellFormed-numbers, WellFormed-depths, WellFormed-single}
use Rattle.law_lanes.proofs.well_formed_boards.Goals as goal

pub returns : goal.returns
returns c = record { numbers = WellFormed-numbers; depths = WellFormed-depths; single = WellFormed-single }
