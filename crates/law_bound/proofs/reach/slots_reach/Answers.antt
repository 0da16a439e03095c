use Rattle.board_model.proofs.form_laws.Laws.{IsTree-valid}
use Rattle.law_lanes.proofs.Laws.{WellFormed-numbers, WellFormed-single}
use Rattle.law_bound.proofs.reach.ReachLemmas.{Reaches-run}
use Rattle.law_bound.proofs.reach.slots_reach.Goals as goal

pub returns : goal.returns
returns c =
    λ board h lane valid run.
    Reaches-run board (IsTree-valid board valid) (WellFormed-numbers board valid.well_formed) (WellFormed-single board valid.well_formed) h run lane
