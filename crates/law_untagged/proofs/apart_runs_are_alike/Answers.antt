use Rattle.board_model.proofs.form_laws.ValidLemmas.{IsTree-valid}
use Rattle.law_lanes.proofs.WellFormedLemmas.{WellFormed-numbers, WellFormed-single}
use Rattle.board_model.proofs.Laws.{op_formed}
use Rattle.law_untagged.proofs.RunLemmas.{runs_alike}
use Rattle.law_untagged.proofs.apart_runs_are_alike.Goals as goal

pub returns : goal.returns
returns c =
    λ board h valid apart.
    let formed = valid.well_formed in
    let alike = runs_alike board (IsTree-valid board valid) (WellFormed-numbers board formed) (WellFormed-single board formed) (λ q op is. op_formed board q op formed is) apart h in
    (alike.run, alike.untagged)
